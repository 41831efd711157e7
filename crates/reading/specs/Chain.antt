-- Reading chains (document 02, 2026-01): they have the layout and the rules of document 01's chains, with another word rule.
use Rattle.std.specs.Prelude.{Bool, List, ℕ}
use Rattle.cipher.specs.Chain.{ChainBy, chain_tests_by}
use Rattle.cipher.specs.declared.size.KeySize.{KeySize}

-- a valid reading chain for a key of size z: after each round, word 0 is coded as word 3 was before it
abbrev pub ReadingChain : KeySize → List ℕ → Type 0
ReadingChain z ch = ChainBy 3 0 z ch

-- the refusals 2 to 5 of a reading chain for a key of size z
abbrev pub reading_chain_tests : KeySize → List ℕ → List (Bool × ℕ)
reading_chain_tests z ch = chain_tests_by 3 0 z ch

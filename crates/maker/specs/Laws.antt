-- What is claimed of the chain maker (document 02, 2026-03): what is made is always a valid chain, the count of bytes is exact, and every
-- permutation, and every valid chain, comes out of some bytes.
use Rattle.std.specs.Prelude.{◌≡◌, Some, None, List, ◌++◌, ℕ, ◌≤◌, ◌<◌, length, take, drop}
use Rattle.cipher.specs.KeySize.{rounds, key_length, chain_length, size_of_key}
use Rattle.cipher.specs.Lengths.{set_length}
use Rattle.cipher.specs.Coding.{Permutations, set_of}
use Rattle.cipher.specs.Chain.{Chain, ChainBy, LoneSet}
use Rattle.cipher.specs.declared.size.KeySize.{KeySize}
use Rattle.coding_maker.specs.Laws.{ComesOut, CodingLaws}
use Rattle.maker.specs.Plan.{sealing, reading}
use Rattle.maker.specs.MadeChain.{chain_draws, chain_made}
use Rattle.maker.specs.Answers.{make_answer, make_reading_answer}

-- what an operation answers for random bytes and a buffer, if it makes what is Wanted, of n bytes: `draws` counts the bytes that it draws, `make` is
-- what it makes of them
pub record Makes (draws : List ℕ → ℕ) (make : List ℕ → List ℕ) (Wanted : List ℕ → Type 0) (n : ℕ) (answer : List ℕ → List ℕ → (ℕ × ℕ) × List ℕ) : Type 0 where
  -- 9 where the buffer is shorter than a chain, 32 where more bytes are drawn than there are, else the count and the chain
  pub short : (random out : List ℕ) → length out < n → answer random out ≡ ((9, 0), out)
  pub ran_out : (random out : List ℕ) → n ≤ length out → length random < draws random → answer random out ≡ ((32, 0), out)
  pub done : (random out : List ℕ) → n ≤ length out → draws random ≤ length random → answer random out ≡ ((0, draws random), make random ++ drop n out)
  -- what is made is wanted, whatever the bytes
  pub wanted : (random : List ℕ) → Wanted (make random)
  -- bytes behind those that are drawn change nothing, and without them it is the same
  pub behind : (random more : List ℕ) → draws random ≤ length random → (draws (random ++ more) ≡ draws random) × (make (random ++ more) ≡ make random)
  pub alone : (random : List ℕ) → draws random ≤ length random
      → (draws (take (draws random) random) ≡ draws random) × (make (take (draws random) random) ≡ make random)
  -- with fewer there are too few; and where there are too few, more than those are drawn whatever follows them
  pub fewer : (random : List ℕ) (m : ℕ) → m ≤ length random → m < draws random → length (take m random) < draws (take m random)
  pub lacking : (random more : List ℕ) → length random < draws random → length random < draws (random ++ more)
  -- all that is wanted comes out
  pub every : (ch : List ℕ) → Wanted ch → ComesOut draws make ch

-- a valid reading chain (2026-01) with the given set 0
abbrev pub ReadingFrom : List ℕ → KeySize → List ℕ → Type 0
ReadingFrom set z ch = ChainBy 3 0 z ch × (take set_length (drop set_length ch) ≡ set)

pub record MakerLaws : Type 0 where
  -- a coding is a permutation, and every permutation comes out
  pub codings : CodingLaws
  -- chains and reading chains
  pub chains : (z : KeySize) → Makes (chain_draws sealing (rounds z)) (chain_made sealing (rounds z)) (Chain z) (chain_length z) (make_answer (key_length z))
  pub reading_chains : (z : KeySize) (set : List ℕ) → LoneSet set
      → Makes (chain_draws (reading set) (rounds z)) (chain_made (reading set) (rounds z)) (ReadingFrom set z) (chain_length z) (make_reading_answer (key_length z) set)
  -- every valid reading chain has a set 0 that can be given, so that each comes out
  pub first_sets : (z : KeySize) (ch : List ℕ) → ChainBy 3 0 z ch → LoneSet (take set_length (drop set_length ch))
  -- what is refused before: 1 for a key of no known size, 2 and 3 for the set that is given
  pub no_key : (n : ℕ) (random out : List ℕ) → size_of_key n ≡ None → make_answer n random out ≡ ((1, 0), out)
  pub reading_no_key : (n : ℕ) (set random out : List ℕ) → size_of_key n ≡ None → make_reading_answer n set random out ≡ ((1, 0), out)
  pub length_of_set : (z : KeySize) (n : ℕ) (set random out : List ℕ) → size_of_key n ≡ Some z → (length set ≡ set_length → ⊥)
      → make_reading_answer n set random out ≡ ((2, 0), out)
  pub coding_of_set : (z : KeySize) (n : ℕ) (set random out : List ℕ) → size_of_key n ≡ Some z → length set ≡ set_length → (Permutations (set_of set) → ⊥)
      → make_reading_answer n set random out ≡ ((3, 0), out)

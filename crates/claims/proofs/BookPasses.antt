-- What a fold and all rounds by a book's body are, decoded; for any rows of round keys, and any valid chain.
use mathlib.Core.Path.{◌≡◌, ap, ◌∙◌}
use mathlib.Core.List.{List}
use Prim.Native.Nat.{ℕ, ◌<◌}
use native.Mathlib.Nat.{le_refl}
use lib.Dec.{lit<}
use Rattle.lists.specs.Blocks.{xor_block}
use Rattle.lists.proofs.BlockLaws.{block_xor, xor_block_zeros}
use Rattle.cipher.specs.KeySize.{rounds}
use Rattle.cipher.specs.Lea.{first_rounds}
use Rattle.cipher.specs.Coding.{Set, Permutations, decoded}
use Rattle.cipher.specs.Chain.{message_set, chain_set, Chain}
use Rattle.cipher.specs.Book.{group_key, Book}
use Rattle.cipher.specs.declared.size.KeySize.{KeySize}
use Rattle.cipher.proofs.CodingLaws.{block_decoded}
use Rattle.cipher.proofs.BookMeaning.{book_through}
use Rattle.driver.specs.Driver.{pass}
use Rattle.driver.proofs.PassLaws.{rounds_known}

-- set r
pub last_permutes : (z : KeySize) (ch : List ℕ) → Chain z ch → Permutations (chain_set ch (rounds z))
last_permutes z ch v = v.codings.sets (rounds z) (le_refl (rounds z))

module _ (z : KeySize) (rows : List (List ℕ)) (ch bk : List ℕ) (v : Chain z ch) (h : Book (rounds z) rows ch bk) where
  abbrev E : List ℕ → List ℕ
  E = first_rounds rows (rounds z)

  abbrev U : Set
  U = message_set ch

  abbrev S : Set
  S = chain_set ch (rounds z)

  -- a fold by group g, then all rounds; and by group one
  pub pass_decoded : (g : ℕ) → g < 3 → (x m : List ℕ)
      → decoded (chain_set ch (rounds z)) (pass bk g x m)
      ≡ first_rounds rows (rounds z) (xor_block (xor_block (decoded (chain_set ch (rounds z)) x) (decoded (message_set ch) m)) (group_key (first_rounds rows (rounds z)) g))
  unfolding pass
  pass_decoded g l x m = rw (rounds_known z bk h.size) (book_through z rows ch bk v h g l x m)

  pub pass_block : (x m : List ℕ) → decoded (chain_set ch (rounds z)) (pass bk 0 x m)
      ≡ first_rounds rows (rounds z) (xor_block (decoded (chain_set ch (rounds z)) x) (decoded (message_set ch) m))
  unfolding group_key
  pass_block x m =
      pass_decoded 0 (lit< tt) x m ∙ ap E (xor_block_zeros (xor_block (decoded S x) (decoded U m))
      (block_xor (decoded S x) (decoded U m) (block_decoded S (last_permutes z ch v) x).bytes (block_decoded U v.codings.message m).bytes))

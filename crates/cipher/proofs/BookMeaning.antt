-- What a book does, decoded: its start is the zero block, its rounds are LEA's, its folds are xors; for any rows of round keys,
-- and any valid chain.
use Rattle.std.proofs.Common.{◌≡◌, ℕ, zero, suc, ◌<◌, ◌≤◌, List, refl, ap, ◌∙◌, le_refl, arith}
use Rattle.lists.specs.Blocks.{Block, zeros, xor_block}
use Rattle.lists.proofs.BlockLaws.{block_zeros}
use Rattle.cipher.specs.KeySize.{rounds}
use Rattle.cipher.specs.Lea.{first_rounds}
use Rattle.cipher.specs.Cmac.{subkey1, subkey2}
use Rattle.cipher.specs.Coding.{decoded}
use Rattle.cipher.specs.Tables.{table_rounds, table_fold}
use Rattle.cipher.specs.Chain.{message_set, chain_set, round_codings, Chain}
use Rattle.cipher.specs.Book.{start_part, group_key, start_of, group_at, round_at, Book}
use Rattle.cipher.specs.declared.size.KeySize.{KeySize}
use Rattle.cipher.proofs.CmacLaws.{block_double}
use Rattle.cipher.proofs.CodingLaws.{decoded_coded}
use Rattle.cipher.proofs.RoundsLaw.{rounds_law}
use Rattle.cipher.proofs.FoldLaw.{fold_law}
use Rattle.cipher.proofs.ChainTests.{valid_round}

-- the key block of each group is a block
pub block_key : (E : List ℕ → List ℕ) (g : ℕ) → Block (group_key E g)
unfolding group_key subkey1 subkey2
block_key E zero = block_zeros
block_key E (suc zero) = block_double (E zeros)
block_key E (suc (suc g)) = block_double (subkey1 E)

module _ (z : KeySize) (rows : List (List ℕ)) (ch bk : List ℕ) (v : Chain z ch) (h : Book (rounds z) rows ch bk) where
  -- the start is the zero block
  pub book_start : decoded (chain_set ch (rounds z)) (start_of bk) ≡ zeros
  unfolding start_part
  book_start =
      ap (decoded (chain_set ch (rounds z))) h.start
      ∙ decoded_coded (chain_set ch (rounds z)) (v.codings.sets (rounds z) (le_refl (rounds z))) zeros block_zeros

  -- n rounds, decoded by set n, are n rounds of LEA on the bytes decoded by set 0
  pub book_rounds : (b : List ℕ) (n : ℕ) → n ≤ rounds z
      → decoded (chain_set ch n) (table_rounds (round_at bk) n b) ≡ first_rounds rows n (decoded (chain_set ch 0) b)
  book_rounds b n l =
      rounds_law (rounds z) (chain_set ch) (round_codings (rounds z) ch) rows (round_at bk)
      (λ l. unfold round_codings in refl) (λ l. unfold round_codings in refl)
      (valid_round (rounds z) ch v.codings v.words v.masks) h.tables b n l (v.codings.sets n l)

  -- a fold by group g, decoded by set 0, is a xor
  pub book_fold : (g : ℕ) → g < 3 → (x m : List ℕ)
      → decoded (chain_set ch 0) (table_fold (group_at bk g) x m)
      ≡ xor_block (xor_block (decoded (chain_set ch (rounds z)) x) (decoded (message_set ch) m)) (group_key (first_rounds rows (rounds z)) g)
  book_fold g l x m =
      fold_law (chain_set ch (rounds z)) (message_set ch) (chain_set ch 0) (group_key (first_rounds rows (rounds z)) g) (group_at bk g)
      (v.codings.sets (rounds z) (le_refl (rounds z))) v.codings.message (v.codings.sets 0 (omega arith))
      (block_key (first_rounds rows (rounds z)) g) (h.folds g l) x m

  -- a fold and then all rounds
  pub book_through : (g : ℕ) → g < 3 → (x m : List ℕ)
      → decoded (chain_set ch (rounds z)) (table_rounds (round_at bk) (rounds z) (table_fold (group_at bk g) x m))
      ≡ first_rounds rows (rounds z)
      (xor_block (xor_block (decoded (chain_set ch (rounds z)) x) (decoded (message_set ch) m)) (group_key (first_rounds rows (rounds z)) g))
  book_through g l x m =
      book_rounds (table_fold (group_at bk g) x m) (rounds z) (le_refl (rounds z)) ∙ ap (first_rounds rows (rounds z)) (book_fold g l x m)

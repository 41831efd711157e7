-- What a reading book shows (document 02, 2026-01): the blocks that it reads, decoded by U, are those of CBC deciphering on the IV and the
-- sealed blocks decoded by set 0. For any rows of words, any valid reading chain, any IV and any sealed text.
use mathlib.Core.Path.{◌≡◌, refl, ap, ap₂, ◌∙◌}
use mathlib.Core.List.{List, [], ◌∷◌, map, flatten}
use Prim.Native.Nat.{ℕ, ◌≤◌, zero-le}
use native.Mathlib.Nat.{le_refl}
use Rattle.lists.specs.Blocks.{Block, zeros, xor_block, blocks, each_after}
use Rattle.lists.proofs.BlockLaws.{Blocks, none, more, block_zeros, block_xor, xor_block_zeros, blocks_flatten}
use Rattle.cipher.specs.KeySize.{rounds}
use Rattle.words.specs.Word.{words4, bytes}
use Rattle.cipher.specs.Lea.{undone_rounds}
use Rattle.cipher.specs.Cbc.{cbc_deciphered}
use Rattle.cipher.specs.Coding.{Set, decoded}
use Rattle.cipher.specs.Tables.{table_fold}
use Rattle.cipher.specs.Chain.{message_set, chain_set, round_codings}
use Rattle.cipher.specs.declared.size.KeySize.{KeySize}
use Rattle.words.specs.Rows.{RowsOfWords}
use Rattle.cipher.proofs.CodingLaws.{Agree, block_halves, block_decoded, decoded_agree}
use Rattle.cipher.proofs.FoldLaw.{fold_lt, fold_law}
use Rattle.reading.specs.Tables.{read_rounds}
use Rattle.reading.specs.Chain.{ReadingChain}
use Rattle.reading.specs.Book.{reading_round_at, reading_group_at, ReadingBook}
use Rattle.reading.specs.Shown.{undone_last, read_block, read_blocks, read_text, text_opened}
use Rattle.reading.proofs.ReadingRoundsLaw.{reading_rounds_law, reading_all_law}
use Rattle.reading.proofs.ReadingChainLaws.{valid_reading}

-- what is read are blocks, whatever the book
pub block_read : (bk : List ℕ) (r : ℕ) (x c : List ℕ) → Block (read_block bk r x c)
unfolding read_block table_fold
block_read bk r x c = block_halves _ (fold_lt _ _ _)

pub blocks_read : (bk : List ℕ) (r : ℕ) (iv : List ℕ) (cs : List (List ℕ)) → Blocks (read_blocks bk r iv cs)
unfolding each_after
blocks_read bk r iv [] = none
blocks_read bk r iv (c ∷ cs) = more (block_read bk r iv c) (blocks_read bk r c cs)

module _ (z : KeySize) (rows : List (List ℕ)) (words : RowsOfWords rows) (ch bk : List ℕ) (v : ReadingChain z ch) (h : ReadingBook (rounds z) rows ch bk) where
  abbrev r : ℕ
  r = rounds z

  abbrev S : Set
  S = chain_set ch 0

  abbrev U : Set
  U = message_set ch

  -- n rounds, decoded by set n, are the last n rounds undone on the bytes decoded by set 0
  pub reading_book_rounds : (b : List ℕ) (n : ℕ) → n ≤ rounds z
      → decoded (chain_set ch n) (read_rounds (reading_round_at bk) n b) ≡ bytes (undone_last rows (rounds z) n (words4 (decoded (chain_set ch 0) b)))
  reading_book_rounds b n l =
      reading_rounds_law r (chain_set ch) (round_codings r ch) rows words (reading_round_at bk)
      (λ l. unfold round_codings in refl) (λ l. unfold round_codings in refl)
      (valid_reading z ch v) h.tables b n l (v.codings.sets n l)

  -- all rounds decipher
  pub reading_book_all : (b : List ℕ) → decoded (chain_set ch (rounds z)) (read_rounds (reading_round_at bk) (rounds z) b) ≡ undone_rounds rows (rounds z) (decoded (chain_set ch 0) b)
  reading_book_all b =
      reading_all_law r (chain_set ch) (round_codings r ch) rows words (reading_round_at bk)
      (λ l. unfold round_codings in refl) (λ l. unfold round_codings in refl)
      (valid_reading z ch v) h.tables b (v.codings.sets r (le_refl r))

  -- a block read
  pub read_block_lem : (x c : List ℕ)
      → decoded (message_set ch) (read_block bk (rounds z) x c) ≡ xor_block (undone_rounds rows (rounds z) (decoded (chain_set ch 0) c)) (decoded (chain_set ch 0) x)
  unfolding read_block
  read_block_lem x c =
      let y = read_rounds (reading_round_at bk) r c in
      let py = v.codings.sets r (le_refl r) in
      let ps = v.codings.sets 0 zero-le in
      fold_law (chain_set ch r) S U zeros (reading_group_at r bk) py ps v.codings.message block_zeros h.folds y x
      ∙ xor_block_zeros (xor_block (decoded (chain_set ch r) y) (decoded S x))
      (block_xor (decoded (chain_set ch r) y) (decoded S x) (block_decoded (chain_set ch r) py y).bytes (block_decoded S ps x).bytes)
      ∙ ap (λ (d : List ℕ). xor_block d (decoded S x)) (reading_book_all c)

  -- blocks read, one after another
  pub read_blocks_lem : (iv : List ℕ) (cs : List (List ℕ))
      → map (decoded (message_set ch)) (read_blocks bk (rounds z) iv cs)
      ≡ cbc_deciphered (undone_rounds rows (rounds z)) (decoded (chain_set ch 0) iv) (map (decoded (chain_set ch 0)) cs)
  unfolding each_after cbc_deciphered
  read_blocks_lem iv [] = refl
  read_blocks_lem iv (c ∷ cs) =
      ap₂ {C = List (List ℕ)} (λ (a : List ℕ) (l : List (List ℕ)). a ∷ l) (read_block_lem iv c) (read_blocks_lem c cs)

  -- a sealed text read, and opened by U
  pub shown : (iv sealed : List ℕ)
      → text_opened (message_set ch) (read_text bk (rounds z) iv sealed)
      ≡ flatten (cbc_deciphered (undone_rounds rows (rounds z)) (decoded (chain_set ch 0) iv) (map (decoded (chain_set ch 0)) (blocks sealed)))
  unfolding text_opened read_text
  shown iv sealed =
      ap (λ (bs : List (List ℕ)). flatten (map (decoded U) bs)) (blocks_flatten (read_blocks bk r iv (blocks sealed)) (blocks_read bk r iv (blocks sealed)))
      ∙ ap flatten (read_blocks_lem iv (blocks sealed))

  -- the same where set 0 is a given set: that of a sealing chain's last set
  pub shown_under : (S' : Set) → Agree (chain_set ch 0) S' → (iv sealed : List ℕ)
      → text_opened (message_set ch) (read_text bk (rounds z) iv sealed)
      ≡ flatten (cbc_deciphered (undone_rounds rows (rounds z)) (decoded S' iv) (map (decoded S') (blocks sealed)))
  shown_under S' a iv sealed =
      shown iv sealed
      ∙ ap (λ (d : List ℕ → List ℕ). flatten (cbc_deciphered (undone_rounds rows (rounds z)) (d iv) (map d (blocks sealed)))) (decoded_agree S S' a)

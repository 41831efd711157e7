-- What the driver seals of a coded text of whole blocks is, decoded, the text enciphered in CBC, and opens to the text; and of the
-- padding, what the pad appends, the archive takes off. Said of any rows of round keys that are words, and any valid chain.
use mathlib.Core.Path.{◌≡◌, refl, sym, ap, ap₂, ◌∙◌}
use mathlib.Core.Bool.{true}
use mathlib.Core.List.{List, [], ◌∷◌, map, flatten}
use Prim.Native.Nat.{ℕ, suc, ◌*◌}
use borrow.Author.Tests.{eq-eqb, le-leb}
use lib.Bits.{bit_xor, xor_comm}
use lib.ListN.{length, get_or, length-map}
use Rattle.lists.specs.Blocks.{Bytes, Block, xor_block, blocks}
use Rattle.lists.proofs.TabulationLaws.{tab_ext}
use Rattle.lists.proofs.EveryLaws.{true_and, all_every}
use Rattle.lists.proofs.BlockLaws.{Blocks, none, more, block_xor, xor_block_cancel, blocks_flatten, length_flatten, blocks_blocks, flatten_blocks, length_blocks}
use Rattle.cipher.specs.KeySize.{rounds}
use Rattle.cipher.specs.Lea.{first_rounds, undone_rounds}
use Rattle.cipher.specs.Cbc.{cbc_enciphered, cbc_deciphered}
use Rattle.cipher.specs.Coding.{Set, coded, decoded}
use Rattle.cipher.specs.Chain.{message_set, chain_set, Chain}
use Rattle.cipher.specs.Book.{Book}
use Rattle.cipher.specs.declared.size.KeySize.{KeySize}
use Rattle.words.specs.Rows.{RowsOfWords}
use Rattle.cipher.proofs.LeaLaws.{rounds_undone}
use Rattle.cipher.proofs.CodingLaws.{block_decoded, decoded_coded}
use Rattle.pad.specs.Padding.{padded_for_sealing, last_byte, SealingPadded, stripped, coded_text}
use Rattle.pad.proofs.PadLaws.{strip_padded}
use Rattle.pad.proofs.TextLaws.{blocks_coded}
use Rattle.driver.specs.Driver.{pass, passed_from, sealed}
use Rattle.driver.proofs.PassLaws.{block_pass}
use Rattle.archive.specs.Archive.{opened_text, ends_padded, unpadded}
use Rattle.claims.proofs.BookPasses.{last_permutes, pass_block}

-- ---- the padding: what the pad appends, the archive takes off

pub ends_padded_lem : (t : List ℕ) → SealingPadded t → ends_padded t ≡ true
unfolding ends_padded
ends_padded_lem t h =
    true_and _ _ (true_and _ _ (le-leb 1 (last_byte t) h.some) (le-leb (last_byte t) 16 h.most))
    (all_every (last_byte t) _ (λ k l. eq-eqb _ _ (h.all k l)))

pub padding_off : (m : List ℕ) → unpadded (padded_for_sealing m) ≡ m
unfolding unpadded stripped
padding_off m = strip_padded m

-- ---- the blocks: the driver's chain of folds and rounds, decoded, is enciphering in CBC, and deciphering in CBC undoes it

xor_block_comm : (a b : List ℕ) → xor_block a b ≡ xor_block b a
unfolding xor_block
xor_block_comm a b = tab_ext 16 (λ k. bit_xor (get_or a k 0) (get_or b k 0)) (λ k. bit_xor (get_or b k 0) (get_or a k 0)) (λ k h. xor_comm (get_or a k 0) (get_or b k 0))

module _ (bk : List ℕ) where
  sealed_blocks : (x : List ℕ) (cs : List (List ℕ)) → Blocks (passed_from (pass bk 0) x cs)
  unfolding passed_from
  sealed_blocks x [] = none
  sealed_blocks x (c ∷ cs) = more (block_pass bk 0 x c) (sealed_blocks (pass bk 0 x c) cs)

  length_passed : (x : List ℕ) (cs : List (List ℕ)) → length (passed_from (pass bk 0) x cs) ≡ length cs
  unfolding passed_from
  length_passed x [] = refl
  length_passed x (c ∷ cs) = ap suc (length_passed (pass bk 0 x c) cs)

module _ (z : KeySize) (rows : List (List ℕ)) (ch bk : List ℕ) (v : Chain z ch) (h : Book (rounds z) rows ch bk) (hr : RowsOfWords rows) where
  abbrev E : List ℕ → List ℕ
  E = first_rounds rows (rounds z)

  abbrev D : List ℕ → List ℕ
  D = undone_rounds rows (rounds z)

  abbrev U : Set
  U = message_set ch

  abbrev S : Set
  S = chain_set ch (rounds z)

  -- a block's step on the chain, decoded, is a step of CBC enciphering
  block_on : (x t : List ℕ) → Block t → decoded S (pass bk 0 x (coded U t)) ≡ E (xor_block t (decoded S x))
  block_on x t ht =
      let X = decoded S x in
      pass_block z rows ch bk v h x (coded U t)
      ∙ ap (λ (y : List ℕ). E (xor_block X y)) (decoded_coded U v.codings.message t ht)
      ∙ ap E (xor_block_comm X t)

  blocks_on : (x : List ℕ) (ts : List (List ℕ)) → Blocks ts
      → map (decoded S) (passed_from (pass bk 0) x (map (coded U) ts)) ≡ cbc_enciphered E (decoded S x) ts
  unfolding cbc_enciphered passed_from
  blocks_on x [] none = refl
  blocks_on x (t ∷ ts) (more ht hs) =
      let e = block_on x t ht in
      let later = blocks_on (pass bk 0 x (coded U t)) ts hs ∙ ap (λ (y : List ℕ). cbc_enciphered E y ts) e in
      ap₂ {C = List (List ℕ)} (λ (a : List ℕ) (l : List (List ℕ)). a ∷ l) e later

  block_back : (x t : List ℕ) → Block t → xor_block (D (decoded S (pass bk 0 x (coded U t)))) (decoded S x) ≡ t
  block_back x t ht =
      let X = decoded S x in
      let hx = block_decoded S (last_permutes z ch v) x in
      ap (λ (y : List ℕ). xor_block (D y) X) (block_on x t ht)
      ∙ ap (λ (y : List ℕ). xor_block y X) (rounds_undone rows hr (rounds z) (block_xor t X ht.bytes hx.bytes))
      ∙ xor_block_cancel t X ht

  blocks_back : (x : List ℕ) (ts : List (List ℕ)) → Blocks ts
      → cbc_deciphered D (decoded S x) (map (decoded S) (passed_from (pass bk 0) x (map (coded U) ts))) ≡ ts
  unfolding cbc_deciphered passed_from
  blocks_back x [] none = refl
  blocks_back x (t ∷ ts) (more ht hs) =
      ap₂ {C = List (List ℕ)} (λ (a : List ℕ) (l : List (List ℕ)). a ∷ l) (block_back x t ht) (blocks_back (pass bk 0 x (coded U t)) ts hs)

  -- a text of n whole blocks of bytes, coded under U, sealed and opened under set r
  module _ (iv text : List ℕ) (n : ℕ) (e : length text ≡ 16 * n) where
    abbrev chain : List (List ℕ)
    chain = passed_from (pass bk 0) iv (map (coded U) (blocks text))

    file_is : sealed bk iv (coded_text U text) ≡ flatten chain
    file_is = ap (λ (bs : List (List ℕ)). flatten (passed_from (pass bk 0) iv bs)) (blocks_coded U v.codings.message text)

    pub length_file : length (sealed bk iv (coded_text U text)) ≡ length text
    length_file =
        ap length file_is
        ∙ length_flatten chain (sealed_blocks bk iv (map (coded U) (blocks text)))
        ∙ ap (λ (k : ℕ). 16 * k) (length_passed bk iv (map (coded U) (blocks text)) ∙ length-map (blocks text) (coded U) ∙ length_blocks text n e)
        ∙ sym e

    -- the blocks of the file are the chain
    file_blocks : blocks (sealed bk iv (coded_text U text)) ≡ chain
    file_blocks = ap blocks file_is ∙ blocks_flatten chain (sealed_blocks bk iv (map (coded U) (blocks text)))

    pub enciphered_sealed : Bytes text → map (decoded S) (blocks (sealed bk iv (coded_text U text))) ≡ cbc_enciphered E (decoded S iv) (blocks text)
    enciphered_sealed b = ap (map (decoded S)) file_blocks ∙ blocks_on iv (blocks text) (blocks_blocks text n e b)

    pub opened_sealed : Bytes text → opened_text D S iv (sealed bk iv (coded_text U text)) ≡ text
    unfolding opened_text
    opened_sealed b =
        ap (λ (bs : List (List ℕ)). flatten (cbc_deciphered D (decoded S iv) (map (decoded S) bs))) file_blocks
        ∙ ap flatten (blocks_back iv (blocks text) (blocks_blocks text n e b))
        ∙ flatten_blocks text n e

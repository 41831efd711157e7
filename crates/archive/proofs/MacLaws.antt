-- CMAC as the code makes it: the last block of a message, filled and under its subkey, and the whole.
use mathlib.Core.Path.{◌≡◌, refl, sym, ap, ap₂, ◌∙◌}
use mathlib.Core.Bool.{Bool, true, false, cond}
use mathlib.Core.List.{List, ◌∷◌, ◌++◌, append-nil}
use Prim.Native.Nat.{ℕ, zero, suc, ◌+◌, ◌-◌, ◌*◌, ◌≤◌, ◌<◌}
use native.Mathlib.Omega.{arith}
use borrow.Author.Tests.{eq-eqb, ne_eqb}
use lib.Dec.{eqb, lit<}
use lib.ListN.{length, set, drop, replicate, length-drop}
use lib.Seq.{append_snoc}
use Rattle.std.proofs.lemmas.List.{drop-replicate}
use Rattle.lists.specs.Blocks.{Bytes, Block, zeros, xor_block, cut}
use Rattle.lists.proofs.TabulationLaws.{get_d_replicate}
use Rattle.lists.proofs.BlockLaws.{block_xor, block_zeros, bytes_append, bytes_drop}
use Rattle.lists.proofs.PartLaws.{fill_more}
use Rattle.words.specs.Word.{xor_words, words4, bytes}
use Rattle.cipher.specs.Lea.{forward, first_rounds}
use Rattle.cipher.specs.Cmac.{subkey1, subkey2, cbc_mac, blocks_before, last_block, cmac}
use Rattle.cipher.proofs.LeaLaws.{words_xor, block_rounds}
use Rattle.cipher.proofs.CmacLaws.{block_double}
use Rattle.cipher.proofs.CbcMacLaws.{mac_block}
use Rattle.archive.specs.Mac.{filled_block, last_under}

-- ---- the last block

-- a part copied into a zero block, and hex 80 after it
pub filled_part : (p q : List ℕ) → q ≡ p → length p < 16 → set (q ++ drop (length p - 0) (replicate 16 0)) (length p) 0x80 ≡ filled_block p
unfolding filled_block
filled_part p q e l =
    let z : length p - 0 ≡ length p = omega arith in
    let r : 15 - length p ≡ 16 - (length p + 1) = omega arith in
    rw (ne_eqb (length p) 16 (λ z. omega arith), r, e, z, drop-replicate)
    (fill_more 16 (length p) 0 0x80 p refl l ∙ append_snoc p 0x80 (replicate (16 - (length p + 1)) 0))

pub filled_whole : (p q : List ℕ) → q ≡ p → length p ≡ 16 → q ++ drop (length p - 0) (replicate 16 0) ≡ filled_block p
unfolding filled_block
filled_whole p q e l = rw (eq-eqb (length p) 16 l, e, l, append-nil)

bytes_filled : (p : List ℕ) → Bytes p → Bytes (filled_block p)
unfolding filled_block
bytes_filled p h = go (eqb (length p) 16)
  where
    tail : (n : ℕ) → Bytes (0x80 ∷ replicate n 0)
    tail n zero = lit< tt
    tail n (suc k) = rw (get_d_replicate n 0 k) (lit< tt)

    go : (t : Bool) → Bytes (cond t p (p ++ (0x80 ∷ replicate (15 - length p) 0)))
    go true = h
    go false = bytes_append p (0x80 ∷ replicate (15 - length p) 0) h (tail (15 - length p))

bytes_last : (k1 k2 p : List ℕ) → Bytes k1 → Bytes k2 → Bytes p → Bytes (last_under k1 k2 p)
unfolding last_under
bytes_last k1 k2 p h1 h2 h = (block_xor (filled_block p) (cond (eqb (length p) 16) k1 k2) (bytes_filled p h) (go (eqb (length p) 16))).bytes
  where
    go : (t : Bool) → Bytes (cond t k1 k2)
    go true = h1
    go false = h2

-- under its subkey, in words
pub last_whole : (k1 k2 p b x : List ℕ) → b ≡ filled_block p → Bytes p → Bytes k1 → length p ≡ 16 → x ≡ xor_words (words4 b) (words4 k1)
    → x ≡ words4 (last_under k1 k2 p)
unfolding last_under
last_whole k1 k2 p b x e hb hk l ex =
    rw (eq-eqb (length p) 16 l) (ex ∙ sym (words_xor b k1 (rw e (bytes_filled p hb)) hk) ∙ ap (λ (y : List ℕ). words4 (xor_block y k1)) e)

pub last_part : (k1 k2 p b x : List ℕ) → b ≡ filled_block p → Bytes p → Bytes k2 → (length p ≡ 16 → ⊥) → x ≡ xor_words (words4 b) (words4 k2)
    → x ≡ words4 (last_under k1 k2 p)
unfolding last_under
last_part k1 k2 p b x e hb hk l ex =
    rw (ne_eqb (length p) 16 l) (ex ∙ sym (words_xor b k2 (rw e (bytes_filled p hb)) hk) ∙ ap (λ (y : List ℕ). words4 (xor_block y k2)) e)

-- as the definition of CMAC has it
last_under_lem : (E : List ℕ → List ℕ) (p : List ℕ) → last_under (subkey1 E) (subkey2 E) p ≡ last_block E p
unfolding last_under filled_block last_block
last_under_lem E p = go (eqb (length p) 16)
  where
    go : (t : Bool)
        → xor_block (cond t p (p ++ (0x80 ∷ replicate (15 - length p) 0))) (cond t (subkey1 E) (subkey2 E))
        ≡ cond t (xor_block p (subkey1 E)) (xor_block (p ++ (0x80 ∷ replicate (15 - length p) 0)) (subkey2 E))
    go true = refl
    go false = refl

-- ---- the whole

-- how much is left for the last block
pub left_most : (m : List ℕ) (n : ℕ) → n ≡ blocks_before (length m) → length (drop (16 * n) m) ≤ 16
unfolding blocks_before
left_most m n e = rw length-drop (omega arith)

pub before_most : (m : List ℕ) (n : ℕ) → n ≡ blocks_before (length m) → 16 * n ≤ length m
unfolding blocks_before
before_most m n e = omega arith

module _ (rows : List (List ℕ)) (r : ℕ) (m : List ℕ) where
  pub cmac_is : (n : ℕ) (k1 k2 p x l y z : List ℕ) → n ≡ blocks_before (length m) → k1 ≡ subkey1 (first_rounds rows r) → k2 ≡ subkey2 (first_rounds rows r)
      → p ≡ drop (16 * n) m → Bytes m → x ≡ words4 (cbc_mac (first_rounds rows r) zeros (cut n m)) → l ≡ words4 (last_under k1 k2 p)
      → y ≡ forward rows r (xor_words x l) → z ≡ bytes y → z ≡ cmac (first_rounds rows r) m
  unfolding cmac first_rounds subkey1 subkey2
  cmac_is n k1 k2 p x l y z en e1 e2 ep hm ex el ey ez =
      let hx = (mac_block rows r zeros (cut n m) block_zeros).bytes in
      let hl = bytes_last k1 k2 p (rw e1 (block_double (first_rounds rows r zeros)).bytes) (rw e2 (block_double (subkey1 (first_rounds rows r))).bytes) (rw ep (bytes_drop (16 * n) m hm)) in
      ez
      ∙ ap bytes (ey ∙ ap (forward rows r) (ap₂ xor_words ex el ∙ sym (words_xor (cbc_mac (first_rounds rows r) zeros (cut n m)) (last_under k1 k2 p) hx hl)))
      ∙ ap₂ (λ (a b : List ℕ). first_rounds rows r (xor_block a b))
      (ap (λ (k : ℕ). cbc_mac (first_rounds rows r) zeros (cut k m)) en)
      ((λ i. last_under (e1 i) (e2 i) (ep i)) ∙ last_under_lem (first_rounds rows r) (drop (16 * n) m) ∙ ap (λ (k : ℕ). last_block (first_rounds rows r) (drop (16 * k) m)) en)

pub block_cmac : (rows : List (List ℕ)) (r : ℕ) (m : List ℕ) → Block (cmac (first_rounds rows r) m)
unfolding cmac
block_cmac rows r m = block_rounds rows r _

pub block_subkeys : (rows : List (List ℕ)) (r : ℕ) → Block (subkey1 (first_rounds rows r)) × Block (subkey2 (first_rounds rows r))
unfolding subkey1 subkey2
block_subkeys rows r = (block_double (first_rounds rows r zeros), block_double (subkey1 (first_rounds rows r)))

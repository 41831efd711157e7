-- Comparing a tag: two blocks are the same or not, and a tag decoded is the CMAC exactly if the CMAC coded is the tag.
use mathlib.Core.Path.{◌≡◌, refl, sym, ap, ap₂, ◌∙◌}
use mathlib.Core.Bool.{Bool, true, false, ◌&&◌}
use mathlib.Core.List.{List, [], ◌∷◌}
use Prim.Native.Nat.{ℕ, zero, suc}
use native.Mathlib.Omega.{arith}
use borrow.Author.Tests.{eq-eqb, ne_eqb, eqb-true, eqb-false}
use lib.Bits.{bit_or, bit_xor, or_add_and, and_le_l, and_le_r, xor_self}
use lib.Dec.{eqb}
use lib.ListN.{length, get_or}
use lib.Seq.{ext_get_or}
use Rattle.std.specs.List.{fold, zip}
use Rattle.std.proofs.Math.Bool.{and_assoc, and-true}
use Rattle.lists.specs.Blocks.{Block}
use Rattle.lists.proofs.XorLaws.{xor_cancel}
use Rattle.lists.specs.Every.{every}
use Rattle.lists.proofs.EveryLaws.{every_all, all_every}
use Rattle.cipher.specs.Coding.{Set, Permutations, coded, decoded}
use Rattle.cipher.proofs.CodingLaws.{block_coded, block_decoded, coded_decoded, decoded_coded}
use Rattle.archive.specs.Archive.{same_block}

pub same_true : (a b : List ℕ) → length a ≡ 16 → length b ≡ 16 → same_block a b ≡ true → a ≡ b
unfolding same_block
same_true a b ha hb e =
    ext_get_or 0 a b (ha ∙ sym hb) (λ k h. eqb-true (get_or a k 0) (get_or b k 0) (every_all 16 (λ k. eqb (get_or a k 0) (get_or b k 0)) e k (omega arith)))

pub true_same : (a b : List ℕ) → a ≡ b → same_block a b ≡ true
unfolding same_block
true_same a b e = all_every 16 (λ k. eqb (get_or a k 0) (get_or b k 0)) (λ k h. eq-eqb (get_or a k 0) (get_or b k 0) (ap (λ (l : List ℕ). get_or l k 0) e))

-- what differs in some bytes, and one pair more, is nothing exactly if it was nothing and the two are the same
pub fold_more : (d x y : ℕ) → eqb (bit_or d (bit_xor x y)) 0 ≡ eqb d 0 && eqb x y
fold_more d x y = go (eqb d 0) refl (eqb x y) refl
  where
    none : bit_or d (bit_xor x y) ≡ 0 → (d ≡ 0) × (bit_xor x y ≡ 0)
    none e =
        let s = or_add_and d (bit_xor x y) in
        let l = and_le_l d (bit_xor x y) in
        let r = and_le_r d (bit_xor x y) in
        (omega (arith, e, s, l, r), omega (arith, e, s, l, r))

    alike : bit_xor x y ≡ 0 → x ≡ y
    alike e = sym (xor_cancel x y) ∙ ap (λ (z : ℕ). bit_xor z y) e

    go : (p : Bool) → eqb d 0 ≡ p → (q : Bool) → eqb x y ≡ q → eqb (bit_or d (bit_xor x y)) 0 ≡ p && q
    go true p true q =
        eq-eqb _ 0 (ap₂ (λ (a b : ℕ). bit_or a (bit_xor x b)) (eqb-true d 0 p) (sym (eqb-true x y q)) ∙ xor_self x)
    go true p false q = ne_eqb _ 0 (λ e. eqb-false x y q (alike (none e).1))
    go false p true q = ne_eqb _ 0 (λ e. eqb-false d 0 p (none e).0)
    go false p false q = ne_eqb _ 0 (λ e. eqb-false d 0 p (none e).0)

-- and so over all bytes of two blocks, as `check` folds them
abbrev pub differ : ℕ → ℕ × ℕ → ℕ
differ d p = bit_or d (bit_xor p.0 p.1)

every_front : (n : ℕ) (p : ℕ → Bool) → every (suc n) p ≡ p 0 && every n (λ k. p (suc k))
unfolding every
every_front zero p = sym (and-true (p 0))
every_front (suc n) p =
    ap (λ (b : Bool). b && p (suc n)) (every_front n p) ∙ and_assoc (p 0) (every n (λ k. p (suc k))) (p (suc n))

fold_all : (a b : List ℕ) (d : ℕ) → length a ≡ length b
    → eqb (fold differ d (zip a b)) 0 ≡ eqb d 0 && every (length a) (λ k. eqb (get_or a k 0) (get_or b k 0))
unfolding every
fold_all [] [] d l = sym (and-true (eqb d 0))
fold_all [] (y ∷ b) d l = absurd (omega arith)
fold_all (x ∷ a) [] d l = absurd (omega arith)
fold_all (x ∷ a) (y ∷ b) d l =
    fold_all a b (bit_or d (bit_xor x y)) (omega arith)
    ∙ ap (λ (t : Bool). t && every (length a) (λ k. eqb (get_or a k 0) (get_or b k 0))) (fold_more d x y)
    ∙ and_assoc (eqb d 0) (eqb x y) (every (length a) (λ k. eqb (get_or a k 0) (get_or b k 0)))
    ∙ ap (λ (t : Bool). eqb d 0 && t) (sym (every_front (length a) (λ k. eqb (get_or (x ∷ a) k 0) (get_or (y ∷ b) k 0))))

pub same_folded : (a b : List ℕ) (r : ℕ) → length a ≡ 16 → length b ≡ 16 → r ≡ fold differ 0 (zip a b)
    → eqb r 0 ≡ same_block a b
unfolding same_block
same_folded a b r ha hb e =
    ap (λ (n : ℕ). eqb n 0) e
    ∙ fold_all a b 0 (ha ∙ sym hb)
    ∙ ap (λ (n : ℕ). every n (λ k. eqb (get_or a k 0) (get_or b k 0))) ha

pub same_coded : (S : Set) → Permutations S → (t m : List ℕ) → Block t → Block m → same_block (coded S m) t ≡ same_block (decoded S t) m
same_coded S p t m ht hm = go (same_block (coded S m) t) refl (same_block (decoded S t) m) refl
  where
    go : (x : Bool) → same_block (coded S m) t ≡ x → (y : Bool) → same_block (decoded S t) m ≡ y → x ≡ y
    go true e true f = refl
    go false e false f = refl
    go true e false f =
        let q : decoded S t ≡ m = ap (decoded S) (sym (same_true (coded S m) t (block_coded S p m).size ht.size e)) ∙ decoded_coded S p m hm in
        sym (true_same (decoded S t) m q) ∙ f
    go false e true f =
        let q : coded S m ≡ t = ap (coded S) (sym (same_true (decoded S t) m (block_decoded S p t).size hm.size f)) ∙ coded_decoded S p t ht in
        sym e ∙ true_same (coded S m) t q

-- Laws of the kinds: what each byte stands for; and the tests of place and length are what `Faults` says in figures.
use Rattle.std.specs.Prelude.{Option, Some, None}
use mathlib.Core.Path.{◌≡◌, refl, ap, ◌∙◌}
use mathlib.Core.Bool.{Bool, true, false, cond, not, false≢true, ◌&&◌}
use Prim.Native.Nat.{ℕ, zero, suc, ◌%◌, ◌≤◌, ◌<◌}
use native.Mathlib.Decide.{ℕ_discrete}
use native.Mathlib.Omega.{arith}
use borrow.Author.Tests.{leb-true, eqb-true, ltb-true, le-leb, lt-ltb, eq-eqb, ne_eqb, not-true}
use lib.Dec.{eqb, leb, ltb}
use Rattle.lists.proofs.EveryLaws.{and_true}
use Rattle.cipher.specs.Answers.{bad_text}
use Rattle.cipher.proofs.AnswerLaws.{text_good, text_known}
use Rattle.inkfile.specs.declared.kind.Kind.{Kind}
use Rattle.inkfile.specs.declared.kind.Kind.TheVariants.{PadNumber, Iv, Sealed, Tag, Remark}
use Rattle.inkfile.specs.Kinds.{kind_of, due, sized}
use Rattle.inkfile.specs.Faults.{DueKind, one_of_four, a_remark, KindLength, of_pad_number, of_iv, of_sealed, of_tag, of_remark}

-- ---- the kind of a byte

pub data Stands (b : ℕ) : Option Kind → Type 0 where
  pad_number_lem : b ≡ 0x01 → Stands b (Some PadNumber)
  iv : b ≡ 0x02 → Stands b (Some Iv)
  sealed : b ≡ 0x03 → Stands b (Some Sealed)
  tag : b ≡ 0x04 → Stands b (Some Tag)
  remark : 0x10 ≤ b → b ≤ 0x1f → Stands b (Some Remark)
  unknown : Stands b None

pub remark_kind : (b : ℕ) → 0x10 ≤ b → b ≤ 0x1f → kind_of b ≡ (Some Remark)
unfolding kind_of
remark_kind b l h =
    rw (ne_eqb b 1 (omega arith), ne_eqb b 2 (omega arith), ne_eqb b 3 (omega arith), ne_eqb b 4 (omega arith), le-leb 0x10 b l, le-leb b 0x1f h)

stands : (b : ℕ) → Stands b (kind_of b)
unfolding kind_of
stands b = one (ℕ_discrete b 1)
  where
    range : (l h : Bool) → leb 0x10 b ≡ l → leb b 0x1f ≡ h → Stands b (cond (l && h) (Some Remark) None)
    range true true e f = remark (leb-true 0x10 b e) (leb-true b 0x1f f)
    range true false e f = unknown
    range false h e f = unknown

    four : Dec (b ≡ 4) → Stands b (cond (eqb b 4) (Some Tag) (cond (leb 0x10 b && leb b 0x1f) (Some Remark) None))
    four (yes e) = rw (eq-eqb b 4 e) (tag e)
    four (no n) = rw (ne_eqb b 4 n) (range (leb 0x10 b) (leb b 0x1f) refl refl)

    three : Dec (b ≡ 3) → Stands b (cond (eqb b 3) (Some Sealed) (cond (eqb b 4) (Some Tag) (cond (leb 0x10 b && leb b 0x1f) (Some Remark) None)))
    three (yes e) = rw (eq-eqb b 3 e) (sealed e)
    three (no n) = rw (ne_eqb b 3 n) (four (ℕ_discrete b 4))

    two : Dec (b ≡ 2) → Stands b (cond (eqb b 2) (Some Iv) (cond (eqb b 3) (Some Sealed) (cond (eqb b 4) (Some Tag) (cond (leb 0x10 b && leb b 0x1f) (Some Remark) None))))
    two (yes e) = rw (eq-eqb b 2 e) (iv e)
    two (no n) = rw (ne_eqb b 2 n) (three (ℕ_discrete b 3))

    one : Dec (b ≡ 1) → Stands b (cond (eqb b 1) (Some PadNumber) (cond (eqb b 2) (Some Iv) (cond (eqb b 3) (Some Sealed) (cond (eqb b 4) (Some Tag) (cond (leb 0x10 b && leb b 0x1f) (Some Remark) None)))))
    one (yes e) = rw (eq-eqb b 1 e) (pad_number_lem e)
    one (no n) = rw (ne_eqb b 1 n) (two (ℕ_discrete b 2))

-- ---- which kind byte is due

pub due_kind : (b k : ℕ) → due (kind_of b) k ≡ true → DueKind k b
unfolding due
due_kind b k = go (kind_of b) (stands b)
  where
    go : (K : Option Kind) → Stands b K → due K k ≡ true → DueKind k b
    go (Some PadNumber) (pad_number_lem e) h = let z = eqb-true k 0 h in one_of_four (omega arith) (omega arith)
    go (Some Iv) (iv e) h = let z = eqb-true k 1 h in one_of_four (omega arith) (omega arith)
    go (Some Sealed) (sealed e) h = let z = eqb-true k 2 h in one_of_four (omega arith) (omega arith)
    go (Some Tag) (tag e) h = let z = eqb-true k 3 h in one_of_four (omega arith) (omega arith)
    go (Some Remark) (remark a c) h = let v = and_true (leb 4 k) (ltb k 8) h in a_remark (leb-true 4 k v.0) (ltb-true k 8 v.1) a c
    go None s h = absurd (false≢true h)

pub kind_due : (b k : ℕ) → DueKind k b → due (kind_of b) k ≡ true
unfolding kind_of due
kind_due b zero (one_of_four l e) = ap (λ (x : ℕ). due (kind_of x) 0) e
kind_due b (suc zero) (one_of_four l e) = ap (λ (x : ℕ). due (kind_of x) 1) e
kind_due b (suc (suc zero)) (one_of_four l e) = ap (λ (x : ℕ). due (kind_of x) 2) e
kind_due b (suc (suc (suc zero))) (one_of_four l e) = ap (λ (x : ℕ). due (kind_of x) 3) e
kind_due b (suc (suc (suc (suc k)))) (one_of_four l e) = absurd (omega arith)
kind_due b k (a_remark l h low high) = ap (λ (K : Option Kind). due K k) (remark_kind b low high) ∙ rw (le-leb 4 k l, lt-ltb k 8 h)

pub not_due : (b k : ℕ) → (DueKind k b → ⊥) → due (kind_of b) k ≡ false
not_due b k n = go (due (kind_of b) k) refl
  where
    go : (t : Bool) → due (kind_of b) k ≡ t → due (kind_of b) k ≡ false
    go true e = absurd (n (due_kind b k e))
    go false e = e

-- one of the first four, and no ninth
pub due_fixed : (b k : ℕ) → k < 4 → DueKind k b → b ≡ suc k
due_fixed b k l (one_of_four h e) = e
due_fixed b k l (a_remark h m low high) = absurd (omega arith)

pub due_few : (b k : ℕ) → DueKind k b → k < 8
due_few b k (one_of_four h e) = omega arith
due_few b k (a_remark l h low high) = h

-- ---- lengths

pub blocks_sized : (n : ℕ) → 16 ≤ n → n ≤ 1048576 → n % 16 ≡ 0 → sized (Some Sealed) n ≡ true
unfolding sized
blocks_sized n l h w = ap not (text_good n (λ e. omega arith) h w)

pub sized_blocks : (n : ℕ) → sized (Some Sealed) n ≡ true → (16 ≤ n) × (n ≤ 1048576) × (n % 16 ≡ 0)
unfolding sized
sized_blocks n h =
    let v = text_known n (not-true (bad_text n) h) in
    let a = v.0 in
    let c = v.2 in
    (omega arith, v.1, c)

pub sized_kind : (b n : ℕ) → sized (kind_of b) n ≡ true → KindLength b n
unfolding sized
sized_kind b n = go (kind_of b) (stands b)
  where
    go : (K : Option Kind) → Stands b K → sized K n ≡ true → KindLength b n
    go (Some PadNumber) (pad_number_lem e) h = of_pad_number e (eqb-true n 8 h)
    go (Some Iv) (iv e) h = of_iv e (eqb-true n 16 h)
    go (Some Sealed) (sealed e) h = let v = sized_blocks n h in of_sealed e v.0 v.1 v.2
    go (Some Tag) (tag e) h = of_tag e (eqb-true n 16 h)
    go (Some Remark) (remark a c) h = of_remark a c (leb-true n 255 h)
    go None s h = absurd (false≢true h)

pub kind_sized : (b n : ℕ) → KindLength b n → sized (kind_of b) n ≡ true
unfolding kind_of sized
kind_sized b n (of_pad_number e h) = ap (λ (x : ℕ). sized (kind_of x) n) e ∙ eq-eqb n 8 h
kind_sized b n (of_iv e h) = ap (λ (x : ℕ). sized (kind_of x) n) e ∙ eq-eqb n 16 h
kind_sized b n (of_sealed e l m w) = ap (λ (x : ℕ). sized (kind_of x) n) e ∙ blocks_sized n l m w
kind_sized b n (of_tag e h) = ap (λ (x : ℕ). sized (kind_of x) n) e ∙ eq-eqb n 16 h
kind_sized b n (of_remark low high h) = ap (λ (K : Option Kind). sized K n) (remark_kind b low high) ∙ le-leb n 255 h

pub not_sized : (b n : ℕ) → (KindLength b n → ⊥) → sized (kind_of b) n ≡ false
not_sized b n f = go (sized (kind_of b) n) refl
  where
    go : (t : Bool) → sized (kind_of b) n ≡ t → sized (kind_of b) n ≡ false
    go true e = absurd (f (sized_kind b n e))
    go false e = e

pub length_most : (b n : ℕ) → KindLength b n → n ≤ 1048576
length_most b n (of_pad_number e h) = omega arith
length_most b n (of_iv e h) = omega arith
length_most b n (of_sealed e l m w) = m
length_most b n (of_tag e h) = omega arith
length_most b n (of_remark low high h) = omega arith

-- The seen word of a function's first values: which of its bits are clear, and how many are ones. There are as many ones as
-- values exactly where each value is below the bound and none comes twice.
use mathlib.Core.Path.{◌≡◌, refl, sym, ap, ap₂, ◌∙◌}
use mathlib.Core.List.{List, [], ◌∷◌}
use mathlib.Core.Bool.{Bool, true, false, not, cond, ◌&&◌, and-true, and-false}
use Prim.Native.Nat.{ℕ, zero, suc, ◌+◌, ◌*◌, ◌/◌, ◌%◌, ◌^◌, ◌≤◌, ◌<◌, zero-le}
use native.Mathlib.Nat.{zero-div, mod-eq_of_lt}
use native.Mathlib.Numerals.{add-one}
use native.Mathlib.Decide.{dec_lt, ℕ_discrete}
use native.Mathlib.Omega.{arith}
use borrow.Author.Tests.{lt-ltb, le-ltb, ltb-true, ltb-false, eqb-true, eqb-false, eq-eqb, ne_eqb}
use lib.Bits.{bit_or, or_zero_r}
use lib.Count.{ones}
use lib.Dec.{ltb, eqb, eqb-suc-suc}
use lib.ListN.{length, get_or, take, drop, length-drop}
use lib.Pow.{pow-add}
use lib.Seq.{take-suc, get_or-drop}
use Rattle.std.specs.List.{fold}
use Rattle.std.proofs.lemmas.List.Sums.{fold-append}
use Rattle.lists.specs.Every.{every}
use Rattle.lists.proofs.EveryLaws.{true_and}
use Rattle.seen.specs.SeenWord.{bit_of, seen_word}
use Rattle.seen.proofs.BitLaws.{bit, ones_set, bit_set, bit_other}

-- the two halves of a word of 16 bits: bit x is bit x mod 8 of the half x / 8
pub halves : (x : ℕ) → cond (eqb (x / 8) 0) (2 ^ (x % 8)) 0 + 256 * cond (eqb (x / 8) 1) (2 ^ (x % 8)) 0 ≡ bit_of 16 x
halves x = go (dec_lt x 8) (dec_lt x 16)
  where
    go : Dec (x < 8) → Dec (x < 16) → cond (eqb (x / 8) 0) (2 ^ (x % 8)) 0 + 256 * cond (eqb (x / 8) 1) (2 ^ (x % 8)) 0 ≡ bit_of 16 x
    go (yes l) d =
        rw (eq-eqb (x / 8) 0 (omega arith), ne_eqb (x / 8) 1 (λ z. omega arith), lt-ltb x 16 (omega arith))
        (omega (arith, ap (λ (k : ℕ). 2 ^ k) (mod-eq_of_lt l)))
    go (no l) (yes h) =
        let e : x ≡ 8 + x % 8 = omega arith in
        let p : 2 ^ x ≡ 256 * 2 ^ (x % 8) = ap (λ (k : ℕ). 2 ^ k) e ∙ pow-add 2 8 (x % 8) in
        rw (ne_eqb (x / 8) 0 (λ z. omega arith), eq-eqb (x / 8) 1 (omega arith), lt-ltb x 16 h) (omega (arith, p))
    go (no l) (no h) =
        rw (ne_eqb (x / 8) 0 (λ z. omega arith), ne_eqb (x / 8) 1 (λ z. omega arith), le-ltb x 16 (omega arith))

module _ (m : ℕ) (f : ℕ → ℕ) where
  -- one value more
  pub seen_more : (n : ℕ) → bit_or (seen_word n m f) (bit_of m (f n)) ≡ seen_word (n + 1) m f
  unfolding seen_word
  seen_more n = rw add-one

  -- no more ones than values
  ones_most : (n : ℕ) → ones (seen_word n m f) ≤ n
  unfolding seen_word ones
  ones_most zero = zero-le
  ones_most (suc n) = go (ltb (f n) m) (ones_most n)
    where
      go : (b : Bool) → ones (seen_word n m f) ≤ n → ones (bit_or (seen_word n m f) (cond b (2 ^ f n) 0)) ≤ suc n
      go true h = omega (arith, ones_set (seen_word n m f) (f n))
      go false h = omega (arith, ap ones (or_zero_r (seen_word n m f)))

  -- a bit is clear exactly where its number is no value
  unseen : (n x : ℕ) → x < m → eqb (bit (seen_word n m f) x) 0 ≡ every n (λ k. not (eqb (f k) x))
  unfolding seen_word every
  unseen zero x h = eq-eqb (0 / 2 ^ x % 2) 0 (ap (λ (z : ℕ). z % 2) (zero-div (2 ^ x)))
  unseen (suc n) x h = go (ltb (f n) m) refl (ℕ_discrete x (f n)) ∙ ap (λ (b : Bool). b && not (eqb (f n) x)) (unseen n x h)
    where
      w : ℕ
      w = seen_word n m f

      seen : x ≡ f n → eqb (bit (bit_or w (2 ^ f n)) x) 0 ≡ eqb (bit w x) 0 && not (eqb (f n) x)
      seen e =
          ap (λ (z : ℕ). eqb (bit (bit_or w (2 ^ f n)) z) 0) e ∙ ap (λ (z : ℕ). eqb z 0) (bit_set w (f n))
          ∙ sym (ap (λ (b : Bool). eqb (bit w x) 0 && not b) (eq-eqb (f n) x (sym e)) ∙ and-false (eqb (bit w x) 0))

      other : (x ≡ f n → ⊥) → (v : ℕ) → bit v x ≡ bit w x → eqb (bit v x) 0 ≡ eqb (bit w x) 0 && not (eqb (f n) x)
      other d v e =
          ap (λ (z : ℕ). eqb z 0) e
          ∙ sym (ap (λ (b : Bool). eqb (bit w x) 0 && not b) (ne_eqb (f n) x (λ z. d (sym z))) ∙ and-true (eqb (bit w x) 0))

      go : (b : Bool) → ltb (f n) m ≡ b → Dec (x ≡ f n) → eqb (bit (bit_or w (cond b (2 ^ f n) 0)) x) 0 ≡ eqb (bit w x) 0 && not (eqb (f n) x)
      go true e (yes d) = seen d
      go true e (no d) = other d (bit_or w (2 ^ f n)) (bit_other w (f n) x d)
      go false e d =
          other (λ z. let l = ltb-false (f n) m e in omega arith) (bit_or w 0) (ap (λ (z : ℕ). bit z x) (or_zero_r w))

  -- as many ones as values
  pub counted : (n : ℕ) → eqb (ones (seen_word n m f)) n ≡ every n (λ i. ltb (f i) m && every i (λ k. not (eqb (f k) (f i))))
  unfolding seen_word every ones
  counted zero = refl
  counted (suc n) =
      go (ltb (f n) m) refl (eqb (bit (seen_word n m f) (f n)) 0) refl
      ∙ ap (λ (b : Bool). b && (ltb (f n) m && every n (λ k. not (eqb (f k) (f n))))) (counted n)
    where
      w : ℕ
      w = seen_word n m f

      fresh : Bool
      fresh = every n (λ k. not (eqb (f k) (f n)))

      -- whether the value is fresh is what its bit says
      known : ltb (f n) m ≡ true → {c : Bool} → eqb (bit w (f n)) 0 ≡ c → fresh ≡ c
      known e d = sym (unseen n (f n) (ltb-true (f n) m e)) ∙ d

      -- a value that adds no one
      short : (v : ℕ) → ones v ≤ ones w → ltb (f n) m && fresh ≡ false → eqb (ones v) (suc n) ≡ eqb (ones w) n && (ltb (f n) m && fresh)
      short v l e =
          ne_eqb (ones v) (suc n) (λ z. let h = ones_most n in omega arith)
          ∙ sym (ap (λ (b : Bool). eqb (ones w) n && b) e ∙ and-false (eqb (ones w) n))

      go : (b : Bool) → ltb (f n) m ≡ b → (c : Bool) → eqb (bit w (f n)) 0 ≡ c
          → eqb (ones (bit_or w (cond b (2 ^ f n) 0))) (suc n) ≡ eqb (ones w) n && (ltb (f n) m && fresh)
      go true e true d =
          let z = eqb-true (bit w (f n)) 0 d in
          let u : ones (bit_or w (2 ^ f n)) ≡ suc (ones w) = omega (arith, ones_set w (f n)) in
          ap (λ (a : ℕ). eqb a (suc n)) u ∙ eqb-suc-suc (ones w) n
          ∙ sym (ap (λ (b : Bool). eqb (ones w) n && b) (true_and (ltb (f n) m) fresh e (known e d)) ∙ and-true (eqb (ones w) n))
      go true e false d =
          let z = eqb-false (bit w (f n)) 0 d in
          short (bit_or w (2 ^ f n)) (omega (arith, ones_set w (f n)))
          (ap (λ (b : Bool). ltb (f n) m && b) (known e d) ∙ and-false (ltb (f n) m))
      go false e c d = short (bit_or w 0) (omega (arith, ap ones (or_zero_r w))) (rw e)

-- the seen word of n numbers of a list, from a place on, as they are read one after another
module _ (m : ℕ) (s : List ℕ) (at : ℕ) where
  abbrev step : ℕ → ℕ → ℕ
  step w x = bit_or w (bit_of m x)

  read : (n : ℕ) → at + n ≤ length s → fold step 0 (take n (drop at s)) ≡ seen_word n m (λ v. get_or s (at + v) 0)
  unfolding seen_word
  read zero h = refl
  read (suc n) h =
      ap (fold step 0) (take-suc (drop at s) n 0 (omega (arith, length-drop at s)))
      ∙ fold-append step 0 (take n (drop at s)) (get_or (drop at s) n 0 ∷ [])
      ∙ ap₂ step (read n (omega arith)) (get_or-drop at s n 0)
      ∙ seen_more m (λ v. get_or s (at + v) 0) n
      ∙ rw add-one

  pub seen_fold : (n k : ℕ) → k ≡ n → at + n ≤ length s → fold step 0 (take k (drop at s)) ≡ seen_word n m (λ v. get_or s (at + v) 0)
  seen_fold n k e h = ap (λ (j : ℕ). fold step 0 (take j (drop at s))) e ∙ read n h

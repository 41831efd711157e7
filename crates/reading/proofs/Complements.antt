-- A difference is the complement of the complement's sum; so its borrows are that sum's carries (`RippleAdd`), and the half bytes with
-- their borrows, lowest first, are the difference mod 2 ^ 32.
use mathlib.Core.Path.{◌≡◌, refl, ap, ◌∙◌}
use Prim.Native.Nat.{ℕ, zero, suc, ◌+◌, ◌-◌, ◌*◌, ◌/◌, ◌%◌, ◌^◌, ◌<◌}
use native.Mathlib.Nat.{pow-suc, le_of_suc-le-suc, not-suc-le-zero}
use native.Mathlib.Omega.{arith}
use lib.Dec.{lit<}
use Rattle.lists.specs.HalfBytes.{half_byte}
use Rattle.lists.proofs.HalfByteLaws.{half_lt}
use Rattle.words.specs.Word.{add, sub}
use Rattle.words.proofs.WordLaws.{add_word}
use Rattle.cipher.proofs.RippleAdd.{carry_into, carry_next, carry_lt, half_add}

half_complement : (n x j : ℕ) → x < 16 ^ n → j < n → half_byte (16 ^ n - 1 - x) j ≡ 15 - half_byte x j
unfolding half_byte
half_complement zero x j h k = absurd (not-suc-le-zero k)
half_complement (suc n) x zero h k =
    let e : x < 16 ^ n * 16 = rw pow-suc at h in
    rw pow-suc (omega arith)
half_complement (suc n) x (suc j) h k =
    let e : x < 16 ^ n * 16 = rw pow-suc at h in
    let l : x / 16 < 16 ^ n = omega arith in
    let f : (16 ^ suc n - 1 - x) / 16 ≡ 16 ^ n - 1 - x / 16 = rw pow-suc (omega arith) in
    rw f (half_complement n (x / 16) j l (le_of_suc-le-suc k))

-- of words
pub rest : ℕ → ℕ
rest x = 2 ^ 32 - 1 - x

pub half_rest : (x j : ℕ) → x < 2 ^ 32 → j < 8 → half_byte (rest x) j ≡ 15 - half_byte x j
unfolding rest
half_rest x j h k = half_complement 8 x j h k

pub sub_rest : (x y : ℕ) → x < 2 ^ 32 → y < 2 ^ 32 → sub x y ≡ rest (add (rest x) y)
unfolding rest sub add
sub_rest x y h k = omega arith

-- ---- the borrow into half byte j of x - y

pub borrow_into : ℕ → ℕ → ℕ → ℕ
borrow_into x y j = carry_into 0 (rest x) y j

pub borrow_none : (x y : ℕ) → borrow_into x y 0 ≡ 0
unfolding borrow_into carry_into
borrow_none x y = refl

module _ (x y j : ℕ) (hx : x < 2 ^ 32) (hj : j < 8) where
  -- it borrows on where its half byte is too small
  pub borrow_next : borrow_into x y (suc j) ≡ 1 - (16 + half_byte x j - (half_byte y j + borrow_into x y j)) / 16
  unfolding borrow_into
  borrow_next =
      let a = half_lt x j in
      let b = half_lt y j in
      let c = carry_lt 0 (rest x) y j (lit< tt) in
      carry_next 0 (rest x) y j ∙ rw (half_rest x j hx hj) (omega arith)

  pub half_sub : y < 2 ^ 32 → half_byte (sub x y) j ≡ (16 + half_byte x j - (half_byte y j + borrow_into x y j)) % 16
  unfolding borrow_into
  half_sub hy =
      let a = half_lt x j in
      let b = half_lt y j in
      let c = carry_lt 0 (rest x) y j (lit< tt) in
      ap (λ (z : ℕ). half_byte z j) (sub_rest x y hx hy)
      ∙ half_rest (add (rest x) y) j (add_word (rest x) y) hj
      ∙ rw (half_add (rest x) y j hj, half_rest x j hx hj) (omega arith)

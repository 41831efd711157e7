-- The half bytes of LEA's three rotations. A rotation is a cut of the word written twice, at bit 4q + 3 or 4q + 1; so
-- each half byte comes from two neighbouring half bytes of the word.
use Rattle.std.proofs.Common.{◌≡◌, ℕ, zero, suc, ◌+◌, ◌-◌, ◌*◌, ◌/◌, ◌%◌, ◌^◌, ◌<◌, sym, ap, ◌∙◌, ap₂, arith}
use native.Mathlib.Decide.{dec_lt}
use Rattle.lists.specs.HalfBytes.{half_byte}
use Rattle.lists.proofs.HalfByteLaws.{half_mod}
use Rattle.words.specs.Word.{turn_left, turn_right}

-- ---- cuts

half_cut3 : (x j : ℕ) → half_byte (x / 8) j ≡ (2 * half_byte x (suc j) + half_byte x j / 8) % 16
unfolding half_byte
half_cut3 x zero = omega arith
half_cut3 x (suc j) = let e : x / 8 / 16 ≡ x / 16 / 8 = omega arith in rw e (half_cut3 (x / 16) j)

half_cut1 : (x j : ℕ) → half_byte (x / 2) j ≡ (8 * half_byte x (suc j) + half_byte x j / 2) % 16
unfolding half_byte
half_cut1 x zero = omega arith
half_cut1 x (suc j) = let e : x / 2 / 16 ≡ x / 16 / 2 = omega arith in rw e (half_cut1 (x / 16) j)

-- ---- a word written twice

twice : ℕ → ℕ
twice s = s + s * 2 ^ 32

half_twice : (s j : ℕ) → s < 2 ^ 32 → j < 16 → half_byte (twice s) j ≡ half_byte s (j % 8)
unfolding twice half_byte
half_twice s j hs hj = go (dec_lt j 8)
  where
    up : (k : ℕ) → 8 + k ≡ j → half_byte (s + s * 2 ^ 32) j ≡ half_byte s (j % 8)
    up k p =
        let e : (s + s * 2 ^ 32) / 16 / 16 / 16 / 16 / 16 / 16 / 16 / 16 ≡ s = omega arith in
        let f : suc (suc (suc (suc (suc (suc (suc (suc k))))))) ≡ j = omega arith in
        let g : k ≡ j % 8 = omega arith in
        ap (half_byte (s + s * 2 ^ 32)) (sym f) ∙ ap₂ half_byte e g

    go : Dec (j < 8) → half_byte (s + s * 2 ^ 32) j ≡ half_byte s (j % 8)
    go (yes h) =
        let e : (s + s * 2 ^ 32) % 16 ^ 8 ≡ s = omega arith in
        let f : j % 8 ≡ j = omega arith in
        sym (half_mod 8 (s + s * 2 ^ 32) j h) ∙ ap₂ half_byte e (sym f)
    go (no h) = up (j - 8) (omega arith)

-- half byte n of the word written twice, by its number mod 8
at : (s n m : ℕ) → s < 2 ^ 32 → n < 16 → n % 8 ≡ m → half_byte (twice s) n ≡ half_byte s m
at s n m h k e = half_twice s n h k ∙ ap (half_byte s) e

left9_cut : (s : ℕ) → s < 2 ^ 32 → turn_left 9 s ≡ twice s / 2 ^ 23 % 2 ^ 32
unfolding turn_left twice
left9_cut s h =
    let f : (s + s * 2 ^ 32) / 2 ^ 23 ≡ s / 2 ^ 23 + s * 2 ^ 9 = omega arith in
    rw f (omega arith)

right5_cut : (s : ℕ) → s < 2 ^ 32 → turn_right 5 s ≡ twice s / 2 ^ 5 % 2 ^ 32
unfolding turn_right twice
right5_cut s h =
    let f : (s + s * 2 ^ 32) / 2 ^ 5 ≡ s / 2 ^ 5 + s * 2 ^ 27 = omega arith in
    rw f (omega arith)

right3_cut : (s : ℕ) → s < 2 ^ 32 → turn_right 3 s ≡ twice s / 2 ^ 3 % 2 ^ 32
unfolding turn_right twice
right3_cut s h =
    let f : (s + s * 2 ^ 32) / 2 ^ 3 ≡ s / 2 ^ 3 + s * 2 ^ 29 = omega arith in
    rw f (omega arith)

-- ---- half byte j of each rotation

pub half_left9 : (s j : ℕ) → s < 2 ^ 32 → j < 8
    → half_byte (turn_left 9 s) j ≡ (2 * half_byte s ((j + 6) % 8) + half_byte s ((j + 5) % 8) / 8) % 16
unfolding half_byte
half_left9 s j h k =
    let e : twice s / 2 ^ 23 ≡ twice s / 16 / 16 / 16 / 16 / 16 / 8 = omega arith in
    let u = at s (suc (suc (suc (suc (suc (suc j)))))) ((j + 6) % 8) h (omega arith) (omega arith) in
    let v = at s (suc (suc (suc (suc (suc j))))) ((j + 5) % 8) h (omega arith) (omega arith) in
    rw (left9_cut s h) (half_mod 8 (twice s / 2 ^ 23) j k ∙ rw (e, half_cut3, u, v))

pub half_right5 : (s j : ℕ) → s < 2 ^ 32 → j < 8
    → half_byte (turn_right 5 s) j ≡ (8 * half_byte s ((j + 2) % 8) + half_byte s ((j + 1) % 8) / 2) % 16
unfolding half_byte
half_right5 s j h k =
    let e : twice s / 2 ^ 5 ≡ twice s / 16 / 2 = omega arith in
    let u = at s (suc (suc j)) ((j + 2) % 8) h (omega arith) (omega arith) in
    let v = at s (suc j) ((j + 1) % 8) h (omega arith) (omega arith) in
    rw (right5_cut s h) (half_mod 8 (twice s / 2 ^ 5) j k ∙ rw (e, half_cut1, u, v))

pub half_right3 : (s j : ℕ) → s < 2 ^ 32 → j < 8
    → half_byte (turn_right 3 s) j ≡ (2 * half_byte s ((j + 1) % 8) + half_byte s j / 8) % 16
unfolding half_byte
half_right3 s j h k =
    let u = at s (suc j) ((j + 1) % 8) h (omega arith) (omega arith) in
    let v = at s j j h (omega arith) (omega arith) in
    rw (right3_cut s h) (half_mod 8 (twice s / 2 ^ 3) j k ∙ rw (half_cut3, u, v))

-- The half bytes of the three rotations that undo LEA's: each follows from those of the rotation that it undoes.
use mathlib.Core.Path.{◌≡◌, refl, sym, ap, ◌∙◌}
use Prim.Native.Nat.{ℕ, zero, suc, ◌+◌, ◌*◌, ◌/◌, ◌%◌, ◌^◌, ◌<◌}
use native.Mathlib.Omega.{arith}
use Rattle.lists.specs.HalfBytes.{half_byte}
use Rattle.lists.proofs.HalfByteLaws.{half_lt}
use Rattle.words.specs.Word.{turn_left, turn_right}
use Rattle.words.proofs.WordLaws.{left_word, right_word, right_left, left_right}
use Rattle.cipher.proofs.TurnDigits.{half_left9, half_right5, half_right3}
use Rattle.reading.specs.Tables.{turned_back, upper_back, lower_back}

-- a half byte q out of two that a cut at bit 3, or at bit 1, made of it and its neighbours
from3 : (p q s : ℕ) → q < 16 → s < 16 → q ≡ (8 * ((2 * p + q / 8) % 16) + (2 * q + s / 8) % 16 / 2) % 16
from3 p q s h k =
    let a : (2 * q + s / 8) % 16 / 2 ≡ q % 8 = omega arith in
    rw a (omega arith)

from1 : (p q s : ℕ) → q < 16 → s < 16 → q ≡ (2 * ((8 * p + q / 2) % 16) + (8 * q + s / 2) % 16 / 8) % 16
from1 p q s h k =
    let a : (8 * q + s / 2) % 16 / 8 ≡ q % 2 = omega arith in
    rw a (omega arith)

-- eight half bytes further on is the same place
around : (a b j : ℕ) → a + b ≡ 8 → j < 8 → ((j + a) % 8 + b) % 8 ≡ j
around a b j e h = omega arith

module _ (x j : ℕ) (h : x < 2 ^ 32) (k : j < 8) where
  half_right9 : half_byte (turn_right 9 x) j ≡ (8 * half_byte x ((j + 3) % 8) + half_byte x ((j + 2) % 8) / 2) % 16
  half_right9 =
      let y = turn_right 9 x in
      let e : turn_left 9 y ≡ x = left_right 9 x (omega arith) h in
      let l : y < 2 ^ 32 = right_word 9 x (omega arith) h in
      let b : ((j + 3) % 8 + 5) % 8 ≡ j = around 3 5 j refl k in
      let c : ((j + 2) % 8 + 6) % 8 ≡ j = around 2 6 j refl k in
      let u : half_byte x ((j + 3) % 8) ≡ (2 * half_byte y (((j + 3) % 8 + 6) % 8) + half_byte y j / 8) % 16 =
      ap (λ (z : ℕ). half_byte z ((j + 3) % 8)) (sym e) ∙ half_left9 y ((j + 3) % 8) l (omega arith) ∙ rw b in
      let v : half_byte x ((j + 2) % 8) ≡ (2 * half_byte y j + half_byte y (((j + 2) % 8 + 5) % 8) / 8) % 16 =
      ap (λ (z : ℕ). half_byte z ((j + 2) % 8)) (sym e) ∙ half_left9 y ((j + 2) % 8) l (omega arith) ∙ rw c in
      rw (u, v) (from3 (half_byte y (((j + 3) % 8 + 6) % 8)) (half_byte y j) (half_byte y (((j + 2) % 8 + 5) % 8)) (half_lt y j) (half_lt y (((j + 2) % 8 + 5) % 8)))

  half_left5 : half_byte (turn_left 5 x) j ≡ (2 * half_byte x ((j + 7) % 8) + half_byte x ((j + 6) % 8) / 8) % 16
  half_left5 =
      let y = turn_left 5 x in
      let e : turn_right 5 y ≡ x = right_left 5 x (omega arith) h in
      let l : y < 2 ^ 32 = left_word 5 x (omega arith) h in
      let b : ((j + 7) % 8 + 1) % 8 ≡ j = around 7 1 j refl k in
      let c : ((j + 6) % 8 + 2) % 8 ≡ j = around 6 2 j refl k in
      let u : half_byte x ((j + 7) % 8) ≡ (8 * half_byte y (((j + 7) % 8 + 2) % 8) + half_byte y j / 2) % 16 =
      ap (λ (z : ℕ). half_byte z ((j + 7) % 8)) (sym e) ∙ half_right5 y ((j + 7) % 8) l (omega arith) ∙ rw b in
      let v : half_byte x ((j + 6) % 8) ≡ (8 * half_byte y j + half_byte y (((j + 6) % 8 + 1) % 8) / 2) % 16 =
      ap (λ (z : ℕ). half_byte z ((j + 6) % 8)) (sym e) ∙ half_right5 y ((j + 6) % 8) l (omega arith) ∙ rw c in
      rw (u, v) (from1 (half_byte y (((j + 7) % 8 + 2) % 8)) (half_byte y j) (half_byte y (((j + 6) % 8 + 1) % 8)) (half_lt y j) (half_lt y (((j + 6) % 8 + 1) % 8)))

  half_left3 : half_byte (turn_left 3 x) j ≡ (8 * half_byte x j + half_byte x ((j + 7) % 8) / 2) % 16
  half_left3 =
      let y = turn_left 3 x in
      let e : turn_right 3 y ≡ x = right_left 3 x (omega arith) h in
      let l : y < 2 ^ 32 = left_word 3 x (omega arith) h in
      let c : ((j + 7) % 8 + 1) % 8 ≡ j = around 7 1 j refl k in
      let u : half_byte x j ≡ (2 * half_byte y ((j + 1) % 8) + half_byte y j / 8) % 16 =
      ap (λ (z : ℕ). half_byte z j) (sym e) ∙ half_right3 y j l k in
      let v : half_byte x ((j + 7) % 8) ≡ (2 * half_byte y j + half_byte y ((j + 7) % 8) / 8) % 16 =
      ap (λ (z : ℕ). half_byte z ((j + 7) % 8)) (sym e) ∙ half_right3 y ((j + 7) % 8) l (omega arith) ∙ rw c in
      rw (u, v) (from3 (half_byte y ((j + 1) % 8)) (half_byte y j) (half_byte y ((j + 7) % 8)) (half_lt y j) (half_lt y ((j + 7) % 8)))

-- word i turned back, for i = 0, 1, 2
unfoldable pub back_turn : ℕ → ℕ → ℕ
back_turn zero x = turn_right 9 x
back_turn (suc zero) x = turn_left 5 x
back_turn (suc (suc i)) x = turn_left 3 x

pub back_word : (i x : ℕ) → x < 2 ^ 32 → back_turn i x < 2 ^ 32
unfolding back_turn
back_word zero x h = right_word 9 x (omega arith) h
back_word (suc zero) x h = left_word 5 x (omega arith) h
back_word (suc (suc i)) x h = left_word 3 x (omega arith) h

pub half_back : (i x j : ℕ) → x < 2 ^ 32 → j < 8 → half_byte (back_turn i x) j ≡ turned_back i (half_byte x (upper_back i j)) (half_byte x (lower_back i j))
unfolding back_turn
half_back zero x j h k = half_right9 x j h k
half_back (suc zero) x j h k = half_left5 x j h k
half_back (suc (suc i)) x j h k = half_left3 x j h k

pub back_lt : (i u v : ℕ) → turned_back i u v < 16
back_lt zero u v = omega arith
back_lt (suc zero) u v = omega arith
back_lt (suc (suc i)) u v = omega arith

pub upper_lt : (i j : ℕ) → j < 8 → upper_back i j < 8
upper_lt zero j h = omega arith
upper_lt (suc zero) j h = omega arith
upper_lt (suc (suc i)) j h = h

pub lower_lt : (i j : ℕ) → j < 8 → lower_back i j < 8
lower_lt zero j h = omega arith
lower_lt (suc zero) j h = omega arith
lower_lt (suc (suc i)) j h = omega arith

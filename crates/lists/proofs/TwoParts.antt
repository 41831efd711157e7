-- A buffer that is filled in two parts, each of which was lent.
use mathlib.Core.Path.{◌≡◌, sym, ap, ◌∙◌}
use mathlib.Core.List.{List, ◌++◌}
use Prim.Native.Nat.{ℕ, ◌+◌, ◌-◌, ◌≤◌}
use native.Mathlib.Nat.{le_of_eq, add-sub_cancel_left}
use native.Mathlib.Omega.{arith}
use lib.ListN.{length, take, drop, length-append, length-drop}
use lib.Seq.{drop_at, length-take-le}
use Rattle.lists.proofs.PartLaws.{grown_part, grown_whole}

-- x written in front of out, and y after it
module _ (x y out : List ℕ) (m n : ℕ) (room : length out ≡ m + n) (lx : length x ≡ m) where
  pub second_length : length (take n (drop m (x ++ drop m out))) ≡ n
  second_length =
      rw (drop_at x (drop m out) m lx) (length-take-le n (drop m out) (rw (length-drop m out) (omega arith)))

  pub two_joined : take m (x ++ drop m out) ++ (y ++ drop n (drop m (x ++ drop m out))) ≡ x ++ y
  two_joined = grown_part x y out m n lx ∙ grown_whole (x ++ y) out (m + n) (le_of_eq room)

  pub two_length : length y ≡ n → length (take m (x ++ drop m out) ++ (y ++ drop n (drop m (x ++ drop m out)))) ≡ length out
  two_length ly = ap length two_joined ∙ length-append x y ∙ rw (lx, ly) (sym room)

-- the front of a buffer, as it is lent
pub room_length : (n m : ℕ) (out : List ℕ) → n ≡ m → m ≤ length out → length (take (n - 0) out) ≡ m
room_length n m out e h =
    let d : n - 0 ≡ m = omega arith in
    rw d (length-take-le m out h)

-- the same with the lengths as the parts of the code have them, `&mut out[0..m]` and `&mut out[m..m + n]`
abbrev pub after_front : List ℕ → List ℕ → ℕ → List ℕ
after_front x out m = x ++ drop (m - 0) out

module _ (x y out : List ℕ) (m n : ℕ) (room : length out ≡ m + n) (lx : length x ≡ m) where
  front : m - 0 ≡ m
  front = omega arith

  pub rest_length : length (take (m + n - m) (drop m (after_front x out m))) ≡ n
  rest_length = rw (front, add-sub_cancel_left m n) (second_length x y out m n room lx)

  pub rest_joined : take m (after_front x out m) ++ (y ++ drop (m + n - m) (drop m (after_front x out m))) ≡ x ++ y
  rest_joined = rw (front, add-sub_cancel_left m n) (two_joined x y out m n room lx)

  pub both_length : length y ≡ n → length (take m (after_front x out m) ++ (y ++ drop (m + n - m) (drop m (after_front x out m)))) ≡ length out
  both_length ly = rw (front, add-sub_cancel_left m n) (two_length x y out m n room lx ly)

-- The message of a row: a byte b stored behind the key, and the part of the list up to it, as the borrow checker writes it.
use mathlib.Core.Path.{◌≡◌, refl, ap, ◌∙◌}
use mathlib.Core.List.{List, [], ◌∷◌, ◌++◌}
use Prim.Native.Nat.{ℕ, suc, ◌+◌, ◌-◌, ◌≤◌}
use native.Mathlib.Omega.{arith}
use lib.ListN.{length, set, take, replicate, length-append, length-set}
use lib.Seq.{take_at, take-suc-set}

pub key_front : (key m : List ℕ) → m ≡ key ++ replicate (64 - length key) 0 → take (length key) m ≡ key
key_front key m e = ap (take (length key)) e ∙ take_at key (replicate (64 - length key) 0) (length key) refl

module _ (key m : List ℕ) (b : ℕ) (k : length key ≤ 54) (h : length m ≡ 64) (e : take (length key) m ≡ key) where
  pub message_is : take (length key + 1 - 0) (set m (length key) b) ≡ key ++ (b ∷ [])
  message_is =
      let n : length key + 1 - 0 ≡ suc (length key) = omega arith in
      ap (λ (j : ℕ). take j (set m (length key) b)) n
      ∙ take-suc-set m (length key) b (omega arith)
      ∙ ap (λ (x : List ℕ). x ++ (b ∷ [])) e

  pub message_room : length key + 1 ≤ length (set m (length key) b)
  message_room = omega (arith, length-set m (length key) b)

  pub message_fits : length (take (length key + 1 - 0) (set m (length key) b)) ≤ 55
  message_fits = omega (arith, ap length message_is, length-append key (b ∷ []))

-- Half bytes of bytes, and stores four places apart, as the loops over a round's tables make them.
use mathlib.Core.Path.{◌≡◌, ◌∙◌}
use mathlib.Core.List.{List}
use Prim.Native.Nat.{ℕ, ◌+◌, ◌*◌, ◌/◌, ◌%◌, ◌<◌}
use native.Mathlib.Omega.{arith}
use lib.ListN.{get_or, length, set, length-set}
use lib.Seq.{get_or-set_same, get_or-set_other}
use Rattle.lists.specs.HalfBytes.{half_byte}
use Rattle.cipher.specs.Coding.{block_half}

-- ---- half bytes

pub low_half : (s : List ℕ) (i j : ℕ) → j % 2 ≡ 0 → block_half s i (j % 8) ≡ get_or s (4 * i + j % 8 / 2) 0 % 16
unfolding block_half half_byte
low_half s i j h =
    let e : j % 8 % 2 ≡ 0 = omega arith in
    rw e

pub high_half : (s : List ℕ) (i j : ℕ) → (j % 2 ≡ 0 → ⊥) → block_half s i (j % 8) ≡ get_or s (4 * i + j % 8 / 2) 0 / 16 % 16
unfolding block_half half_byte
high_half s i j h =
    let e : j % 8 % 2 ≡ 1 = omega (arith, h) in
    rw e

pub half_lo : (b : List ℕ) (i m : ℕ) → block_half b i (2 * m) ≡ get_or b (4 * i + m) 0 % 16
unfolding block_half half_byte
half_lo b i m =
    let e : 2 * m % 2 ≡ 0 = omega arith in
    let f : 2 * m / 2 ≡ m = omega arith in
    rw (e, f)

pub half_hi : (b : List ℕ) (i m : ℕ) → block_half b i (2 * m + 1) ≡ get_or b (4 * i + m) 0 / 16 % 16
unfolding block_half half_byte
half_hi b i m =
    let e : (2 * m + 1) % 2 ≡ 1 = omega arith in
    let f : (2 * m + 1) / 2 ≡ m = omega arith in
    rw (e, f)

-- ---- stores

pub set_far : (s : List ℕ) (i k v : ℕ) → (k ≡ i → ⊥) → get_or (set s i v) k 0 ≡ get_or s k 0
set_far s i k v h = get_or-set_other s i k v 0 h

unfoldable pub three : List ℕ → ℕ → ℕ → ℕ → ℕ → List ℕ
three s m u v w = set (set (set s m u) (m + 4) v) (m + 8) w

module _ (s : List ℕ) (m u v w : ℕ) where
  pub length_three : length (three s m u v w) ≡ length s
  unfolding three
  length_three = simp length-set

  pub three_far : (k : ℕ) → (k ≡ m → ⊥) → (k ≡ m + 4 → ⊥) → (k ≡ m + 8 → ⊥) → get_or (three s m u v w) k 0 ≡ get_or s k 0
  unfolding three
  three_far k a b c = set_far (set (set s m u) (m + 4) v) (m + 8) k w c ∙ set_far (set s m u) (m + 4) k v b ∙ set_far s m k u a

  pub three_0 : m < length s → get_or (three s m u v w) m 0 ≡ u
  unfolding three
  three_0 h =
      set_far (set (set s m u) (m + 4) v) (m + 8) m w (λ e. omega arith)
      ∙ set_far (set s m u) (m + 4) m v (λ e. omega arith)
      ∙ get_or-set_same s m u 0 h

  pub three_1 : m + 4 < length s → get_or (three s m u v w) (m + 4) 0 ≡ v
  unfolding three
  three_1 h =
      set_far (set (set s m u) (m + 4) v) (m + 8) (m + 4) w (λ e. omega arith) ∙ get_or-set_same (set s m u) (m + 4) v 0 (simp length-set h)

  pub three_2 : m + 8 < length s → get_or (three s m u v w) (m + 8) 0 ≡ w
  unfolding three
  three_2 h = get_or-set_same (set (set s m u) (m + 4) v) (m + 8) w 0 (simp length-set h)

unfoldable pub four : List ℕ → ℕ → ℕ → ℕ → ℕ → ℕ → List ℕ
unfolding three
four s m u v w z = three (set s (m + 12) z) m u v w

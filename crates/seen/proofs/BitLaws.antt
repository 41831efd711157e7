-- A word after one more of its bits is set: what its bits are, and how many of them are ones.
use mathlib.Core.Path.{◌≡◌, sym, ap, ◌∙◌}
use Prim.Native.Nat.{ℕ, suc, ◌+◌, ◌-◌, ◌*◌, ◌/◌, ◌%◌, ◌^◌, ◌<◌, max}
use native.Mathlib.Omega.{arith}
use native.Mathlib.Nat.{add_comm, one-mul, add-zero, div-add-mod', mod-lt, zero-lt-suc, div-eq_of_lt, add-mul-div_right, mul-div_cancel_left, mul-mod_left, pow-suc}
use native.Mathlib.Decide.{dec_lt}
use lib.Bits.{bit_or, or_step, or_block, or_zero_r, or_shr, or_mod}
use lib.Count.{ones, ones_step, ones_cat}
use lib.Dec.{lit<}
use lib.Pow.{pow_pos, pow-lt, pow-add}

-- bit k of w
abbrev pub bit : ℕ → ℕ → ℕ
bit w k = w / 2 ^ k % 2

-- setting bit x, cut at x: the digits above, with the lowest set, and those below as they were
set_cut : (w x : ℕ) → bit_or w (2 ^ x) ≡ (w / 2 ^ x / 2 * 2 + 1) * 2 ^ x + w % 2 ^ x
set_cut w x =
    ap (λ (z : ℕ). bit_or z (2 ^ x)) (sym (div-add-mod' w (2 ^ x)))
    ∙ ap (λ (z : ℕ). bit_or (w / 2 ^ x * 2 ^ x + w % 2 ^ x) z) (sym (add-zero (1 * 2 ^ x) ∙ one-mul (2 ^ x)))
    ∙ or_block x (w / 2 ^ x) 1 (w % 2 ^ x) 0 (mod-lt w (pow_pos x)) (pow_pos x)
    ∙ ap (λ (z : ℕ). bit_or (w / 2 ^ x) 1 * 2 ^ x + z) (or_zero_r (w % 2 ^ x))
    ∙ ap (λ (z : ℕ). z * 2 ^ x + w % 2 ^ x) (lowest (w / 2 ^ x))
  where
    top : (d : ℕ) → d < 2 → max d 1 ≡ 1
    top d h = omega arith

    lowest : (a : ℕ) → bit_or a 1 ≡ a / 2 * 2 + 1
    lowest a = or_step a 1 ∙ ap (λ (z : ℕ). z * 2 + max (a % 2) 1) (or_zero_r (a / 2)) ∙ ap (λ (z : ℕ). a / 2 * 2 + z) (top (a % 2) (mod-lt a (zero-lt-suc 1)))

-- ---- the count of ones

ones_cut : (w x : ℕ) → ones w ≡ ones (w / 2 ^ x / 2) + bit w x + ones (w % 2 ^ x)
ones_cut w x =
    ap ones (sym (div-add-mod' w (2 ^ x))) ∙ ones_cat x (w / 2 ^ x) (w % 2 ^ x) (mod-lt w (pow_pos x))
    ∙ ap (λ (z : ℕ). z + ones (w % 2 ^ x)) (ones_step (w / 2 ^ x) ∙ add_comm (w / 2 ^ x % 2) (ones (w / 2 ^ x / 2)))

-- one more where the bit was clear, as many where it was set
pub ones_set : (w x : ℕ) → ones (bit_or w (2 ^ x)) + bit w x ≡ ones w + 1
unfolding ones
ones_set w x =
    let e = ap ones (set_cut w x) ∙ ones_cat x (w / 2 ^ x / 2 * 2 + 1) (w % 2 ^ x) (mod-lt w (pow_pos x))
    ∙ ap (λ (z : ℕ). z + ones (w % 2 ^ x)) (ones_cat 1 (w / 2 ^ x / 2) 1 (lit< tt)) in
    omega (arith, e, ones_cut w x)

-- ---- the bits

pub bit_set : (w x : ℕ) → bit (bit_or w (2 ^ x)) x ≡ 1
bit_set w x =
    ap (λ (z : ℕ). z / 2 ^ x % 2) (set_cut w x ∙ add_comm ((w / 2 ^ x / 2 * 2 + 1) * 2 ^ x) (w % 2 ^ x))
    ∙ ap (λ (z : ℕ). z % 2) (add-mul-div_right (w % 2 ^ x) (w / 2 ^ x / 2 * 2 + 1) (pow_pos x) ∙ ap (λ (z : ℕ). z + (w / 2 ^ x / 2 * 2 + 1)) (div-eq_of_lt (mod-lt w (pow_pos x))))
    ∙ odd (w / 2 ^ x / 2)
  where
    odd : (a : ℕ) → (0 + (a * 2 + 1)) % 2 ≡ 1
    odd a = omega arith

even_above : (j k : ℕ) → bit (2 ^ (k + suc j)) k ≡ 0
even_above j k =
    ap (λ (z : ℕ). z / 2 ^ k % 2) (pow-add 2 k (suc j))
    ∙ ap (λ (z : ℕ). z % 2) (mul-div_cancel_left (2 ^ suc j) (pow_pos k) ∙ pow-suc 2 j)
    ∙ mul-mod_left (2 ^ j) 2

other_digit : (x k : ℕ) → (k ≡ x → ⊥) → bit (2 ^ x) k ≡ 0
other_digit x k n = go (dec_lt k x)
  where
    go : Dec (k < x) → bit (2 ^ x) k ≡ 0
    go (yes h) = let e : x ≡ k + suc (x - suc k) = omega arith in ap (λ (z : ℕ). bit (2 ^ z) k) e ∙ even_above (x - suc k) k
    go (no h) = ap (λ (z : ℕ). z % 2) (div-eq_of_lt (pow-lt (omega arith)))

pub bit_other : (w x k : ℕ) → (k ≡ x → ⊥) → bit (bit_or w (2 ^ x)) k ≡ bit w k
bit_other w x k n =
    ap (λ (z : ℕ). z % 2) (or_shr w (2 ^ x) k)
    ∙ or_mod (w / 2 ^ k) (2 ^ x / 2 ^ k) 1
    ∙ ap (bit_or (w / 2 ^ k % 2)) (other_digit x k n)
    ∙ or_zero_r (w / 2 ^ k % 2)

-- A sum by half bytes, lowest first, with the carry that goes from each to the next.
use Rattle.std.proofs.Common.{◌≡◌, ℕ, zero, suc, ◌+◌, ◌/◌, ◌%◌, ◌<◌, refl, add-zero, arith}
use Rattle.lists.specs.HalfBytes.{half_byte}
use Rattle.lists.proofs.HalfByteLaws.{half_mod}
use Rattle.words.specs.Word.{add}

-- the carry into half byte j of a + b + c
unfoldable pub carry_into : ℕ → ℕ → ℕ → ℕ → ℕ
carry_into c a b zero = c
carry_into c a b (suc j) = carry_into ((a % 16 + b % 16 + c) / 16) (a / 16) (b / 16) j

pub carry_next : (c a b j : ℕ) → carry_into c a b (suc j) ≡ (half_byte a j + half_byte b j + carry_into c a b j) / 16
unfolding carry_into half_byte
carry_next c a b zero = refl
carry_next c a b (suc j) = carry_next ((a % 16 + b % 16 + c) / 16) (a / 16) (b / 16) j

pub carry_lt : (c a b j : ℕ) → c < 2 → carry_into c a b j < 2
unfolding carry_into
carry_lt c a b zero h = h
carry_lt c a b (suc j) h = carry_lt ((a % 16 + b % 16 + c) / 16) (a / 16) (b / 16) j (omega arith)

pub sum_half : (c a b j : ℕ) → half_byte (a + b + c) j ≡ (half_byte a j + half_byte b j + carry_into c a b j) % 16
unfolding carry_into half_byte
sum_half c a b zero = omega arith
sum_half c a b (suc j) =
    let e : (a + b + c) / 16 ≡ a / 16 + b / 16 + (a % 16 + b % 16 + c) / 16 = omega arith in
    rw e (sum_half ((a % 16 + b % 16 + c) / 16) (a / 16) (b / 16) j)

-- the same for the sum of words
pub half_add : (a b j : ℕ) → j < 8 → half_byte (add a b) j ≡ (half_byte a j + half_byte b j + carry_into 0 a b j) % 16
unfolding add
half_add a b j h = rw (half_mod 8 (a + b) j h, ← sum_half 0 a b j, add-zero (a + b))

-- Laws of half bytes: how they are cut out, joined again, and go through xor; two numbers of n half bytes are equal
-- when their half bytes are.
use mathlib.Core.Path.{◌≡◌, refl, ap, ap₂, ◌∙◌}
use Prim.Native.Nat.{ℕ, zero, suc, ◌+◌, ◌*◌, ◌/◌, ◌%◌, ◌^◌, ◌<◌, suc-le-suc}
use native.Mathlib.Nat.{pow-suc, pow-succ', le_of_suc-le-suc, not-suc-le-zero, zero-lt-suc, div-div-eq-div-mul, div-one, one-le-pow, div-lt_iff_lt-mul}
use native.Mathlib.Omega.{arith}
use lib.Arith.{mod-mul}
use lib.Bits.{bit_xor, xor_shr, xor_mod}
use Rattle.lists.specs.HalfBytes.{half_byte, joined}

-- the definition beside the paper's form, by division
pub half_is : (w j : ℕ) → half_byte w j ≡ w / 16 ^ j % 16
unfolding half_byte
half_is w zero = rw div-one
half_is w (suc j) = half_is (w / 16) j ∙ rw (div-div-eq-div-mul, pow-succ')

pub half_lt : (w j : ℕ) → half_byte w j < 16
unfolding half_byte
half_lt w zero = omega arith
half_lt w (suc j) = half_lt (w / 16) j

pub half_xor : (a b j : ℕ) → half_byte (bit_xor a b) j ≡ bit_xor (half_byte a j) (half_byte b j)
unfolding half_byte
half_xor a b zero = xor_mod a b 4
half_xor a b (suc j) = ap (λ (x : ℕ). half_byte x j) (xor_shr a b 4) ∙ half_xor (a / 16) (b / 16) j

pos : (n : ℕ) → zero < 16 ^ n
pos n = one-le-pow n 16 (zero-lt-suc 15)

pub half_mod : (n w j : ℕ) → j < n → half_byte (w % 16 ^ n) j ≡ half_byte w j
unfolding half_byte
half_mod zero w j h = absurd (not-suc-le-zero h)
half_mod (suc n) w zero h = rw (pow-suc, mod-mul w (pos n) (zero-lt-suc 15)) (omega arith)
half_mod (suc n) w (suc j) h =
    let e : w % 16 ^ suc n / 16 ≡ w / 16 % 16 ^ n = rw (pow-suc, mod-mul w (pos n) (zero-lt-suc 15)) (omega arith) in
    rw e (half_mod n (w / 16) j (le_of_suc-le-suc h))

pub joined_lt : (n : ℕ) (f : ℕ → ℕ) → ((j : ℕ) → j < n → f j < 16) → joined n f < 16 ^ n
unfolding joined
joined_lt zero f h = zero-lt-suc zero
joined_lt (suc n) f h = rw pow-suc (omega (arith, h zero (zero-lt-suc n), joined_lt n (λ j. f (suc j)) (λ j k. h (suc j) (suc-le-suc k))))

pub nib_joined : (n : ℕ) (f : ℕ → ℕ) → ((j : ℕ) → j < n → f j < 16) → (j : ℕ) → j < n → half_byte (joined n f) j ≡ f j
unfolding half_byte joined
nib_joined zero f h j k = absurd (not-suc-le-zero k)
nib_joined (suc n) f h zero k = omega (arith, h zero (zero-lt-suc n))
nib_joined (suc n) f h (suc j) k =
    let e : (f zero + joined n (λ i. f (suc i)) * 16) / 16 ≡ joined n (λ i. f (suc i)) = omega (arith, h zero (zero-lt-suc n)) in
    ap (λ (x : ℕ). half_byte x j) e ∙ nib_joined n (λ i. f (suc i)) (λ i l. h (suc i) (suc-le-suc l)) j (le_of_suc-le-suc k)

-- two numbers of n half bytes are equal when their half bytes are
half_ext : (n a b : ℕ) → a < 16 ^ n → b < 16 ^ n → ((j : ℕ) → j < n → half_byte a j ≡ half_byte b j) → a ≡ b
unfolding half_byte
half_ext zero a b ha hb h = omega arith
half_ext (suc n) a b ha hb h =
    let la : a / 16 < 16 ^ n = (div-lt_iff_lt-mul (zero-lt-suc 15)).1 (rw pow-suc at ha) in
    let lb : b / 16 < 16 ^ n = (div-lt_iff_lt-mul (zero-lt-suc 15)).1 (rw pow-suc at hb) in
    omega (arith, h zero (zero-lt-suc n), half_ext n (a / 16) (b / 16) la lb (λ j k. h (suc j) (suc-le-suc k)))

word_half_byte : (n w : ℕ) → w < 16 ^ n → joined n (half_byte w) ≡ w
word_half_byte n w h = half_ext n (joined n (half_byte w)) w (joined_lt n (half_byte w) (λ j k. half_lt w j)) h (nib_joined n (half_byte w) (λ j k. half_lt w j))

joined_ext : (n : ℕ) (f g : ℕ → ℕ) → ((j : ℕ) → j < n → f j ≡ g j) → joined n f ≡ joined n g
unfolding joined
joined_ext zero f g h = refl
joined_ext (suc n) f g h =
    ap₂ (λ (x y : ℕ). x + y * 16) (h zero (zero-lt-suc n)) (joined_ext n (λ j. f (suc j)) (λ j. g (suc j)) (λ j k. h (suc j) (suc-le-suc k)))

-- the number w is made of the half bytes f
pub joined_is : (n w : ℕ) (f : ℕ → ℕ) → w < 16 ^ n → ((j : ℕ) → j < n → f j ≡ half_byte w j) → joined n f ≡ w
joined_is n w f l h = joined_ext n f (half_byte w) h ∙ word_half_byte n w l

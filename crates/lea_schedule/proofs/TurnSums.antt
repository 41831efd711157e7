-- Turns of a word to the left, one after the other, are one turn by the sum of their counts.
use Rattle.std.proofs.Common.{◌≡◌, ℕ, zero, suc, ◌+◌, ◌-◌, ◌*◌, ◌/◌, ◌%◌, ◌^◌, ◌<◌, sym, ap, ◌∙◌, subst, ap₂, mod-lt, mul_assoc, add-mul, arith}
use Rattle.std.proofs.Common.{pow_pos, pow-add, shr-shr, shr_lt}
use native.Mathlib.Decide.{dec_lt}
use lib.Arith.{digits_lt}
use lib.Pow.{mod-pow-add}
use Rattle.words.specs.Word.{turn_left, rol}
use Rattle.words.proofs.WordLaws.{left_none, left_word}

-- a turn by 1 of a word with the top digit a
one : (a p : ℕ) → p < 2 ^ 31 → turn_left 1 (a * 2 ^ 31 + p) ≡ p * 2 + a
unfolding turn_left
one a p h =
    let e : (a * 2 ^ 31 + p) % 2 ^ 31 ≡ p = omega arith in
    let f : (a * 2 ^ 31 + p) / 2 ^ 31 ≡ a = omega arith in
    rw (e, f)

-- the digits a, l and b of a word that is turned, the first two as one
regroup : (a m l c b n : ℕ) → m * c ≡ n → (a * m + l) * c + b ≡ a * n + (l * c + b)
regroup a m l c b n e =
    let f : a * m * c ≡ a * n = mul_assoc a m c ∙ ap (λ (z : ℕ). a * z) e in
    let g = add-mul (a * m) l c in
    omega (arith, f, g)

-- a turn by one more; j is the count of the digits that stay below the turned ones
more : (x j k : ℕ) → x < 2 ^ 32 → j + k ≡ 31 → turn_left 1 (x % 2 ^ (1 + j) * 2 ^ k + x / 2 ^ (j + 1)) ≡ x % 2 ^ j * 2 ^ (k + 1) + x / 2 ^ j
more x j k h e =
    let n : 2 ^ j * 2 ^ k ≡ 2 ^ 31 = sym (pow-add 2 j k) ∙ ap (λ (z : ℕ). 2 ^ z) e in
    let s : k + (j + 1) ≡ 32 = omega arith in
    let q : x / 2 ^ (j + 1) < 2 ^ k = shr_lt k (j + 1) (rw s h) in
    let d : x / 2 ^ (j + 1) ≡ x / 2 ^ j / 2 = sym (shr-shr x j 1) in
    let b : x % 2 ^ j * 2 ^ k + x / 2 ^ (j + 1) < 2 ^ 31 = subst (λ (z : ℕ). x % 2 ^ j * 2 ^ k + x / 2 ^ (j + 1) < z) n (digits_lt (mod-lt x (pow_pos j)) q) in
    let f : x % 2 ^ j * 2 ^ (k + 1) ≡ x % 2 ^ j * 2 ^ k * 2 = ap (λ (z : ℕ). x % 2 ^ j * z) (pow-add 2 k 1) ∙ sym (mul_assoc (x % 2 ^ j) (2 ^ k) 2) in
    ap (λ (z : ℕ). turn_left 1 (z * 2 ^ k + x / 2 ^ (j + 1))) (mod-pow-add x 1 j)
    ∙ ap (turn_left 1) (regroup (x / 2 ^ j % 2) (2 ^ j) (x % 2 ^ j) (2 ^ k) (x / 2 ^ (j + 1)) (2 ^ 31) n)
    ∙ one (x / 2 ^ j % 2) (x % 2 ^ j * 2 ^ k + x / 2 ^ (j + 1)) b
    ∙ omega (arith, d, f)

left_more : (x k : ℕ) → x < 2 ^ 32 → k < 32 → turn_left 1 (turn_left k x) ≡ turn_left (k + 1) x
unfolding turn_left
left_more x k h l =
    let e : 32 - k ≡ 1 + (31 - k) = omega arith in
    let f : 32 - k ≡ 31 - k + 1 = omega arith in
    let g : 31 - k ≡ 32 - (k + 1) = omega arith in
    ap₂ (λ (u v : ℕ). turn_left 1 (x % 2 ^ u * 2 ^ k + x / 2 ^ v)) e f
    ∙ more x (31 - k) k h (omega arith)
    ∙ ap (λ (u : ℕ). x % 2 ^ u * 2 ^ (k + 1) + x / 2 ^ u) g

-- a turn by 32 is none
left_all : (x : ℕ) → x < 2 ^ 32 → turn_left 32 x ≡ turn_left 0 x
unfolding turn_left
left_all x h = omega arith

rol_more : (x n : ℕ) → x < 2 ^ 32 → turn_left 1 (rol n x) ≡ rol (suc n) x
rol_more x n h = left_more x (n % 32) h (omega arith) ∙ go (dec_lt (n % 32) 31)
  where
    go : Dec (n % 32 < 31) → turn_left (n % 32 + 1) x ≡ rol (suc n) x
    go (yes l) = let e : n % 32 + 1 ≡ suc n % 32 = omega arith in ap (λ (k : ℕ). turn_left k x) e
    go (no l) =
        let e : n % 32 + 1 ≡ 32 = omega arith in
        let f : 0 ≡ suc n % 32 = omega arith in
        ap (λ (k : ℕ). turn_left k x) e ∙ left_all x h ∙ ap (λ (k : ℕ). turn_left k x) f

rol_word : (n x : ℕ) → x < 2 ^ 32 → rol n x < 2 ^ 32
rol_word n x h = left_word (n % 32) x (omega arith) h

-- n and then m
pub rol_sum : (m n x : ℕ) → x < 2 ^ 32 → rol m (rol n x) ≡ rol (n + m) x
rol_sum zero n x h =
    let e : n ≡ n + 0 = omega arith in
    sym (left_none (rol n x) (rol_word n x h)) ∙ ap (λ (k : ℕ). rol k x) e
rol_sum (suc m) n x h =
    let e : suc (n + m) ≡ n + suc m = omega arith in
    sym (rol_more (rol n x) m (rol_word n x h))
    ∙ ap (turn_left 1) (rol_sum m n x h)
    ∙ rol_more x (n + m) h
    ∙ ap (λ (k : ℕ). rol k x) e

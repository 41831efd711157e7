-- Laws of the operations on words: shifts joined by an or are a rotation, a rotation is undone by the other, a sum by
-- the difference, an xor by itself, and a word and its four bytes go into each other.
use mathlib.Core.Path.{◌≡◌, refl, sym, ap, ap₂, ◌∙◌, subst}
use Prim.Native.Nat.{ℕ, zero, suc, ◌+◌, ◌-◌, ◌*◌, ◌/◌, ◌%◌, ◌^◌, ◌≤◌, ◌<◌}
use native.Mathlib.Nat.{add-zero, mul-mod_left, mod-lt, mod-eq_of_lt}
use native.Mathlib.Omega.{arith}
use mathlib.Core.List.{[], ◌∷◌}
use lib.Arith.{digits_lt}
use lib.Dec.{lit<}
use lib.ListN.{get_or}
use Rattle.std.proofs.lemmas.Nat.{le_bytes_4, from_le_bytes-to_le_bytes_4}
use lib.Pow.{mod-pow-add, shl-shr, shr_lt, pow_pos, pow-add, high, low, split}
use lib.Bits.{bit_or, bit_xor, or_self, or_shifted, or_shifted_r, xor_lt, xor_block}
use Rattle.lists.proofs.XorLaws.{xor_cancel}
use Rattle.std.specs.Int.{w32, rotate_left, rotate_right}
use Rattle.words.specs.Word.{add, sub, xor, turn_left, turn_right, rol, ror, word, bytes_of}

-- what a shift to the left leaves of a word
shl_part : (x k : ℕ) → k ≤ 32 → (x * 2 ^ k) % 2 ^ 32 ≡ x % 2 ^ (32 - k) * 2 ^ k
shl_part x k h =
    let e : 32 ≡ (32 - k) + k = omega arith in
    ap (λ (n : ℕ). (x * 2 ^ k) % 2 ^ n) e ∙ mod-pow-add (x * 2 ^ k) (32 - k) k
    ∙ ap₂ (λ (a b : ℕ). a % 2 ^ (32 - k) * 2 ^ k + b) (shl-shr x k) (mul-mod_left x (2 ^ k))
    ∙ add-zero (x % 2 ^ (32 - k) * 2 ^ k)

-- the bits that a shift to the right by j leaves of a word of j + k = 32
shr_part : (x j k : ℕ) → x < 2 ^ 32 → j + k ≡ 32 → x / 2 ^ k < 2 ^ j
shr_part x j k h e = shr_lt j k (rw e h)

left_or : (x k : ℕ) → x < 2 ^ 32 → k ≤ 32 → bit_or ((x * 2 ^ k) % 2 ^ 32) (x / 2 ^ (32 - k)) ≡ turn_left k x
unfolding turn_left
left_or x k h l =
    ap (λ (n : ℕ). bit_or n (x / 2 ^ (32 - k))) (shl_part x k l)
    ∙ or_shifted (x % 2 ^ (32 - k)) k (x / 2 ^ (32 - k)) (shr_part x k (32 - k) h (omega arith))

right_or : (x k : ℕ) → x < 2 ^ 32 → k ≤ 32 → bit_or (x / 2 ^ k) ((x * 2 ^ (32 - k)) % 2 ^ 32) ≡ turn_right k x
unfolding turn_right
right_or x k h l =
    let e : 32 - (32 - k) ≡ k = omega arith in
    ap (bit_or (x / 2 ^ k)) (shl_part x (32 - k) (omega arith) ∙ ap (λ (n : ℕ). x % 2 ^ n * 2 ^ (32 - k)) e)
    ∙ or_shifted_r (x % 2 ^ k) (32 - k) (x / 2 ^ k) (shr_part x (32 - k) k h (omega arith))

-- the same with the other count taken mod 32, as the code has it: k may be 0
other_more : (k : ℕ) → 0 < k → k < 32 → (32 - k) % 32 ≡ 32 - k
other_more k h l = mod-eq_of_lt (omega arith)

pub left_none : (x : ℕ) → x < 2 ^ 32 → x ≡ turn_left 0 x
unfolding turn_left
left_none x h = omega arith

right_none : (x : ℕ) → x < 2 ^ 32 → x ≡ turn_right 0 x
unfolding turn_right
right_none x h = omega arith

rotate_left_is : (x k : ℕ) → x < 2 ^ 32 → k < 32 → bit_or ((x * 2 ^ k) % 2 ^ 32) (x / 2 ^ ((32 - k) % 32)) ≡ turn_left k x
rotate_left_is x zero h l =
    let e : (x * 2 ^ 0) % 2 ^ 32 ≡ x = omega arith in
    let f : x / 2 ^ ((32 - 0) % 32) ≡ x = omega arith in
    ap₂ bit_or e f ∙ or_self x ∙ left_none x h
rotate_left_is x (suc k) h l = rw (other_more (suc k) (omega arith) l) (left_or x (suc k) h (omega arith))

rotate_right_is : (x k : ℕ) → x < 2 ^ 32 → k < 32 → bit_or (x / 2 ^ k) ((x * 2 ^ ((32 - k) % 32)) % 2 ^ 32) ≡ turn_right k x
rotate_right_is x zero h l =
    let e : x / 2 ^ 0 ≡ x = omega arith in
    let f : (x * 2 ^ ((32 - 0) % 32)) % 2 ^ 32 ≡ x = omega arith in
    ap₂ bit_or e f ∙ or_self x ∙ right_none x h
rotate_right_is x (suc k) h l = rw (other_more (suc k) (omega arith) l) (right_or x (suc k) h (omega arith))

-- what the methods of these names give, which take the count mod 32 once more
pub rotated_left : (n x : ℕ) → x < 2 ^ 32 → rotate_left w32 x (n % 32) ≡ rol n x
rotated_left n x h =
    let e : n % 32 % 32 ≡ n % 32 = omega arith in
    rotate_left_is x (n % 32 % 32) h (omega arith) ∙ ap (λ (k : ℕ). turn_left k x) e

pub rotated_right : (n x : ℕ) → x < 2 ^ 32 → rotate_right w32 x (n % 32) ≡ ror n x
rotated_right n x h =
    let e : n % 32 % 32 ≡ n % 32 = omega arith in
    rotate_right_is x (n % 32 % 32) h (omega arith) ∙ ap (λ (k : ℕ). turn_right k x) e

-- ---- what undoes what

pub right_left : (k x : ℕ) → k ≤ 32 → x < 2 ^ 32 → turn_right k (turn_left k x) ≡ x
unfolding turn_left turn_right
right_left k x l h =
    let b : x / 2 ^ (32 - k) < 2 ^ k = shr_part x k (32 - k) h (omega arith) in
    ap₂ (λ (u v : ℕ). u * 2 ^ (32 - k) + v) (low (x % 2 ^ (32 - k)) k b) (high (x % 2 ^ (32 - k)) k b)
    ∙ split x (32 - k)

pub left_right : (k x : ℕ) → k ≤ 32 → x < 2 ^ 32 → turn_left k (turn_right k x) ≡ x
unfolding turn_left turn_right
left_right k x l h =
    let b : x / 2 ^ k < 2 ^ (32 - k) = shr_part x (32 - k) k h (omega arith) in
    ap₂ (λ (u v : ℕ). u * 2 ^ k + v) (low (x % 2 ^ k) (32 - k) b) (high (x % 2 ^ k) (32 - k) b)
    ∙ split x k

pub left_word : (k x : ℕ) → k ≤ 32 → x < 2 ^ 32 → turn_left k x < 2 ^ 32
unfolding turn_left
left_word k x l h =
    let e : (32 - k) + k ≡ 32 = omega arith in
    let b : x / 2 ^ (32 - k) < 2 ^ k = shr_part x k (32 - k) h (omega arith) in
    subst (λ (n : ℕ). x % 2 ^ (32 - k) * 2 ^ k + x / 2 ^ (32 - k) < n)
    (sym (pow-add 2 (32 - k) k) ∙ ap (λ (n : ℕ). 2 ^ n) e) (digits_lt (mod-lt x (pow_pos (32 - k))) b)

pub right_word : (k x : ℕ) → k ≤ 32 → x < 2 ^ 32 → turn_right k x < 2 ^ 32
unfolding turn_right
right_word k x l h =
    let e : k + (32 - k) ≡ 32 = omega arith in
    let b : x / 2 ^ k < 2 ^ (32 - k) = shr_part x (32 - k) k h (omega arith) in
    subst (λ (n : ℕ). x % 2 ^ k * 2 ^ (32 - k) + x / 2 ^ k < n)
    (sym (pow-add 2 k (32 - k)) ∙ ap (λ (n : ℕ). 2 ^ n) e) (digits_lt (mod-lt x (pow_pos k)) b)

pub add_word : (x y : ℕ) → add x y < 2 ^ 32
unfolding add
add_word x y = omega arith

pub sub_word : (x y : ℕ) → sub x y < 2 ^ 32
unfolding sub
sub_word x y = omega arith

pub xor_word : (x y : ℕ) → x < 2 ^ 32 → y < 2 ^ 32 → xor x y < 2 ^ 32
unfolding xor
xor_word x y h l = xor_lt 32 x y h l

pub sub_add : (x y : ℕ) → x < 2 ^ 32 → y < 2 ^ 32 → sub (add x y) x ≡ y
unfolding add sub
sub_add x y h l = omega arith

pub add_sub : (x y : ℕ) → x < 2 ^ 32 → y < 2 ^ 32 → add y (sub x y) ≡ x
unfolding add sub
add_sub x y h l = omega arith

-- the difference is the only word that y added to gives x
pub sub_only : (r x y : ℕ) → r < 2 ^ 32 → y < 2 ^ 32 → (r + y) % 2 ^ 32 ≡ x → r ≡ sub x y
unfolding sub
sub_only r x y h l e = omega arith

pub xor_xor : (a b : ℕ) → xor (xor a b) b ≡ a
unfolding xor
xor_xor a b = xor_cancel a b

-- ---- bytes

pub bytes_word : (a b c d : ℕ) → a < 256 → b < 256 → c < 256 → d < 256 → bytes_of (word a b c d) ≡ a ∷ b ∷ c ∷ d ∷ []
unfolding bytes_of word
bytes_word a b c d p q r s =
    le_bytes_4 (a ∷ b ∷ c ∷ d ∷ []) (a + 256 * b + 65536 * c + 16777216 * d) refl small (omega arith)
  where
    small : (i : ℕ) → get_or (a ∷ b ∷ c ∷ d ∷ []) i 0 < 256
    small zero = p
    small (suc zero) = q
    small (suc (suc zero)) = r
    small (suc (suc (suc zero))) = s
    small (suc (suc (suc (suc i)))) = lit< tt

pub word_bytes : (w : ℕ) → w < 2 ^ 32 → word (w % 256) (w / 256 % 256) (w / 65536 % 256) (w / 16777216 % 256) ≡ w
unfolding word
word_bytes w h = omega (arith, from_le_bytes-to_le_bytes_4 w h)

-- xor of words, byte by byte
pub word_xor : (a b c d e f g h : ℕ) → a < 256 → b < 256 → c < 256 → e < 256 → f < 256 → g < 256
    → word (bit_xor a e) (bit_xor b f) (bit_xor c g) (bit_xor d h) ≡ xor (word a b c d) (word e f g h)
unfolding word xor
word_xor a b c d e f g h ha hb hc he hf hg =
    let upper = ap₂ bit_xor (mid b c d) (mid f g h)
    ∙ xor_block 8 (d * 256 + c) (h * 256 + g) b f hb hf
    ∙ ap (λ (n : ℕ). n * 256 + bit_xor b f) (xor_block 8 d h c g hc hg)
    ∙ sym (mid (bit_xor b f) (bit_xor c g) (bit_xor d h)) in
    let whole = ap₂ bit_xor (top a b c d) (top e f g h)
    ∙ xor_block 8 (d * 65536 + c * 256 + b) (h * 65536 + g * 256 + f) a e ha he
    ∙ ap (λ (n : ℕ). n * 256 + bit_xor a e) upper in
    top (bit_xor a e) (bit_xor b f) (bit_xor c g) (bit_xor d h) ∙ sym whole
  where
    top : (a b c d : ℕ) → a + 256 * b + 65536 * c + 16777216 * d ≡ (d * 65536 + c * 256 + b) * 256 + a
    top a b c d = omega arith

    mid : (b c d : ℕ) → d * 65536 + c * 256 + b ≡ (d * 256 + c) * 256 + b
    mid b c d = omega arith

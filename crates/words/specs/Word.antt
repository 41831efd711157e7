-- 32-bit words as numbers below 2 ^ 32 (document 01, "LEA"; document 001, notation): sum and difference mod 2 ^ 32, xor,
-- rotations, and the four bytes of a word, lowest first.
use Rattle.std.specs.Prelude.{ℕ, ◌+◌, ◌*◌, ◌/◌, ◌%◌, ◌-◌, ◌^◌, List, [], ◌∷◌, ◌++◌, get_or}
use Rattle.std.specs.Int.Bits.{bit_xor}

-- the sum, the carry out of bit 31 dropped
unfoldable pub add : ℕ → ℕ → ℕ
add x y = (x + y) % 2 ^ 32

-- the difference: the word that added to y gives x
unfoldable pub sub : ℕ → ℕ → ℕ
sub x y = (x + (2 ^ 32 - y)) % 2 ^ 32

unfoldable pub xor : ℕ → ℕ → ℕ
xor x y = bit_xor x y

-- x turned left, and right, by k, for k at most 32: the low and the high digits change places
unfoldable pub turn_left : ℕ → ℕ → ℕ
turn_left k x = x % 2 ^ (32 - k) * 2 ^ k + x / 2 ^ (32 - k)

unfoldable pub turn_right : ℕ → ℕ → ℕ
turn_right k x = x % 2 ^ k * 2 ^ (32 - k) + x / 2 ^ k

-- ROL and ROR: the count is taken mod 32
abbrev pub rol : ℕ → ℕ → ℕ
rol n x = turn_left (n % 32) x

abbrev pub ror : ℕ → ℕ → ℕ
ror n x = turn_right (n % 32) x

-- the word of four bytes, lowest first, and the bytes of a word
unfoldable pub word : ℕ → ℕ → ℕ → ℕ → ℕ
word a b c d = a + 256 * b + 65536 * c + 16777216 * d

unfoldable pub bytes_of : ℕ → List ℕ
bytes_of w = w % 256 ∷ w / 256 % 256 ∷ w / 65536 % 256 ∷ w / 16777216 % 256 ∷ []

-- the word at byte i of a list
unfoldable pub word_at : List ℕ → ℕ → ℕ
word_at b i = word (get_or b i 0) (get_or b (i + 1) 0) (get_or b (i + 2) 0) (get_or b (i + 3) 0)

-- four words xored with four
unfoldable pub xor_words : List ℕ → List ℕ → List ℕ
xor_words x y = xor (get_or x 0 0) (get_or y 0 0) ∷ xor (get_or x 1 0) (get_or y 1 0) ∷ xor (get_or x 2 0) (get_or y 2 0) ∷ xor (get_or x 3 0) (get_or y 3 0) ∷ []

-- the four words of 16 bytes, and the bytes of four words
unfoldable pub words4 : List ℕ → List ℕ
words4 b = word_at b 0 ∷ word_at b 4 ∷ word_at b 8 ∷ word_at b 12 ∷ []

unfoldable pub bytes : List ℕ → List ℕ
bytes x = bytes_of (get_or x 0 0) ++ bytes_of (get_or x 1 0) ++ bytes_of (get_or x 2 0) ++ bytes_of (get_or x 3 0)

-- SHA-256 (FIPS 180-4) of a message of bytes. A word is a number below 2 ^ 32; the highest byte of a word comes first (3.1), and words
-- are added mod 2 ^ 32 (3.2). FIPS speaks of messages of fewer than 2 ^ 64 bits.
use Rattle.std.specs.Prelude.{ℕ, zero, suc, ◌+◌, ◌-◌, ◌*◌, ◌/◌, ◌%◌, ◌^◌, List, [], ◌∷◌, ◌++◌, length, drop, replicate, bit_and, slice_index}
use Rattle.lists.specs.Tabulation.{tab, chunks}
use Rattle.words.specs.Word.{add, xor, ror, word}

-- ---- functions (4.1.2)

-- Ch and Maj; 2 ^ 32 - 1 - x is x with every bit changed
unfoldable pub ch : ℕ → ℕ → ℕ → ℕ
ch x y z = xor (bit_and x y) (bit_and (2 ^ 32 - 1 - x) z)

unfoldable pub maj : ℕ → ℕ → ℕ → ℕ
maj x y z = xor (xor (bit_and x y) (bit_and x z)) (bit_and y z)

-- three rotations xored, and two rotations and a shift
unfoldable pub turned : ℕ → ℕ → ℕ → ℕ → ℕ
turned a b c x = xor (xor (ror a x) (ror b x)) (ror c x)

unfoldable pub shifted : ℕ → ℕ → ℕ → ℕ → ℕ
shifted a b c x = xor (xor (ror a x) (ror b x)) (x / 2 ^ c)

-- Σ0 and Σ1, σ0 and σ1
abbrev pub Σ0 : ℕ → ℕ
Σ0 x = turned 2 13 22 x

abbrev pub Σ1 : ℕ → ℕ
Σ1 x = turned 6 11 25 x

abbrev pub σ0 : ℕ → ℕ
σ0 x = shifted 7 18 3 x

abbrev pub σ1 : ℕ → ℕ
σ1 x = shifted 17 19 10 x

-- ---- constants

-- K, the constants of the 64 rounds (4.2.2)
abbrev pub constants : List ℕ
constants =
    0x428a2f98 ∷ 0x71374491 ∷ 0xb5c0fbcf ∷ 0xe9b5dba5 ∷ 0x3956c25b ∷ 0x59f111f1 ∷ 0x923f82a4 ∷ 0xab1c5ed5
    ∷ 0xd807aa98 ∷ 0x12835b01 ∷ 0x243185be ∷ 0x550c7dc3 ∷ 0x72be5d74 ∷ 0x80deb1fe ∷ 0x9bdc06a7 ∷ 0xc19bf174
    ∷ 0xe49b69c1 ∷ 0xefbe4786 ∷ 0x0fc19dc6 ∷ 0x240ca1cc ∷ 0x2de92c6f ∷ 0x4a7484aa ∷ 0x5cb0a9dc ∷ 0x76f988da
    ∷ 0x983e5152 ∷ 0xa831c66d ∷ 0xb00327c8 ∷ 0xbf597fc7 ∷ 0xc6e00bf3 ∷ 0xd5a79147 ∷ 0x06ca6351 ∷ 0x14292967
    ∷ 0x27b70a85 ∷ 0x2e1b2138 ∷ 0x4d2c6dfc ∷ 0x53380d13 ∷ 0x650a7354 ∷ 0x766a0abb ∷ 0x81c2c92e ∷ 0x92722c85
    ∷ 0xa2bfe8a1 ∷ 0xa81a664b ∷ 0xc24b8b70 ∷ 0xc76c51a3 ∷ 0xd192e819 ∷ 0xd6990624 ∷ 0xf40e3585 ∷ 0x106aa070
    ∷ 0x19a4c116 ∷ 0x1e376c08 ∷ 0x2748774c ∷ 0x34b0bcb5 ∷ 0x391c0cb3 ∷ 0x4ed8aa4a ∷ 0x5b9cca4f ∷ 0x682e6ff3
    ∷ 0x748f82ee ∷ 0x78a5636f ∷ 0x84c87814 ∷ 0x8cc70208 ∷ 0x90befffa ∷ 0xa4506ceb ∷ 0xbef9a3f7 ∷ 0xc67178f2
    ∷ []

-- the initial hash value (5.3.3)
abbrev pub initial : List ℕ
initial = 0x6a09e667 ∷ 0xbb67ae85 ∷ 0x3c6ef372 ∷ 0xa54ff53a ∷ 0x510e527f ∷ 0x9b05688c ∷ 0x1f83d9ab ∷ 0x5be0cd19 ∷ []

-- ---- the message as blocks of 64 bytes

-- the low k bytes of a number, highest first
unfoldable pub big_endian : ℕ → ℕ → List ℕ
big_endian zero n = []
big_endian (suc k) n = big_endian k (n / 256) ++ (n % 256 ∷ [])

-- padding (5.1.1): a one bit, the fewest zeros such that 8 bytes are left of the last block, and in these the message's length in bits
unfoldable pub padded : List ℕ → List ℕ
padded m = m ++ (0x80 ∷ (replicate ((64 + 55 - length m % 64) % 64) 0 ++ big_endian 8 (8 * length m)))

-- the word of the four bytes of p from byte i on, highest first
unfoldable pub big_word_at : List ℕ → ℕ → ℕ
big_word_at p i = word (slice_index p (i + 3)) (slice_index p (i + 2)) (slice_index p (i + 1)) (slice_index p i)

-- the sixteen words of block n (5.2.1)
unfoldable pub block : List ℕ → ℕ → List ℕ
block p n = tab 16 (λ k. big_word_at (drop (64 * n) p) (4 * k))

-- ---- computation (6.2.2)

-- step 1: a word of the message schedule W from those 2, 7, 15 and 16 places before it
unfoldable pub schedule_word : ℕ → ℕ → ℕ → ℕ → ℕ
schedule_word a b c d = add (add (add (σ1 a) b) (σ0 c)) d

-- word n + 16, w being those before it
unfoldable pub next_word : List ℕ → ℕ → ℕ
next_word w n = schedule_word (slice_index w (n + 14)) (slice_index w (n + 9)) (slice_index w (n + 1)) (slice_index w n)

-- the sixteen words of a block and n more
unfoldable pub message_schedule : ℕ → List ℕ → List ℕ
message_schedule zero m = m
message_schedule (suc n) m = message_schedule n m ++ (next_word (message_schedule n m) n ∷ [])

-- step 3: T1 and T2 of a round, from the working variables a to h, the constant k and the word w
unfoldable pub temp1 : ℕ → ℕ → ℕ → ℕ → ℕ → ℕ → ℕ
temp1 e f g h k w = add (add (add (add h (Σ1 e)) (ch e f g)) k) w

unfoldable pub temp2 : ℕ → ℕ → ℕ → ℕ
temp2 a b c = add (Σ0 a) (maj a b c)

-- the working variables a to h after a round, s being those before it: a is T1 + T2, e is d + T1, each other is the variable before it
unfoldable pub moved : ℕ → ℕ → List ℕ → List ℕ
moved t1 t2 s =
    add t1 t2 ∷ slice_index s 0 ∷ slice_index s 1 ∷ slice_index s 2 ∷ add (slice_index s 3) t1 ∷ slice_index s 4 ∷ slice_index s 5 ∷ slice_index s 6 ∷ []

-- a round with the constant k and the word w
unfoldable pub round : ℕ → ℕ → List ℕ → List ℕ
round k w s =
    moved (temp1 (slice_index s 4) (slice_index s 5) (slice_index s 6) (slice_index s 7) k w) (temp2 (slice_index s 0) (slice_index s 1) (slice_index s 2)) s

-- the working variables after n rounds
unfoldable pub rounds : List ℕ → ℕ → List ℕ → List ℕ
rounds w zero s = s
rounds w (suc n) s = round (slice_index constants n) (slice_index w n) (rounds w n s)

-- step 4: the working variables added to the hash value, word by word
unfoldable pub sums : List ℕ → List ℕ → List ℕ
sums h s = tab 8 (λ k. add (slice_index h k) (slice_index s k))

-- compression: the hash value after the block m, h being the one before it (step 2: the working variables begin as h)
unfoldable pub compress : List ℕ → List ℕ → List ℕ
compress m h = sums h (rounds (message_schedule 48 m) 64 h)

-- the hash value after n blocks of p
unfoldable pub hash_value : List ℕ → ℕ → List ℕ
hash_value p zero = initial
hash_value p (suc n) = compress (block p n) (hash_value p n)

-- the hash value of a message, eight words
unfoldable pub hash : List ℕ → List ℕ
hash m = hash_value (padded m) (length (padded m) / 64)

-- the message digest: the 32 bytes of these words, one word after another
unfoldable pub sha256 : List ℕ → List ℕ
sha256 m = chunks 8 (λ k. big_endian 4 (slice_index (hash m) k))

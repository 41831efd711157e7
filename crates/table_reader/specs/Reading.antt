-- The tables of a book read byte by byte, two half bytes at a time: the inner functions' own words for the definitions of
-- `Rattle.cipher.specs.Tables`.
use Rattle.std.specs.Prelude.{◌≡◌, List, ℕ, ◌+◌, ◌*◌, ◌/◌, ◌%◌, get_or}
use Rattle.cipher.specs.Lengths.{add_length, adds_length, turn_length, fold_length}
use Rattle.lists.specs.Tabulation.{tab}
use Rattle.cipher.specs.Coding.{block_half}
use Rattle.cipher.specs.Tables.{sum_at}

-- ---- the sums

-- two add entries in a row: tables k and k + 1 at the two halves of the bytes x and y, the carry c coming in
unfoldable pub low_entry : List ℕ → ℕ → ℕ → ℕ → ℕ → ℕ
low_entry t k c x y = get_or t (add_length * k + (256 * c + 16 * (x % 16) + y % 16)) 0

unfoldable pub high_entry : List ℕ → ℕ → ℕ → ℕ → ℕ → ℕ
high_entry t k c x y = get_or t (add_length * (k + 1) + (256 * (low_entry t k c x y / 16 % 2) + 16 * (x / 16 % 16) + y / 16 % 16)) 0

-- s is their byte of a sum, and d the carry out of it
pub record TwoIs (t : List ℕ) (k c x y s d : ℕ) : Type 0 where
  pub sum : s ≡ low_entry t k c x y % 16 + 16 * (high_entry t k c x y % 16)
  pub carry : d ≡ high_entry t k c x y / 16 % 2

-- byte m of word i, where half byte j of word i is x i j; and the four bytes of each of three words
abbrev pub byte_of : (ℕ → ℕ → ℕ) → ℕ → ℕ → ℕ
byte_of x i m = x i (2 * m) + 16 * x i (2 * m + 1)

unfoldable pub three_words : (ℕ → ℕ → ℕ) → List ℕ
three_words x = tab 12 (λ k. byte_of x (k / 4) (k % 4))

-- the sums of a block
abbrev pub sum_bytes : List ℕ → List ℕ → List ℕ
sum_bytes t b = three_words (sum_at t b)

-- ---- the turns

-- half byte j of new word i, turned from the half bytes j + u and j + v of sum i in s
unfoldable pub turn_half : List ℕ → List ℕ → ℕ → ℕ → ℕ → ℕ → ℕ
turn_half t s i j u v = get_or t (adds_length + turn_length * (8 * i + j) + (16 * block_half s i ((j + u) % 8) + block_half s i ((j + v) % 8))) 0 % 16

unfoldable pub turn_byte : List ℕ → List ℕ → ℕ → ℕ → ℕ → ℕ → ℕ
turn_byte t s i m u v = turn_half t s i (2 * m) u v + 16 * turn_half t s i (2 * m + 1) u v

-- ---- the fold

-- byte k of a fold, from the bytes x and y
unfoldable pub fold_byte : List ℕ → ℕ → ℕ → ℕ → ℕ
fold_byte f k x y =
    get_or f (2 * fold_length * k + (16 * (x % 16) + y % 16)) 0 % 16 + 16 * (get_or f (2 * fold_length * k + fold_length + (16 * (x / 16 % 16) + y / 16 % 16)) 0 % 16)

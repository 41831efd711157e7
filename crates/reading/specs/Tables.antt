-- What the tables of a reading book hold (document 02, 2026-01), and how a reader uses them. Book, middle coding, mask, turn and fold
-- are document 01's terms, subtract table is 02's. A round has what a chain gives to a round of a sealing book: the sets before and
-- after it, middle codings and masks (`RoundCodings`).
use Rattle.std.specs.Prelude.{List, ◌≡◌, ℕ, zero, suc, ◌+◌, ◌-◌, ◌*◌, ◌/◌, ◌%◌, ◌<◌, get_or}
use Rattle.std.specs.Int.Bits.{bit_xor}
use Rattle.lists.specs.HalfBytes.{half_byte}
use Rattle.cipher.specs.Lengths.{turn_length}
use Rattle.cipher.specs.Coding.{SameWord, decode, block_half, of_halves}
use Rattle.cipher.specs.Tables.{RoundCodings, ValidCodings}
use Rattle.reading.specs.Lengths.{subtract_length, subtracts_start}

-- ---- an entry of a single table (02's sentences on turn tables, on what a subtract table takes from what, and on borrows)

-- a turn back, ROR9, ROL5 or ROL3 for i = 0, 1, 2: two neighbouring half bytes u, v of word i make one of the turned word
abbrev pub turned_back : ℕ → ℕ → ℕ → ℕ
turned_back zero u v = (8 * u + v / 2) % 16
turned_back (suc zero) u v = (2 * u + v / 8) % 16
turned_back (suc (suc i)) u v = (8 * u + v / 2) % 16

-- an entry of a turn table for word i at index n = 16p + q: p decoded by f and q by g, the result coded by h
unfoldable pub turn_back_entry : ℕ → (ℕ → ℕ) → (ℕ → ℕ) → (ℕ → ℕ) → ℕ → ℕ
turn_back_entry i f g h n = h (turned_back i (decode f (n / 16)) (decode g (n % 16)))

-- what a subtract table leaves of 16 and the turned half byte, at index n = 256c + 16p + q: from p decoded by f it takes q decoded
-- by g, under the key half byte k, and the borrow c, of which m is the mask
unfoldable pub difference : (ℕ → ℕ) → (ℕ → ℕ) → ℕ → ℕ → ℕ → ℕ
difference f g k m n = 16 + decode f (n / 16 % 16) - (bit_xor (decode g (n % 16)) k + bit_xor (n / 256) m)

-- a subtract entry, where d is left: it borrowed unless d is 16 or more. The half byte d % 16 goes under the key half byte l and is
-- coded by h; m is the mask of the borrow out, which the top half byte has too (2026-06)
unfoldable pub subtract_entry : (ℕ → ℕ) → ℕ → ℕ → ℕ → ℕ
subtract_entry h l m d = 16 * bit_xor (1 - d / 16) m + h (bit_xor (d % 16) l)

-- ---- the tables of a round

-- which half bytes of word i are turned back to half byte j, the upper one and the lower one
abbrev pub upper_back : ℕ → ℕ → ℕ
upper_back zero j = (j + 3) % 8
upper_back (suc zero) j = (j + 7) % 8
upper_back (suc (suc i)) j = j

abbrev pub lower_back : ℕ → ℕ → ℕ
lower_back zero j = (j + 2) % 8
lower_back (suc zero) j = (j + 6) % 8
lower_back (suc (suc i)) j = (j + 7) % 8

-- entry n of turn table (i, j) of a round: from the set before it to the middle coding
unfoldable pub turn_back_table : RoundCodings → ℕ → ℕ → ℕ → ℕ
turn_back_table c i j n = turn_back_entry i (c.before i (upper_back i j)) (c.before i (lower_back i j)) (c.middle i j) n

-- entry n of subtract table (i, j) of a round under its row k of round keys: from the turned half byte and new word i to new
-- word i + 1
unfoldable pub subtract_table : RoundCodings → List ℕ → ℕ → ℕ → ℕ → ℕ
subtract_table c k i j n =
    subtract_entry (c.after (suc i) j) (half_byte (get_or k (2 * i + 1) 0) j) (c.mask_out i j)
    (difference (c.middle i j) (c.after i j) (half_byte (get_or k (2 * i) 0) j) (c.mask_in i j) n)

-- what a round of these tables asks of a chain: what a sealing book's asks, and the other word rule: after the round, word 0 is coded as
-- word 3 was before it
pub record ValidReadingRound (c : RoundCodings) : Type 0 where
  pub codings : ValidCodings c
  pub word0 : SameWord 3 0 c.before c.after

-- ---- where an entry stands: in a round 24 subtract tables come after 24 turn tables, each kind in the order of its number 8i + j

abbrev pub turn_back_at : List ℕ → ℕ → ℕ → ℕ → ℕ
turn_back_at t i j n = get_or t (turn_length * (8 * i + j) + n) 0

abbrev pub subtract_at : List ℕ → ℕ → ℕ → ℕ → ℕ
subtract_at t i j n = get_or t (subtracts_start + subtract_length * (8 * i + j) + n) 0

-- t begins with the tables of a reading round
pub record ReadingTables (c : RoundCodings) (k t : List ℕ) : Type 0 where
  pub turns : (i j n : ℕ) → i < 3 → j < 8 → n < turn_length → turn_back_at t i j n ≡ turn_back_table c i j n
  pub subtracts : (i j n : ℕ) → i < 3 → j < 8 → n < subtract_length → subtract_at t i j n ≡ subtract_table c k i j n

-- ---- a reading round by the tables t on a block b: of each entry only these bits are used

-- half byte j of word i turned back, coded by its middle coding: the low four bits of the entry
unfoldable pub turned_at : List ℕ → List ℕ → ℕ → ℕ → ℕ
turned_at t b i j = turn_back_at t i j (16 * block_half b i (upper_back i j) + block_half b i (lower_back i j)) % 16

-- the borrow into half byte j, where new word i has the half bytes x: bit 4 of the entry read at the half byte below, and none into
-- the lowest
unfoldable pub borrow_at : List ℕ → List ℕ → ℕ → (ℕ → ℕ) → ℕ → ℕ
borrow_at t b i x zero = zero
borrow_at t b i x (suc j) = subtract_at t i j (256 * borrow_at t b i x j + 16 * turned_at t b i j + x j) / 16 % 2

-- half byte j of new word i + 1, where new word i has the half bytes x: the low four bits of the entry
unfoldable pub difference_at : List ℕ → List ℕ → ℕ → (ℕ → ℕ) → ℕ → ℕ
difference_at t b i x j = subtract_at t i j (256 * borrow_at t b i x j + 16 * turned_at t b i j + x j) % 16

-- half byte j of word w after the round: word 0 is what word 3 was, and each of the others comes from the one before it
unfoldable pub half_read : List ℕ → List ℕ → ℕ → ℕ → ℕ
half_read t b zero j = block_half b 3 j
half_read t b (suc i) j = difference_at t b i (half_read t b i) j

-- the block after the round, and after n rounds, round l by the tables t l
unfoldable pub read_round : List ℕ → List ℕ → List ℕ
read_round t b = of_halves (half_read t b)

unfoldable pub read_rounds : (ℕ → List ℕ) → ℕ → List ℕ → List ℕ
read_rounds t zero b = b
read_rounds t (suc n) b = read_round (t n) (read_rounds t n b)

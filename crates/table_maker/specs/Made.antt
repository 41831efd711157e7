-- The tables of a book as the builder makes them, from codings inverted beforehand: s has a set inverted, R the bytes that a
-- chain has for a round.
use Rattle.std.specs.Prelude.{List, ℕ, zero, suc, ◌+◌, ◌*◌, ◌/◌, ◌%◌, ◌≤◌, ◌<◌, length, get_or, drop}
use Rattle.std.specs.Int.Bits.{bit_xor}
use Rattle.cipher.specs.Lengths.{coding_length, word_length, set_length, middles_length, round_codings_length}
use Rattle.lists.specs.Tabulation.{tab}
use Rattle.lists.specs.Blocks.{zeros}
use Rattle.lists.specs.HalfBytes.{half_byte}
use Rattle.cipher.specs.Coding.{FirstPermutations, coding_at, set_of, block_half}
use Rattle.cipher.specs.Tables.{RoundCodings, add_entry, upper, lower}
use Rattle.cipher.specs.Chain.{mask_into, mask_out_of}
use Rattle.table_maker.specs.Rows.{table_by}

-- 24 codings of half bytes, then 24 masks that are bits
pub record RoundBytes (R : List ℕ) : Type 0 where
  pub room : round_codings_length ≤ length R
  pub codings : (v : ℕ) → v < middles_length → get_or R v 0 < 16
  pub masks : (k : ℕ) → middles_length ≤ k → k < round_codings_length → get_or R k 0 < 2

-- what the tables of a round are made from, each in the front of a list: the set before the round, the set after it, and the
-- bytes for the round; valid as in a valid chain
pub record RoundReady (B A R : List ℕ) : Type 0 where
  pub before : FirstPermutations 32 B
  pub after : FirstPermutations 32 A
  pub middles : FirstPermutations 24 R
  pub masks : (k : ℕ) → middles_length ≤ k → k < round_codings_length → get_or R k 0 < 2
  pub room_before : set_length ≤ length B
  pub room_after : set_length ≤ length A
  pub room_middles : round_codings_length ≤ length R

unfoldable pub codings_of : List ℕ → List ℕ → List ℕ → RoundCodings
codings_of B A R = record {
  before = set_of B;
  after = set_of A;
  middle = set_of R;
  mask_in = mask_into R;
  mask_out = mask_out_of R;
}

-- ---- add tables

-- what s has at a place, under a key half byte
abbrev pub keyed_by : List ℕ → ℕ → ℕ → ℕ → ℕ
keyed_by s at k q = bit_xor (get_or s (at + q) 0) k

-- what row x adds: its operand under a key half byte, and the carry under its mask
abbrev pub summands : List ℕ → ℕ → ℕ → ℕ → ℕ → ℕ
summands s at k m x = bit_xor (get_or s (at + x % 16) 0) k + bit_xor (x / 16) m

-- the entry of each sum
abbrev pub sum_entries : List ℕ → ℕ → ℕ → ℕ
sum_entries R p n = add_entry (coding_at R p) (mask_out_of R (p / 8) (p % 8)) n

unfoldable pub made_add : List ℕ → List ℕ → List ℕ → ℕ → List ℕ
made_add s R k p =
    table_by ◌+◌ (tab 32 (sum_entries R p))
    (tab 32 (summands s (coding_length * p) (half_byte (get_or k (2 * (p / 8)) 0) (p % 8)) (mask_into R (p / 8) (p % 8))))
    (tab 16 (keyed_by s (coding_length * p + word_length) (half_byte (get_or k (2 * (p / 8) + 1) 0) (p % 8))))

-- ---- turn tables

-- what the upper of two half bytes of sum i gives to a turned one, and the lower: the turned one is their sum
abbrev pub upper_part : ℕ → ℕ → ℕ
upper_part zero u = 2 * u % 16
upper_part (suc zero) u = 8 * u % 16
upper_part (suc (suc i)) u = 2 * u % 16

abbrev pub lower_part : ℕ → ℕ → ℕ
lower_part zero v = v / 8
lower_part (suc zero) v = v / 2
lower_part (suc (suc i)) v = v / 8

abbrev pub upper_parts : List ℕ → ℕ → ℕ → ℕ → ℕ
upper_parts s at i q = upper_part i (get_or s (at + q) 0)

abbrev pub lower_parts : List ℕ → ℕ → ℕ → ℕ → ℕ
lower_parts s at i q = lower_part i (get_or s (at + q) 0)

-- a turn table from the codings that s has inverted at two places, the upper one and the lower one, cut as those of sum i; e begins with
-- the coding of the turned half byte
abbrev pub turned_rows : List ℕ → ℕ → ℕ → ℕ → List ℕ → List ℕ
turned_rows s at at' i e = table_by ◌+◌ e (tab 16 (upper_parts s at i)) (tab 16 (lower_parts s at' i))

-- turn table p of a round: of word i and half byte j, which half bytes of the word make the turned one, the upper and the lower, and
-- as those of which sum they are cut; s has the codings of the words inverted, and S begins with those of the turned words
unfoldable pub turned_by : (ℕ → ℕ → ℕ) → (ℕ → ℕ → ℕ) → (ℕ → ℕ) → List ℕ → List ℕ → ℕ → List ℕ
turned_by above below sum s S p =
    turned_rows s (coding_length * (8 * (p / 8) + above (p / 8) (p % 8))) (coding_length * (8 * (p / 8) + below (p / 8) (p % 8))) (sum (p / 8))
    (drop (coding_length * p) S)

-- the word is that of the sum
abbrev pub itself : ℕ → ℕ
itself i = i

-- s has the middle codings inverted, and S begins with the set after the round
abbrev pub made_turn : List ℕ → List ℕ → ℕ → List ℕ
made_turn = turned_by upper lower itself

-- ---- fold tables: s and u have the sets that are folded from inverted, and S begins with the set that is folded to

unfoldable pub made_fold : List ℕ → List ℕ → List ℕ → List ℕ → ℕ → List ℕ
made_fold s u S k p = table_by bit_xor (drop (coding_length * p) S) (tab 16 (keyed_by s (coding_length * p) (block_half k (p / 8) (p % 8)))) (drop (coding_length * p) u)

-- the key blocks of the three groups
unfoldable pub three_keys : List ℕ → List ℕ → ℕ → List ℕ
three_keys k1 k2 zero = zeros
three_keys k1 k2 (suc zero) = k1
three_keys k1 k2 (suc (suc g)) = k2

-- The tables of a reading book (document 02, 2026-01) as the builder makes them, from codings inverted beforehand: R has the bytes that
-- a chain has for a round, A begins with the set after the round.
use Rattle.std.specs.Prelude.{List, ℕ, ◌+◌, ◌*◌, ◌/◌, ◌%◌, get_or}
use Rattle.lists.specs.Tabulation.{tab}
use Rattle.lists.specs.HalfBytes.{half_byte}
use Rattle.cipher.specs.Lengths.{coding_length}
use Rattle.cipher.specs.Coding.{coding_at}
use Rattle.cipher.specs.Tables.{add_entry}
use Rattle.cipher.specs.Chain.{mask_into, mask_out_of}
use Rattle.reading.specs.LikeSealing.{cut_of, sum_coding}
use Rattle.reading.specs.Tables.{upper_back, lower_back}
use Rattle.table_maker.specs.Rows.{table_by}
use Rattle.table_maker.specs.Made.{keyed_by, summands, turned_by}

-- turn table p: s has the words 0 to 2 of the set before the round inverted
abbrev pub made_turn_back : List ℕ → List ℕ → ℕ → List ℕ
made_turn_back = turned_by upper_back lower_back cut_of

-- the entry of each sum of the add table that subtract table p is, under the key half byte l of the difference
abbrev pub difference_entries : List ℕ → List ℕ → ℕ → ℕ → ℕ → ℕ
difference_entries A R l p s = add_entry (sum_coding (coding_at A (p + 8)) l) (mask_out_of R (p / 8) (p % 8)) s

-- subtract table p: m has the middle codings inverted, n the words 0 to 2 of the set after the round
unfoldable pub made_subtract : List ℕ → List ℕ → List ℕ → List ℕ → List ℕ → ℕ → List ℕ
made_subtract m n A R k p =
    table_by ◌+◌ (tab 32 (difference_entries A R (half_byte (get_or k (2 * (p / 8) + 1) 0) (p % 8)) p))
    (tab 32 (summands m (coding_length * p) 15 (mask_into R (p / 8) (p % 8))))
    (tab 16 (keyed_by n (coding_length * p) (half_byte (get_or k (2 * (p / 8)) 0) (p % 8))))

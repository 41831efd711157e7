-- Inner words for how the tables of a reading book are built as those of a sealing book are (`ReadingTableLaws`).
use Rattle.std.specs.Prelude.{ℕ, zero, suc}
use Rattle.std.specs.Int.Bits.{bit_xor}

-- the word of a sealing book that is cut as word i is here
abbrev pub cut_of : ℕ → ℕ
cut_of zero = 1
cut_of (suc zero) = 0
cut_of (suc (suc i)) = 1

-- the coding of the sums of the add table that a subtract table is: h is that of the difference, l its key half byte
abbrev pub sum_coding : (ℕ → ℕ) → ℕ → ℕ → ℕ
sum_coding h l x = h (bit_xor x (bit_xor 15 l))

-- The seen word (document 02, 2026-04): one bit for each number seen.
use Rattle.std.specs.Prelude.{cond, ℕ, zero, suc, ◌^◌, ltb}
use Rattle.std.specs.Int.Bits.{bit_or}

-- the bit that a number x sets in a word of m bits: "an entry over 15 sets none" is m = 16
abbrev pub bit_of : ℕ → ℕ → ℕ
bit_of m x = cond (ltb x m) (2 ^ x) 0

-- "setting one bit per entry seen": the word of m bits after the first n values of f
unfoldable pub seen_word : ℕ → ℕ → (ℕ → ℕ) → ℕ
seen_word zero m f = 0
seen_word (suc n) m f = bit_or (seen_word n m f) (bit_of m (f n))

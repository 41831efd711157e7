-- Lengths in bytes of the parts of a reading book (document 02, 2026-01) that a sealing book has not. Its turn tables, its rounds and its
-- group of folds are as long as a sealing book's.
use Rattle.std.specs.Prelude.{ℕ}

-- a subtract table, and where in a round the subtract tables begin: after 24 turn tables
abbrev pub subtract_length : ℕ
subtract_length = 512

abbrev pub subtracts_start : ℕ
subtracts_start = 6144

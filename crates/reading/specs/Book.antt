-- The reading book that rows of round keys and a reading chain make, and where each part of it stands (document 02, 2026-01, its sentences
-- on the order of the rounds, on the last group of folds, and on the book's parts and length). All is said of any rows and any number r
-- of rounds.
use Rattle.std.specs.Prelude.{◌≡◌, Option, List, [], ◌++◌, ℕ, suc, ◌+◌, ◌-◌, ◌*◌, ◌<◌, length, get_or, drop}
use Rattle.lists.specs.Tabulation.{chunks}
use Rattle.lists.specs.Blocks.{zeros}
use Rattle.cipher.specs.KeySize.{rounds, size_by}
use Rattle.cipher.specs.Lengths.{turn_length, group_length, round_length}
use Rattle.cipher.specs.Tables.{RoundCodings, FoldTables}
use Rattle.cipher.specs.Chain.{message_set, chain_set, round_codings}
use Rattle.cipher.specs.Book.{two_kinds, group_part}
use Rattle.cipher.specs.declared.size.KeySize.{KeySize}
use Rattle.reading.specs.Lengths.{subtract_length}
use Rattle.reading.specs.Tables.{turn_back_table, subtract_table, ReadingTables}

-- ---- the parts

-- a round: the turn tables, then the subtract tables
unfoldable pub reading_part : RoundCodings → List ℕ → List ℕ
reading_part c k = two_kinds turn_length (turn_back_table c) subtract_length (subtract_table c k)

-- the row of reading round l of r: the last row first
abbrev pub row_back : ℕ → List (List ℕ) → ℕ → List ℕ
row_back r rows l = get_or rows (r - suc l) []

-- round l, and the group: folds go from set r, and from set 0 for the block before, to U, under no key
unfoldable pub reading_book_round : ℕ → List (List ℕ) → List ℕ → ℕ → List ℕ
reading_book_round r rows ch l = reading_part (round_codings r ch l) (row_back r rows l)

unfoldable pub reading_book_group : ℕ → List ℕ → List ℕ
reading_book_group r ch = group_part (chain_set ch r) (chain_set ch 0) (message_set ch) zeros

-- ---- the book

unfoldable pub reading_book_of : ℕ → List (List ℕ) → List ℕ → List ℕ
reading_book_of r rows ch = chunks r (reading_book_round r rows ch) ++ reading_book_group r ch

-- the length of a reading book, and the size of the key of one of n bytes (refusal 6 where there is none)
abbrev pub reading_book_length : KeySize → ℕ
reading_book_length z = group_length + round_length * rounds z

abbrev pub size_of_reading_book : ℕ → Option KeySize
size_of_reading_book n = size_by reading_book_length n

-- ---- where the parts stand: a book from its round l on, and, of r rounds, from its group on

abbrev pub reading_round_at : List ℕ → ℕ → List ℕ
reading_round_at bk l = drop (round_length * l) bk

abbrev pub reading_group_at : ℕ → List ℕ → List ℕ
reading_group_at r bk = drop (round_length * r) bk

-- bk has every entry of every table in its place: a reader of a book needs no other fact
pub record ReadingBook (r : ℕ) (rows : List (List ℕ)) (ch bk : List ℕ) : Type 0 where
  pub size : length bk ≡ group_length + round_length * r
  pub tables : (l : ℕ) → l < r → ReadingTables (round_codings r ch l) (row_back r rows l) (reading_round_at bk l)
  pub folds : FoldTables (chain_set ch r) (chain_set ch 0) (message_set ch) zeros (reading_group_at r bk)

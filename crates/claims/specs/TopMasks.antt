-- The masks at half byte 0 (document 02, 2026-06): they hide carries and borrows out of the top half byte, which no round reads, so that
-- no output depends on them. Two chains that differ in them alone make books that differ in entries of top tables alone, and there not
-- in the lower four bits; and with books that differ no further every operation of the driver, and reading, answers the same.
use Rattle.std.specs.Prelude.{◌≡◌, List, ℕ, ◌+◌, ◌*◌, ◌%◌, ◌<◌, length, get_or}
use Rattle.cipher.specs.Lengths.{set_length, middles_length, round_codings_length, add_length, body_start, round_length, rounds_start}
use Rattle.cipher.specs.KeySize.{rounds}
use Rattle.cipher.specs.Chain.{CodingRule}
use Rattle.cipher.specs.Book.{book_round, whole_book}
use Rattle.cipher.specs.declared.size.KeySize.{KeySize}
use Rattle.reading.specs.Lengths.{subtract_length, subtracts_start}
use Rattle.reading.specs.Tables.{read_round}
use Rattle.reading.specs.Book.{reading_book_round, reading_book_of}
use Rattle.driver.specs.Driver.{admit_answer, run_round_answer, run_rounds_answer, seal_answer, begun_over}
use Rattle.driver.specs.declared.session.Session.{Session}
use Rattle.reader.specs.Answers.{read_answer}
use Rattle.claims.specs.Model.{Call}
use Rattle.claims.specs.Calls.{driver_call, driver_answers}
use Rattle.claims.specs.Built.{Built, book_in, key_rounds}
use Rattle.claims.specs.Review.{ReadingBuilt, reading_book_in}

-- ---- where two chains, and two books, may differ

-- the place of the mask at j = 0 of sum i of round l, in a chain of r rounds
abbrev pub top_mask_at : ℕ → ℕ → ℕ → ℕ
top_mask_at r l i = set_length * (r + 2) + round_codings_length * l + (middles_length + 8 * i)

-- of entry n of add table (i, 7) of round l, in a book; and of subtract table (i, 7), in a reading book. Of a round that a book does not
-- have, these are behind its end
abbrev pub top_entry_at : ℕ → ℕ → ℕ → ℕ
top_entry_at l i n = body_start + (rounds_start + round_length * l + (add_length * (8 * i + 7) + n))

abbrev pub top_reading_entry_at : ℕ → ℕ → ℕ → ℕ
top_reading_entry_at l i n = round_length * l + (subtracts_start + subtract_length * (8 * i + 7) + n)

-- k is such a place
abbrev pub TopMask : ℕ → ℕ → Type 0
TopMask r k = (l : ℕ) × (i : ℕ) × (l < r) × (i < 3) × (k ≡ top_mask_at r l i)

abbrev pub TopEntry : ℕ → Type 0
TopEntry k = (l : ℕ) × (i : ℕ) × (n : ℕ) × (i < 3) × (n < add_length) × (k ≡ top_entry_at l i n)

abbrev pub TopReadingEntry : ℕ → Type 0
TopReadingEntry k = (l : ℕ) × (i : ℕ) × (n : ℕ) × (i < 3) × (n < subtract_length) × (k ≡ top_reading_entry_at l i n)

-- two chains of r rounds that differ in masks at j = 0 alone
abbrev pub ButTopMasks : ℕ → List ℕ → List ℕ → Type 0
ButTopMasks r ch ch' = (k : ℕ) → (TopMask r k → ⊥) → get_or ch k 0 ≡ get_or ch' k 0

-- the lower four bits of two bytes are the same
abbrev pub SameLow : ℕ → ℕ → Type 0
SameLow x y = x % 16 ≡ y % 16

-- two books that differ in their top entries alone, and there not in the lower four bits
pub record ButTops (Top : ℕ → Type 0) (bk bk' : List ℕ) : Type 0 where
  pub size : length bk ≡ length bk'
  pub others : (k : ℕ) → (Top k → ⊥) → get_or bk k 0 ≡ get_or bk' k 0
  pub low : (k : ℕ) → SameLow (get_or bk k 0) (get_or bk' k 0)

-- ---- what cannot tell them apart

-- each operation of the driver, whatever is asked, refusals and lent bytes included, and every list of calls
pub record SameAnswers (bk bk' : List ℕ) : Type 0 where
  pub admitted : admit_answer bk ≡ admit_answer bk'
  pub after_rounds : (n : ℕ) (b : List ℕ) → run_rounds_answer bk n b ≡ run_rounds_answer bk' n b
  pub sealing : (iv coded out : List ℕ) → seal_answer bk iv coded out ≡ seal_answer bk' iv coded out
  pub begun : (s : Session) → begun_over bk s ≡ begun_over bk' s
  pub calls : (c : Call) (s : Session) → driver_call bk c s ≡ driver_call bk' c s
  pub answers : (cs : List Call) → driver_answers bk cs ≡ driver_answers bk' cs

-- and reading
abbrev pub SameRead : List ℕ → List ℕ → Type 0
SameRead bk bk' = (iv sealed out : List ℕ) → read_answer bk iv sealed out ≡ read_answer bk' iv sealed out

pub record TopMaskLaws : Type 0 where
  -- the rounds, for any rows, any number of them and any codings: the tables of a round l, which are what building one round writes, take
  -- every block to the same one
  pub round : (r : ℕ) (rows : List (List ℕ)) (ch ch' : List ℕ) → ButTopMasks r ch ch' → (l : ℕ) → l < r → (b : List ℕ)
      → run_round_answer (book_round r rows ch l) b ≡ run_round_answer (book_round r rows ch' l) b
  pub reading_round : (r : ℕ) (rows : List (List ℕ)) (ch ch' : List ℕ) → ButTopMasks r ch ch' → (l : ℕ) → l < r → (b : List ℕ)
      → read_round (reading_book_round r rows ch l) b ≡ read_round (reading_book_round r rows ch' l) b
  -- the books, for any rows: where a chain's codings are permutations, they differ as is said above
  pub books : (z : KeySize) (rows : List (List ℕ)) (ch ch' : List ℕ) → CodingRule (rounds z) ch → ButTopMasks (rounds z) ch ch'
      → ButTops TopEntry (whole_book z rows ch) (whole_book z rows ch')
  pub reading_books : (z : KeySize) (rows : List (List ℕ)) (ch ch' : List ℕ) → CodingRule (rounds z) ch → ButTopMasks (rounds z) ch ch'
      → ButTops TopReadingEntry (reading_book_of (rounds z) rows ch) (reading_book_of (rounds z) rows ch')
  -- the answers, for books of any bytes that differ so
  pub same : (bk bk' : List ℕ) → ButTops TopEntry bk bk' → SameAnswers bk bk'
  pub same_read : (bk bk' : List ℕ) → ButTops TopReadingEntry bk bk' → SameRead bk bk'
  -- so sealed files, tags and what is read are the same by whatever is built by one schedule of one key and two such chains
  pub built : (schedule : ℕ) (key ch ch' out out' held held' : List ℕ) → ButTopMasks (key_rounds key) ch ch' → Built schedule key ch out held → Built schedule key ch' out' held'
      → SameAnswers (book_in key held) (book_in key held')
  pub reading_built : (schedule : ℕ) (key ch ch' out out' held held' : List ℕ) → ButTopMasks (key_rounds key) ch ch' → ReadingBuilt schedule key ch out held → ReadingBuilt schedule key ch' out' held'
      → SameRead (reading_book_in key held) (reading_book_in key held')

-- What reading answers (document 02, 2026-01), from a reading book of any bytes.
use Rattle.std.specs.Prelude.{Bool, not, ◌||◌, List, [], ◌∷◌, ◌++◌, ℕ, ◌-◌, ◌/◌, eqb, length, drop}
use Rattle.lists.specs.Refusals.{first}
use Rattle.cipher.specs.Lengths.{group_length, round_length}
use Rattle.cipher.specs.Answers.{block_tests, text_tests, room_tests}
use Rattle.cipher.specs.declared.size.KeySize.TheVariants.{Bytes16, Bytes24, Bytes32}
use Rattle.reading.specs.Book.{reading_book_length}
use Rattle.reading.specs.Shown.{read_text}

-- refusal 6: a reading book of none of the three lengths
abbrev pub reading_book_tests : List ℕ → List (Bool × ℕ)
reading_book_tests bk =
    (not (eqb (length bk) (reading_book_length Bytes16) || eqb (length bk) (reading_book_length Bytes24) || eqb (length bk) (reading_book_length Bytes32)), 6)
    ∷ []

-- how many rounds a reading book has
unfoldable pub reading_rounds_of : List ℕ → ℕ
reading_rounds_of bk = (length bk - group_length) / round_length

-- refusals 6 of the book, 7 of the IV, 8 of the sealed text, and 9 of a buffer shorter than it
abbrev pub read_tests : List ℕ → List ℕ → List ℕ → List ℕ → List (Bool × ℕ)
read_tests bk iv sealed out = reading_book_tests bk ++ (block_tests iv ++ (text_tests sealed ++ room_tests (length sealed) out))

-- reading into a buffer: the number of a refusal or 0, how many bytes were written, and what the buffer then holds
unfoldable pub read_answer : List ℕ → List ℕ → List ℕ → List ℕ → (ℕ × ℕ) × List ℕ
read_answer bk iv sealed out =
    first (read_tests bk iv sealed out) (λ q. ((q, 0), out)) ((0, length sealed), read_text bk (reading_rounds_of bk) iv sealed ++ drop (length sealed) out)

-- What the check of a reading chain answers, and the builder of reading books (document 02, 2026-01): the number of a refusal, and the
-- buffer as it was, or 0 and the book, then what the buffer held before.
use Rattle.std.specs.Prelude.{Bool, List, ◌++◌, ℕ}
use Rattle.lists.specs.Refusals.{first}
use Rattle.cipher.specs.KeySize.{rounds}
use Rattle.cipher.specs.Schedules.{key_rows}
use Rattle.cipher.specs.Answers.{key_length_tests, key_length_size}
use Rattle.book.specs.Answers.{built_into}
use Rattle.reading.specs.Chain.{reading_chain_tests}
use Rattle.reading.specs.Book.{reading_book_length, reading_book_of}

-- a reading chain for a key of n bytes: refusals 1 of the key, 2 to 5 of the chain
abbrev pub reading_chain_check_tests : ℕ → List ℕ → List (Bool × ℕ)
reading_chain_check_tests n ch = key_length_tests n ++ reading_chain_tests (key_length_size n) ch

abbrev pub reading_chain_checked : ℕ → List ℕ → ℕ
reading_chain_checked n ch = first (reading_chain_check_tests n ch) (λ q. q) 0

-- the reading book
abbrev pub build_reading_answer : ℕ → List ℕ → List ℕ → List ℕ → ℕ × List ℕ
build_reading_answer s key ch out = built_into 3 0 s key ch out reading_book_length (λ k z. reading_book_of (rounds z) (key_rows k z key) ch)

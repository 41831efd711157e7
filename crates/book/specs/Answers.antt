-- What the builder answers (document 01, "Book" and "Refusals from the input"; 02, 2026-05): the number of a refusal and the buffer as it
-- was, or 0 and what was asked for, then what the buffer held before.
use Rattle.std.specs.Prelude.{Bool, List, ◌++◌, ℕ, ◌%◌, drop}
use Rattle.lists.specs.Refusals.{first}
use Rattle.cipher.specs.KeySize.{rounds, book_length}
use Rattle.cipher.specs.Schedules.{key_rows}
use Rattle.cipher.specs.Chain.{chain_tests_by}
use Rattle.cipher.specs.Book.{whole_book, book_round}
use Rattle.cipher.specs.Lengths.{round_length}
use Rattle.cipher.specs.Answers.{key_tests, schedule_of, key_size, room_tests}
use Rattle.cipher.specs.declared.size.KeySize.{KeySize}
use Rattle.cipher.specs.declared.schedules.Schedule.{Schedule}

-- refusals 34 of the schedule s, 1 of the key, 2 to 5 of the chain, with the word rule that goes from one word to another, and 9 of a
-- buffer that is shorter than what is written
abbrev pub build_tests_by : ℕ → ℕ → ℕ → List ℕ → List ℕ → List ℕ → (KeySize → ℕ) → List (Bool × ℕ)
build_tests_by from to s key ch out len = key_tests s key ++ (chain_tests_by from to (key_size key) ch ++ room_tests (len (key_size key)) out)

-- with the word 3 rule
abbrev pub build_tests : ℕ → List ℕ → List ℕ → List ℕ → (KeySize → ℕ) → List (Bool × ℕ)
build_tests s key ch out len = build_tests_by 0 3 s key ch out len

-- the part that a key of size z and a chain make by the schedule k, of len z bytes, into the front of out
unfoldable pub built_into : ℕ → ℕ → ℕ → List ℕ → List ℕ → List ℕ → (KeySize → ℕ) → (Schedule → KeySize → List ℕ) → ℕ × List ℕ
built_into from to s key ch out len part =
    first (build_tests_by from to s key ch out len) (λ n. (n, out)) (0, part (schedule_of s) (key_size key) ++ drop (len (key_size key)) out)

-- the book
abbrev pub build_answer : ℕ → List ℕ → List ℕ → List ℕ → ℕ × List ℕ
build_answer s key ch out = built_into 0 3 s key ch out book_length (λ k z. whole_book z (key_rows k z key) ch)

-- the tables of round l mod r
abbrev pub build_round_answer : ℕ → List ℕ → List ℕ → ℕ → List ℕ → ℕ × List ℕ
build_round_answer s key ch l out =
    built_into 0 3 s key ch out (λ z. round_length) (λ k z. book_round (rounds z) (key_rows k z key) ch (l % rounds z))

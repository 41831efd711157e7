-- The driver (document 01, "Pad, driver, archive", "Refusals from the input" and "from the state"; 02, 2026-05): what each of its
-- operations answers, from a book (01's term) of any bytes.
use Rattle.std.specs.Prelude.{Bool, true, false, cond, not, ◌||◌, ℕ, suc, ◌+◌, ◌*◌, ◌-◌, ◌/◌, eqb, leb, ltb, length, get_or, drop, Option, Some, None, Result, Ok, Err}
use mathlib.Core.List.{List, [], ◌∷◌, ◌++◌, flatten}
use Rattle.lists.specs.Blocks.{zeros, blocks}
use Rattle.lists.specs.Refusals.{first}
use Rattle.cipher.specs.Tables.{table_round, table_rounds, table_fold}
use Rattle.cipher.specs.Book.{book_body, start_of, group_at, round_at}
use Rattle.cipher.specs.Lengths.{rounds_start, round_length}
use Rattle.cipher.specs.KeySize.{rounds, key_length, book_length, size_of_book}
use Rattle.cipher.specs.Refusal.{number_of}
use Rattle.cipher.specs.Answers.{block_tests, text_tests, room_tests}
use Rattle.cipher.specs.declared.size.KeySize.{KeySize}
use Rattle.cipher.specs.declared.size.KeySize.TheVariants.{Bytes16, Bytes24, Bytes32}
use Rattle.cipher.specs.declared.refusal.Refusal.{Refusal}
use Rattle.driver.specs.declared.session.Session.{Session}

-- ---- rounds

-- refusal 6: a book of none of the three lengths; a round's tables of another length than theirs
abbrev pub book_length_tests : List ℕ → List (Bool × ℕ)
book_length_tests bk = (not (eqb (length bk) (book_length Bytes16) || eqb (length bk) (book_length Bytes24) || eqb (length bk) (book_length Bytes32)), 6) ∷ []

abbrev pub tables_tests : List ℕ → List (Bool × ℕ)
tables_tests t = (not (eqb (length t) round_length), 6) ∷ []

-- whether a byte belongs to a book's length: it is the length of a key of the size that the length tells. Refusal 33: a book whose
-- first byte does not
abbrev pub belongs : Option KeySize → ℕ → Bool
belongs (Some z) b = eqb b (key_length z)
belongs None b = false

abbrev pub size_byte_tests : List ℕ → List (Bool × ℕ)
size_byte_tests bk = (not (belongs (size_of_book (length bk)) (get_or bk 0 0)), 33) ∷ []

-- a book: its length, then its first byte
abbrev pub book_tests : List ℕ → List (Bool × ℕ)
book_tests bk = book_length_tests bk ++ size_byte_tests bk

-- the size of a book's key, or the number of the refusal; and admitting a book
abbrev pub admitted_told : Result KeySize Refusal → ℕ × Option KeySize
admitted_told (Ok z) = (0, Some z)
admitted_told (Err q) = (number_of q, None)

unfoldable pub admit_answer : List ℕ → ℕ × Option KeySize
admit_answer bk = first (book_tests bk) (λ q. (q, None)) (0, size_of_book (length bk))

-- the length of a book's body, for the size of its key; and how many rounds a body has
abbrev pub body_length : KeySize → ℕ
body_length z = rounds_start + round_length * rounds z

unfoldable pub rounds_of : List ℕ → ℕ
rounds_of bk = (length bk - rounds_start) / round_length

-- a block by the tables of one round
abbrev pub run_round_tests : List ℕ → List ℕ → List (Bool × ℕ)
run_round_tests t b = tables_tests t ++ block_tests b

unfoldable pub run_round_answer : List ℕ → List ℕ → ℕ × List ℕ
run_round_answer t b = first (run_round_tests t b) (λ q. (q, zeros)) (0, table_round t b)

-- a block by the first n rounds of a book, all of them where n is more
abbrev pub run_rounds_tests : List ℕ → List ℕ → List (Bool × ℕ)
run_rounds_tests bk b = book_tests bk ++ block_tests b

unfoldable pub run_rounds_answer : List ℕ → ℕ → List ℕ → ℕ × List ℕ
run_rounds_answer bk n b =
    first (run_rounds_tests bk b) (λ q. (q, zeros))
    (0, table_rounds (round_at (book_body bk)) (cond (leb n (rounds_of (book_body bk))) n (rounds_of (book_body bk))) b)

-- ---- sealing

-- a block m folded (01's term) into a block x by group g of a book's body bk, and the result taken through all rounds
unfoldable pub pass : List ℕ → ℕ → List ℕ → List ℕ → List ℕ
pass bk g x m = table_rounds (round_at bk) (rounds_of bk) (table_fold (group_at bk g) x m)

-- blocks from a block x on: each is passed through together with the result before it
unfoldable pub passed_from : (List ℕ → List ℕ → List ℕ) → List ℕ → List (List ℕ) → List (List ℕ)
passed_from step x [] = []
passed_from step x (m ∷ ms) = step x m ∷ passed_from step (step x m) ms

-- the coded blocks sealed from an IV by a book's body bk: every block is folded in by group one
abbrev pub sealed : List ℕ → List ℕ → List ℕ → List ℕ
sealed bk iv coded = flatten (passed_from (pass bk 0) iv (blocks coded))

-- sealing into a buffer: the number of a refusal or 0, how many bytes were written, and what the buffer then holds
abbrev pub seal_tests : List ℕ → List ℕ → List ℕ → List ℕ → List (Bool × ℕ)
seal_tests bk iv coded out = book_tests bk ++ (block_tests iv ++ (text_tests coded ++ room_tests (length coded) out))

unfoldable pub seal_answer : List ℕ → List ℕ → List ℕ → List ℕ → (ℕ × ℕ) × List ℕ
seal_answer bk iv coded out =
    first (seal_tests bk iv coded out) (λ q. ((q, 0), out)) ((0, length coded), sealed (book_body bk) iv coded ++ drop (length coded) out)

-- ---- the tag session

-- a session that has taken no call yet, holding the block x; and one that takes none
abbrev pub fresh : List ℕ → Session
fresh x = record { block = x; taken = 0; finished = false }

abbrev pub spent : Session
spent = record { block = zeros; taken = 0; finished = true }

-- the session after a block call that was taken, and after a last call
abbrev pub moved : Session → List ℕ → Session
moved s x = record { block = x; taken = suc s.taken; finished = s.finished }

abbrev pub closed : Session → Session
closed s = record { block = s.block; taken = s.taken; finished = true }

-- an answer as a number and a session, or a number, a tag and a session: where it was refused, zeros for the tag, and the session that
-- the caller has
abbrev pub session_told : Result Session Refusal → Session → ℕ × Session
session_told (Ok t) s = (0, t)
session_told (Err q) s = (number_of q, s)

abbrev pub tag_told : Result (List ℕ × Session) Refusal → Session → (ℕ × List ℕ) × Session
tag_told (Ok p) s = ((0, p.0), p.1)
tag_told (Err q) s = ((number_of q, zeros), s)

-- beginning in place of a session s, which a refusal leaves: a fresh session that holds the book's start
unfoldable pub begun_over : List ℕ → Session → ℕ × Session
begun_over bk s = first (book_tests bk) (λ q. (q, s)) (0, fresh (start_of (book_body bk)))

-- beginning where there is none
unfoldable pub begin_answer : List ℕ → ℕ × Session
begin_answer bk = begun_over bk spent

-- refusal 10: a kind (01's term) that is neither 0 nor 1. Refusal 21: a call on a finished session. Refusal 22: a block call
-- on one that has taken 65,535 of them
abbrev pub kind_tests : ℕ → List (Bool × ℕ)
kind_tests k = (ltb 1 k, 10) ∷ []

abbrev pub finished_tests : Session → List (Bool × ℕ)
finished_tests s = (s.finished, 21) ∷ []

abbrev pub full_tests : Session → List (Bool × ℕ)
full_tests s = (leb 65535 s.taken, 22) ∷ []

-- a block call: the block is folded in by group one
abbrev pub block_call_tests : List ℕ → List ℕ → Session → List (Bool × ℕ)
block_call_tests bk m s = book_tests bk ++ (block_tests m ++ (finished_tests s ++ full_tests s))

unfoldable pub block_answer : List ℕ → List ℕ → Session → ℕ × Session
block_answer bk m s =
    first (block_call_tests bk m s) (λ q. (q, s)) (0, moved s (pass (book_body bk) 0 s.block m))

-- a last call: the block is folded in by group two for kind 0 and by group three for kind 1, and the result is the tag
abbrev pub last_call_tests : List ℕ → List ℕ → ℕ → Session → List (Bool × ℕ)
last_call_tests bk m k s = book_tests bk ++ (block_tests m ++ (kind_tests k ++ finished_tests s))

unfoldable pub last_answer : List ℕ → List ℕ → ℕ → Session → (ℕ × List ℕ) × Session
last_answer bk m k s =
    first (last_call_tests bk m k s) (λ q. ((q, zeros), s))
    ((0, pass (book_body bk) (suc k) s.block m), closed s)

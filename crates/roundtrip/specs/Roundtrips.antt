-- The two round trips of a message through all parts, from a key, a chain and plain buffers (document 01, demand 3, as witnesses that run):
-- it is coded, tagged and checked; it is coded, sealed and opened. An answer speaks of no session and of no call between: the first
-- call that refuses decides, by what it was given, and a message that none refuses is Valid, or comes back.
-- Book, code and sealed file stand in lent buffers, which are scratch: a call that refuses leaves there what the calls before it
-- wrote. The answers say for each buffer what it holds then.
use Rattle.std.specs.Prelude.{Bool, List, ◌++◌, ℕ, length, drop}
use Rattle.lists.specs.Refusals.{first}
use Rattle.cipher.specs.KeySize.{book_length}
use Rattle.cipher.specs.Schedules.{key_rows}
use Rattle.cipher.specs.Coding.{set_of}
use Rattle.cipher.specs.Chain.{chain_tests}
use Rattle.cipher.specs.Book.{whole_book}
use Rattle.cipher.specs.Answers.{schedule_of, key_tests, key_size, block_tests, room_tests}
use Rattle.pad.specs.Padding.{padded_for_sealing, padded_for_tag, coded_text}
use Rattle.archive.specs.Archive.{message_tests}
use Rattle.claims.specs.Built.{pad_set}
use Rattle.claims.specs.Sealing.{code_of, file_of}

-- ---- what is written

-- the book of a key and a chain, by the schedule told
abbrev pub key_book : ℕ → List ℕ → List ℕ → List ℕ
key_book schedule key ch = whole_book (key_size key) (key_rows (schedule_of schedule) (key_size key) key) ch

-- a message coded for a tag under the set u
abbrev pub tag_code_of : List ℕ → List ℕ → List ℕ
tag_code_of u m = coded_text (set_of u) (padded_for_tag m)

-- a buffer with x written over its front
abbrev pub over : List ℕ → List ℕ → List ℕ
over x buffer = x ++ drop (length x) buffer

-- ---- what each call on a round trip can refuse

-- building: 34 of the schedule, 1 of the key, 2 to 5 of the chain, 9 of a buffer shorter than the book
abbrev pub build_call_tests : ℕ → List ℕ → List ℕ → List ℕ → List (Bool × ℕ)
build_call_tests schedule key ch bk = key_tests schedule key ++ (chain_tests (key_size key) ch ++ room_tests (book_length (key_size key)) bk)

-- coding a message as n bytes: 8 of the message, 9 of the buffer
abbrev pub code_call_tests : List ℕ → ℕ → List ℕ → List (Bool × ℕ)
code_call_tests m n co = message_tests m ++ room_tests n co

-- sealing n bytes: 7 of the IV, 9 of the buffer
abbrev pub seal_call_tests : List ℕ → ℕ → List ℕ → List (Bool × ℕ)
seal_call_tests iv n se = block_tests iv ++ room_tests n se

-- ---- the answers: a number, what is told, and what the buffers hold

-- tagged and checked, with buffers for book and code: the verdict is Valid (1). No call after coding refuses
unfoldable pub tag_roundtrip : ℕ → List ℕ → List ℕ → List ℕ → List ℕ → List ℕ → (ℕ × ℕ) × (List ℕ × List ℕ)
tag_roundtrip schedule key ch m bk co =
    first (build_call_tests schedule key ch bk) (λ q. ((q, 0), (bk, co)))
    (first (code_call_tests m (length (padded_for_tag m)) co) (λ q. ((q, 0), (over (key_book schedule key ch) bk, co)))
    ((0, 1), (over (key_book schedule key ch) bk, over (tag_code_of (pad_set ch) m) co)))

-- sealed and opened, with buffers for book, code, sealed file and message: the message is back, and its length is told. Opening
-- refuses nothing but 9, of the last buffer
unfoldable pub seal_roundtrip : ℕ → List ℕ → List ℕ → List ℕ → List ℕ → List ℕ → List ℕ → List ℕ → List ℕ → (ℕ × ℕ) × (List ℕ × List ℕ × List ℕ × List ℕ)
seal_roundtrip schedule key ch iv m bk co se out =
    let n = length (padded_for_sealing m) in
    let book = over (key_book schedule key ch) bk in
    let code = over (code_of (pad_set ch) m) co in
    let file = over (file_of (pad_set ch) (key_book schedule key ch) iv m) se in
    first (build_call_tests schedule key ch bk) (λ q. ((q, 0), (bk, co, se, out)))
    (first (code_call_tests m n co) (λ q. ((q, 0), (book, co, se, out)))
    (first (seal_call_tests iv n se) (λ q. ((q, 0), (book, code, se, out)))
    (first (room_tests n out) (λ q. ((q, 0), (book, code, file, out)))
    ((0, length m), (book, code, file, over m out)))))

-- The first byte of a book (document 02, 2026-05): what it is, and that tags and sealed files are those of the same book without it.
-- A book without its first byte is called bare here; it is document 01's. The driver's operations with a bare book are put together as
-- document 01 has them ("Pad, driver, archive", "Refusals from the input" and "from the state"), with its three lengths; tables,
-- passes, sessions and the other refusals are the driver's own definitions, which know of no first byte.
use Rattle.std.specs.Prelude.{◌≡◌, Bool, cond, not, ◌||◌, List, [], ◌∷◌, ◌++◌, ℕ, suc, eqb, leb, length, drop, Some}
use Rattle.lists.specs.Blocks.{zeros}
use Rattle.lists.specs.Refusals.{first}
use Rattle.cipher.specs.Schedules.{key_rows}
use Rattle.cipher.specs.Tables.{table_rounds}
use Rattle.cipher.specs.Book.{book_of, start_of, round_at}
use Rattle.cipher.specs.Answers.{schedule_of, key_size, block_tests, text_tests, room_tests}
use Rattle.cipher.specs.declared.size.KeySize.{KeySize}
use Rattle.driver.specs.Driver.{admit_answer, rounds_of, run_rounds_answer, pass, sealed, seal_answer}
use Rattle.driver.specs.Driver.{fresh, spent, moved, closed, begun_over, kind_tests, finished_tests, full_tests}
use Rattle.driver.specs.declared.session.Session.{Session}
use Rattle.claims.specs.Model.{Call, block_call, last_call, Answer}
use Rattle.claims.specs.Calls.{block_reply, last_reply, driver_call, run, driver_answers}
use Rattle.claims.specs.Built.{Built, book_in, key_rounds}

-- ---- bare books

-- the bare book of a key, by a schedule, and a chain ("Book")
abbrev pub bare_book : ℕ → List ℕ → List ℕ → List ℕ
bare_book schedule key ch = book_of (key_rounds key) (key_rows (schedule_of schedule) (key_size key) key) ch

-- refusal 6, with document 01's three lengths
abbrev pub bare_tests : List ℕ → List (Bool × ℕ)
bare_tests bk = (not (eqb (length bk) 466960 || eqb (length bk) 540688 || eqb (length bk) 614416), 6) ∷ []

-- a block by the first n rounds, all of them where n is more: 6, 7
unfoldable pub bare_rounds : List ℕ → ℕ → List ℕ → ℕ × List ℕ
bare_rounds bk n b =
    first (bare_tests bk ++ block_tests b) (λ q. (q, zeros)) (0, table_rounds (round_at bk) (cond (leb n (rounds_of bk)) n (rounds_of bk)) b)

-- sealing into a buffer: 6, 7, 8, 9
unfoldable pub bare_seal : List ℕ → List ℕ → List ℕ → List ℕ → (ℕ × ℕ) × List ℕ
bare_seal bk iv coded out =
    first (bare_tests bk ++ (block_tests iv ++ (text_tests coded ++ room_tests (length coded) out))) (λ q. ((q, 0), out))
    ((0, length coded), sealed bk iv coded ++ drop (length coded) out)

-- beginning in place of a session s: 6
unfoldable pub bare_begun : List ℕ → Session → ℕ × Session
bare_begun bk s = first (bare_tests bk) (λ q. (q, s)) (0, fresh (start_of bk))

-- a block call: 6, 7, 21, 22
unfoldable pub bare_block : List ℕ → List ℕ → Session → ℕ × Session
bare_block bk m s =
    first (bare_tests bk ++ (block_tests m ++ (finished_tests s ++ full_tests s))) (λ q. (q, s)) (0, moved s (pass bk 0 s.block m))

-- a last call: 6, 7, 10, 21
unfoldable pub bare_last : List ℕ → List ℕ → ℕ → Session → (ℕ × List ℕ) × Session
bare_last bk m k s =
    first (bare_tests bk ++ (block_tests m ++ (kind_tests k ++ finished_tests s))) (λ q. ((q, zeros), s))
    ((0, pass bk (suc k) s.block m), closed s)

-- a call on a session, and the answers to a list of calls from a session just begun
unfoldable pub bare_call : List ℕ → Call → Session → Answer × Session
bare_call bk (block_call m) s = block_reply (bare_block bk m s)
bare_call bk (last_call m k) s = last_reply (bare_last bk m k s)

unfoldable pub bare_answers : List ℕ → List Call → List Answer
bare_answers bk cs = run (bare_call bk) cs (bare_begun bk spent).1

-- ---- what the first byte is, and changes

-- a book and a bare book answer alike: each operation, refusals and lent bytes included, and every list of calls
pub record LikeBare (bk bare : List ℕ) : Type 0 where
  pub after_rounds : (n : ℕ) (b : List ℕ) → run_rounds_answer bk n b ≡ bare_rounds bare n b
  pub sealing : (iv coded out : List ℕ) → seal_answer bk iv coded out ≡ bare_seal bare iv coded out
  pub begun : (s : Session) → begun_over bk s ≡ bare_begun bare s
  pub calls : (c : Call) (s : Session) → driver_call bk c s ≡ bare_call bare c s
  pub answers : (cs : List Call) → driver_answers bk cs ≡ bare_answers bare cs

pub record FirstByteLaws : Type 0 where
  -- a book that is built has the key's length in front of the bare book of the same schedule, key and chain
  pub built : (schedule : ℕ) (key ch out held : List ℕ) → Built schedule key ch out held → book_in key held ≡ length key ∷ bare_book schedule key ch
  -- and tags and sealed files by it are what document 01 has of the bare one
  pub like_bare : (schedule : ℕ) (key ch out held : List ℕ) → Built schedule key ch out held → LikeBare (book_in key held) (bare_book schedule key ch)
  -- so it is of every book that is admitted, whatever its tables
  pub alike : (bk : List ℕ) (z : KeySize) → admit_answer bk ≡ (0, Some z) → LikeBare bk (drop 1 bk)

-- The first byte of a book (document 02, 2026-05): where a book is not refused, the tests after the book's decide, as they do of the bare
-- book, and all that is computed comes from the body, which is the bare book.
use Rattle.std.proofs.Common.{Some}
use mathlib.Core.Path.{◌≡◌, refl, sym, ap, ap₂, ◌∙◌, subst}
use mathlib.Core.Bool.{Bool}
use mathlib.Core.List.{List, [], ◌∷◌, ◌++◌}
use Prim.Native.Nat.{ℕ}
use lib.ListN.{length, drop}
use Rattle.lists.specs.Refusals.{first}
use Rattle.cipher.specs.KeySize.{key_length}
use Rattle.cipher.specs.Answers.{key_size, block_tests, text_tests, room_tests}
use Rattle.cipher.specs.declared.size.KeySize.{KeySize}
use Rattle.cipher.proofs.KeySizeLaws.{found_length, one_of}
use Rattle.cipher.proofs.CheckLaws.{clear_taken}
use Rattle.driver.specs.Driver.{book_tests, admit_answer, body_length, run_rounds_answer, seal_answer, spent, begun_over, begin_answer, kind_tests, finished_tests, full_tests, block_answer, last_answer}
use Rattle.driver.specs.declared.session.Session.{Session}
use Rattle.driver.proofs.AdmitLaws.{admitted_length, book_taken}
use Rattle.claims.specs.Model.{Call, block_call, last_call, Answer}
use Rattle.claims.specs.Calls.{block_reply, last_reply, driver_call, run, driver_answers}
use Rattle.claims.specs.Built.{Built, book_in}
use Rattle.claims.specs.FirstByte.{bare_book, bare_tests, bare_rounds, bare_seal, bare_begun, bare_block, bare_last, bare_call, bare_answers, LikeBare, FirstByteLaws}
use Rattle.claims.proofs.BuiltLaws.{built_named, built_is, built_body, built_found}

-- a book of size z that is not refused
module _ (bk : List ℕ) (z : KeySize) (found : admit_answer bk ≡ (0, Some z)) where
  -- without its first byte it is not refused either, so both ways the tests `ts` decide
  alike : {A : Type 0} (ts : List (Bool × ℕ)) (refuse : ℕ → A) (go : A) → first (book_tests bk ++ ts) refuse go ≡ first (bare_tests (drop 1 bk) ++ ts) refuse go
  alike ts refuse go =
      book_taken bk ts refuse go z found
      ∙ sym (clear_taken ts refuse go (bare_tests (drop 1 bk)) (one_of body_length (length (drop 1 bk)) z (admitted_length bk z found), tt))

  rounds_alike : (n : ℕ) (b : List ℕ) → run_rounds_answer bk n b ≡ bare_rounds (drop 1 bk) n b
  unfolding run_rounds_answer bare_rounds
  rounds_alike n b = alike (block_tests b) _ _

  seal_alike : (iv coded out : List ℕ) → seal_answer bk iv coded out ≡ bare_seal (drop 1 bk) iv coded out
  unfolding seal_answer bare_seal
  seal_alike iv coded out = alike (block_tests iv ++ (text_tests coded ++ room_tests (length coded) out)) _ _

  begun_alike : (s : Session) → begun_over bk s ≡ bare_begun (drop 1 bk) s
  unfolding begun_over bare_begun
  begun_alike s = alike [] _ _

  block_alike : (m : List ℕ) (s : Session) → block_answer bk m s ≡ bare_block (drop 1 bk) m s
  unfolding block_answer bare_block
  block_alike m s = alike (block_tests m ++ (finished_tests s ++ full_tests s)) _ _

  last_alike : (m : List ℕ) (k : ℕ) (s : Session) → last_answer bk m k s ≡ bare_last (drop 1 bk) m k s
  unfolding last_answer bare_last
  last_alike m k s = alike (block_tests m ++ (kind_tests k ++ finished_tests s)) _ _

  call_alike : (c : Call) (s : Session) → driver_call bk c s ≡ bare_call (drop 1 bk) c s
  unfolding driver_call bare_call
  call_alike (block_call m) s = ap block_reply (block_alike m s)
  call_alike (last_call m k) s = ap last_reply (last_alike m k s)

  runs_alike : (cs : List Call) (s : Session) → run (driver_call bk) cs s ≡ run (bare_call (drop 1 bk)) cs s
  unfolding run
  runs_alike [] s = refl
  runs_alike (c ∷ cs) s =
      let e = call_alike c s in
      ap₂ {C = List Answer} (λ (a : Answer) (l : List Answer). a ∷ l) (ap (λ (r : Answer × Session). r.0) e)
      (runs_alike cs (driver_call bk c s).1 ∙ ap (λ (r : Answer × Session). run (bare_call (drop 1 bk)) cs r.1) e)

  answers_alike : (cs : List Call) → driver_answers bk cs ≡ bare_answers (drop 1 bk) cs
  unfolding driver_answers bare_answers begin_answer
  answers_alike cs =
      runs_alike cs (begun_over bk spent).1 ∙ ap (λ (r : ℕ × Session). run (bare_call (drop 1 bk)) cs r.1) (begun_alike spent)

  like_bare : LikeBare bk (drop 1 bk)
  like_bare = record { after_rounds = rounds_alike; sealing = seal_alike; begun = begun_alike; calls = call_alike; answers = answers_alike }

-- a book that is built
module _ (schedule : ℕ) (key ch out held : List ℕ) (built : Built schedule key ch out held) where
  byte_and_bare : book_in key held ≡ length key ∷ bare_book schedule key ch
  byte_and_bare =
      built_is schedule key ch out held built
      ∙ ap (λ (n : ℕ). n ∷ bare_book schedule key ch) (sym (found_length key_length (length key) (key_size key) (built_named schedule key ch out held built).1))

  built_like_bare : LikeBare (book_in key held) (bare_book schedule key ch)
  built_like_bare =
      subst (λ (bare : List ℕ). LikeBare (book_in key held) bare) (built_body schedule key ch out held built)
      (like_bare (book_in key held) (key_size key) (built_found schedule key ch out held built))

pub first_byte : FirstByteLaws
first_byte = record { built = byte_and_bare; like_bare = built_like_bare; alike = like_bare }

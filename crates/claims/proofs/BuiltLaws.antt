-- What an answer 0 of a builder tells: the key has a known size, the chain is valid, and the book, or the reading book, in the buffer is
-- that of the key's rows and the chain. And when it is given: with every such key and chain, into a buffer with room.
use Rattle.std.proofs.Common.{Some, None}
use mathlib.Core.Path.{◌≡◌, refl, sym, ap, ◌∙◌, subst}
use mathlib.Core.Bool.{Bool, true, false, cond, not, ◌||◌}
use mathlib.Core.List.{List, [], ◌∷◌, ◌++◌}
use Prim.Native.Nat.{ℕ, ◌≤◌}
use native.Mathlib.Omega.{arith}
use lib.Dec.{eqb, lit<}
use lib.ListN.{length, get_or, take, drop}
use lib.Seq.{take_at}
use Rattle.lists.specs.Refusals.{first}
use Rattle.lists.proofs.RefusalLaws.{Clear}
use Rattle.cipher.specs.Schedules.{Named, key_rows}
use Rattle.cipher.specs.KeySize.{rounds, book_length, size_by, size_of_key}
use Rattle.cipher.specs.Chain.{ChainBy, Chain, chain_tests_by}
use Rattle.cipher.specs.Book.{book_of, whole_book, book_body, Book}
use Rattle.cipher.specs.Answers.{schedule_of, key_length_size, key_size, room_tests}
use Rattle.cipher.specs.declared.size.KeySize.{KeySize}
use Rattle.cipher.specs.declared.size.KeySize.TheVariants.{Bytes16, Bytes24, Bytes32}
use Rattle.cipher.proofs.CheckLaws.{Numbered}
use Rattle.cipher.proofs.ChainTests.{chain_tested}
use Rattle.cipher.proofs.BookLaw.{book_size, book_made}
use Rattle.driver.specs.Driver.{admit_answer}
use Rattle.driver.proofs.AdmitLaws.{book_admitted}
use Rattle.book.specs.Answers.{build_tests_by, built_into}
use Rattle.book.proofs.AnswerLaws.{built_done}
use Rattle.cipher.specs.declared.schedules.Schedule.{Schedule}
use Rattle.cipher.proofs.SchedulesLaws.{number_known}
use Rattle.reading.specs.Chain.{ReadingChain}
use Rattle.reading.specs.Book.{reading_book_of, reading_book_length, ReadingBook}
use Rattle.reading.proofs.ReadingBookLaw.{reading_book_size, reading_book_made}
use Rattle.claims.specs.Built.{Built, book_in, key_rounds}
use Rattle.claims.specs.Review.{ReadingBuilt, reading_book_in}

-- ---- a valid chain and a key of its size give a book, a valid reading chain a reading book, in every buffer that has room for it

module _ (schedule : ℕ) (k : Schedule) (z : KeySize) (key ch out : List ℕ) (e : Named schedule key k z) where
  pub any_built : Chain z ch → book_length z ≤ length out → Built schedule key ch out (whole_book z (key_rows k z key) ch ++ drop (book_length z) out)
  any_built v h =
      sym (built_done 0 3 schedule key ch out book_length (λ k z. whole_book z (key_rows k z key) ch) k z e v h (whole_book z (key_rows k z key) ch) refl)

  pub any_reading_built : ReadingChain z ch → reading_book_length z ≤ length out
      → ReadingBuilt schedule key ch out (reading_book_of (rounds z) (key_rows k z key) ch ++ drop (reading_book_length z) out)
  any_reading_built v h =
      sym (built_done 3 0 schedule key ch out reading_book_length (λ k z. reading_book_of (rounds z) (key_rows k z key) ch) k z e v h
      (reading_book_of (rounds z) (key_rows k z key) ch) refl)

-- ---- what an answer 0 tells

-- an answer of which the number is 0 is no refusal's
module _ {A : Type 0} (number : A → ℕ) (refuse : ℕ → A) (e : (q : ℕ) → number (refuse q) ≡ q) (go : A) where
  pub not_refused : (ts : List (Bool × ℕ)) → Numbered ts → number (first ts refuse go) ≡ 0 → Clear ts × (first ts refuse go ≡ go)
  unfolding first
  not_refused [] n h = (tt, refl)
  not_refused (t ∷ ts) n h = each t.0 refl (not_refused ts n.1) h
    where
      each : (b : Bool) → t.0 ≡ b → (number (first ts refuse go) ≡ 0 → Clear ts × (first ts refuse go ≡ go))
          → number (cond b (refuse t.1) (first ts refuse go)) ≡ 0 → ((t.0 ≡ false) × Clear ts) × (cond b (refuse t.1) (first ts refuse go) ≡ go)
      each true d k h = let q : t.1 ≡ 0 = sym (e t.1) ∙ h in absurd (omega (arith, n.0))
      each false d k h = let p = k h in ((d, p.0), p.1)

pub clear_front : (a b : List (Bool × ℕ)) → Clear (a ++ b) → Clear a
clear_front [] b c = tt
clear_front (t ∷ a) b c = (c.0, clear_front a b c.1)

-- the size of a key that is not refused
pub size_known : (n : ℕ) → not (eqb n 16 || eqb n 24 || eqb n 32) ≡ false → size_of_key n ≡ Some (key_length_size n)
unfolding size_by key_length_size
size_known n = go (eqb n 16) (eqb n 24) (eqb n 32)
  where
    go : (a b c : Bool) → not (a || b || c) ≡ false
        → cond a (Some Bytes16) (cond b (Some Bytes24) (cond c (Some Bytes32) None)) ≡ Some (cond a Bytes16 (cond b Bytes24 Bytes32))
    go true b c e = refl
    go false true c e = refl
    go false false true e = refl
    go false false false e = let w : ◌≡◌ {A = ℕ} 0 1 = cc in absurd (omega arith)

-- of anything that is built, with any word rule: the part that a key of a size and a chain make by a schedule, of a length that goes with
-- the size
module _ (from to schedule : ℕ) (key ch out held : List ℕ) (len : KeySize → ℕ) (part : Schedule → KeySize → List ℕ)
    (built : built_into from to schedule key ch out len part ≡ (0, held)) where
  numbered : Numbered (build_tests_by from to schedule key ch out len)
  unfolding chain_tests_by
  numbered = (lit< tt, (lit< tt, (lit< tt, (lit< tt, (lit< tt, (lit< tt, (lit< tt, tt)))))))

  parts : Clear (build_tests_by from to schedule key ch out len) × (part (schedule_of schedule) (key_size key) ++ drop (len (key_size key)) out ≡ held)
  unfolding built_into
  parts =
      let done : ℕ × List ℕ = (0, part (schedule_of schedule) (key_size key) ++ drop (len (key_size key)) out) in
      let said = ap (λ (r : ℕ × List ℕ). r.0) built in
      let p = not_refused (λ (r : ℕ × List ℕ). r.0) (λ n. (n, out)) (λ q. refl) done (build_tests_by from to schedule key ch out len) numbered said in
      (p.0, ap (λ (r : ℕ × List ℕ). r.1) (sym p.1 ∙ built))

  pub into_named : Named schedule key (schedule_of schedule) (key_size key)
  into_named = (number_known schedule parts.0.0, size_known (length key) parts.0.1.0)

  pub into_chain : ChainBy from to (key_size key) ch
  into_chain = chain_tested (key_size key) ch (clear_front (chain_tests_by from to (key_size key) ch) (room_tests (len (key_size key)) out) parts.0.1.1)

  pub into_front : length (part (schedule_of schedule) (key_size key)) ≡ len (key_size key) → take (len (key_size key)) held ≡ part (schedule_of schedule) (key_size key)
  into_front e =
      ap (take (len (key_size key))) (sym parts.1) ∙ take_at (part (schedule_of schedule) (key_size key)) (drop (len (key_size key)) out) (len (key_size key)) e

-- a book
pub whole_length : (z : KeySize) (rows : List (List ℕ)) (ch : List ℕ) → length (whole_book z rows ch) ≡ book_length z
whole_length z rows ch = omega (arith, book_size (rounds z) rows ch)

module _ (schedule : ℕ) (key ch out held : List ℕ) (built : Built schedule key ch out held) where
  abbrev book_for : Schedule → KeySize → List ℕ
  book_for k z = whole_book z (key_rows k z key) ch

  pub built_named : Named schedule key (schedule_of schedule) (key_size key)
  built_named = into_named 0 3 schedule key ch out held book_length book_for built

  pub built_chain : Chain (key_size key) ch
  built_chain = into_chain 0 3 schedule key ch out held book_length book_for built

  pub built_is : book_in key held ≡ whole_book (key_size key) (key_rows (schedule_of schedule) (key_size key) key) ch
  built_is = into_front 0 3 schedule key ch out held book_length book_for built (whole_length (key_size key) (key_rows (schedule_of schedule) (key_size key) key) ch)

  pub built_body : book_body (book_in key held) ≡ book_of (key_rounds key) (key_rows (schedule_of schedule) (key_size key) key) ch
  built_body = ap book_body built_is

  pub built_book : Book (key_rounds key) (key_rows (schedule_of schedule) (key_size key) key) ch (book_body (book_in key held))
  built_book =
      let rows = key_rows (schedule_of schedule) (key_size key) key in
      subst (λ (b : List ℕ). Book (key_rounds key) rows ch b) (sym built_body) (book_made (key_rounds key) rows ch)

  -- it is admitted
  pub built_found : admit_answer (book_in key held) ≡ (0, Some (key_size key))
  built_found =
      book_admitted (book_in key held) (key_size key) (ap length built_is ∙ whole_length (key_size key) (key_rows (schedule_of schedule) (key_size key) key) ch)
      (ap (λ (b : List ℕ). get_or b 0 0) built_is)

-- a reading book
module _ (schedule : ℕ) (key ch out held : List ℕ) (built : ReadingBuilt schedule key ch out held) where
  abbrev reading_book_for : Schedule → KeySize → List ℕ
  reading_book_for k z = reading_book_of (rounds z) (key_rows k z key) ch

  pub reading_built_chain : ReadingChain (key_size key) ch
  reading_built_chain = into_chain 3 0 schedule key ch out held reading_book_length reading_book_for built

  pub reading_built_is : reading_book_in key held ≡ reading_book_of (key_rounds key) (key_rows (schedule_of schedule) (key_size key) key) ch
  reading_built_is =
      into_front 3 0 schedule key ch out held reading_book_length reading_book_for built (reading_book_size (key_rounds key) (key_rows (schedule_of schedule) (key_size key) key) ch)

  pub reading_built_book : ReadingBook (key_rounds key) (key_rows (schedule_of schedule) (key_size key) key) ch (reading_book_in key held)
  reading_built_book =
      let r = key_rounds key in
      let rows = key_rows (schedule_of schedule) (key_size key) key in
      subst (λ (b : List ℕ). ReadingBook r rows ch b) (sym reading_built_is) (reading_book_made r rows ch)

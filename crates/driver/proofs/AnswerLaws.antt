-- The answers of the driver, case by case. For each operation the cases exclude each other and leave none out, so each
-- refusal is given exactly under its condition.
use mathlib.Core.Path.{◌≡◌, sym, ap, ap₂, ◌∙◌}
use mathlib.Core.Bool.{true, false, cond, not}
use mathlib.Core.List.{List, [], ◌++◌}
use Prim.Native.Nat.{ℕ, suc, min, ◌+◌, ◌*◌, ◌/◌, ◌≤◌, ◌<◌}
use native.Mathlib.Numerals.{add-one}
use native.Mathlib.Omega.{arith}
use mathlib.Core.Logic.{⊎_elim}
use Rattle.std.proofs.lemmas.Bool.{cases_lt}
use borrow.Author.Tests.{eq-eqb, ne_eqb, le-leb, lt-leb, lt-ltb, le-ltb}
use lib.Dec.{eqb, leb, ltb}
use lib.ListN.{length, take, drop}
use lib.Seq.{take_all}
use Rattle.lists.specs.Blocks.{zeros}
use Rattle.lists.specs.Refusals.{first}
use Rattle.lists.proofs.RefusalLaws.{first_hit, first_pass}
use Rattle.cipher.specs.KeySize.{rounds}
use Rattle.cipher.specs.Tables.{table_round, table_rounds}
use Rattle.cipher.specs.Book.{book_body, start_of, round_at}
use Rattle.cipher.specs.Lengths.{round_length}
use Rattle.cipher.specs.Refusal.{number_of}
use Rattle.cipher.specs.declared.refusal.Refusal.{Refusal}
use Rattle.cipher.specs.Answers.{block_tests, bad_text, text_tests, room_tests}
use Rattle.cipher.specs.declared.size.KeySize.{KeySize}
use Rattle.std.proofs.Common.{Some, None}
use Rattle.cipher.proofs.AnswerLaws.{at_most, at_most_all, block_refused, block_taken_lem, text_known, text_refused, text_taken, room_refused, room_taken}
use Rattle.driver.specs.Driver.{admit_answer, rounds_of, run_round_answer, run_rounds_answer, pass, sealed, seal_answer}
use Rattle.driver.specs.Driver.{fresh, spent, moved, closed, begun_over, begin_answer, kind_tests, finished_tests, full_tests, block_answer, last_answer}
use Rattle.driver.specs.declared.session.Session.{Session}
use Rattle.driver.proofs.PassLaws.{rounds_known}
use Rattle.driver.proofs.AdmitLaws.{admitted_length, book_refused, book_taken}

-- a block that is read whole
pub whole : (b : List ℕ) → length b ≡ 16 → take 16 (drop 0 b) ≡ b
whole b h = take_all 16 b (omega arith)

-- ---- a block by the tables of one round

module _ (t b : List ℕ) where
  pub tables_6 : (length t ≡ round_length → ⊥) → run_round_answer t b ≡ (6, zeros)
  unfolding run_round_answer
  tables_6 h = first_hit (not (eqb (length t) round_length)) 6 (block_tests b) (λ q. (q, zeros)) (0, table_round t b) (ap not (ne_eqb (length t) round_length h))

  module _ (l : length t ≡ round_length) where
    taken : run_round_answer t b ≡ first (block_tests b) (λ q. (q, zeros)) (0, table_round t b)
    unfolding run_round_answer
    taken = first_pass (not (eqb (length t) round_length)) 6 (block_tests b) (λ q. (q, zeros)) (0, table_round t b) (ap not (eq-eqb (length t) round_length l))

    pub tables_7 : (length b ≡ 16 → ⊥) → run_round_answer t b ≡ (7, zeros)
    tables_7 h = taken ∙ block_refused b [] (λ q. (q, zeros)) (0, table_round t b) h

    pub tables_done : length b ≡ 16 → run_round_answer t b ≡ (0, table_round t b)
    unfolding first
    tables_done h = taken ∙ block_taken_lem b [] (λ q. (q, zeros)) (0, table_round t b) h

-- ---- a block by the first n rounds of a book

module _ (bk : List ℕ) (n : ℕ) (b : List ℕ) where
  result : ℕ × List ℕ
  result = (0, table_rounds (round_at (book_body bk)) (cond (leb n (rounds_of (book_body bk))) n (rounds_of (book_body bk))) b)

  pub rounds_no_book : (q : Refusal) → admit_answer bk ≡ (number_of q, None) → run_rounds_answer bk n b ≡ (number_of q, zeros)
  unfolding run_rounds_answer result
  rounds_no_book q e = book_refused bk (block_tests b) (λ q. (q, zeros)) result q e

  module _ (z : KeySize) (e : admit_answer bk ≡ (0, Some z)) where
    pub rounds_7 : (length b ≡ 16 → ⊥) → run_rounds_answer bk n b ≡ (7, zeros)
    unfolding run_rounds_answer result
    rounds_7 h = book_taken bk (block_tests b) (λ q. (q, zeros)) result z e ∙ block_refused b [] (λ q. (q, zeros)) result h

    module _ (h : length b ≡ 16) where
      rounds_taken : run_rounds_answer bk n b ≡ (0, table_rounds (round_at (book_body bk)) (cond (leb n (rounds z)) n (rounds z)) b)
      unfolding run_rounds_answer result first
      rounds_taken =
          book_taken bk (block_tests b) (λ q. (q, zeros)) result z e
          ∙ block_taken_lem b [] (λ q. (q, zeros)) result h
          ∙ ap (λ (r : ℕ). (0, table_rounds (round_at (book_body bk)) (cond (leb n r) n r) b)) (rounds_known z (book_body bk) (admitted_length bk z e))

      pub rounds_some : n ≤ rounds z → run_rounds_answer bk n b ≡ (0, table_rounds (round_at (book_body bk)) n b)
      rounds_some l = rounds_taken ∙ ap (λ (k : ℕ). (0, table_rounds (round_at (book_body bk)) k b)) (at_most n (rounds z) l)

      pub rounds_all : rounds z < n → run_rounds_answer bk n b ≡ (0, table_rounds (round_at (book_body bk)) (rounds z) b)
      rounds_all l = rounds_taken ∙ ap (λ (k : ℕ). (0, table_rounds (round_at (book_body bk)) k b)) (at_most_all n (rounds z) l)

      -- as the code counts them
      pub rounds_made : (k : ℕ) → k ≡ min n (rounds z) → run_rounds_answer bk n b ≡ (0, table_rounds (round_at (book_body bk)) k b)
      rounds_made k d =
          ⊎_elim (λ (l : rounds z < n). rounds_all l ∙ ap (λ (j : ℕ). (0, table_rounds (round_at (book_body bk)) j b)) (omega arith))
          (λ (l : n ≤ rounds z). rounds_some l ∙ ap (λ (j : ℕ). (0, table_rounds (round_at (book_body bk)) j b)) (omega arith)) (cases_lt (rounds z) n)

-- ---- sealing

module _ (bk iv cs out : List ℕ) where
  sealed_into : (ℕ × ℕ) × List ℕ
  sealed_into = ((0, length cs), sealed (book_body bk) iv cs ++ drop (length cs) out)

  left : ℕ → (ℕ × ℕ) × List ℕ
  left q = ((q, 0), out)

  pub seal_no_book : (q : Refusal) → admit_answer bk ≡ (number_of q, None) → seal_answer bk iv cs out ≡ ((number_of q, 0), out)
  unfolding seal_answer sealed_into left
  seal_no_book q e = book_refused bk (block_tests iv ++ (text_tests cs ++ room_tests (length cs) out)) left sealed_into q e

  module _ (z : KeySize) (e : admit_answer bk ≡ (0, Some z)) where
    booked : seal_answer bk iv cs out ≡ first (block_tests iv ++ (text_tests cs ++ room_tests (length cs) out)) left sealed_into
    unfolding seal_answer sealed_into left
    booked = book_taken bk (block_tests iv ++ (text_tests cs ++ room_tests (length cs) out)) left sealed_into z e

    pub seal_7 : (length iv ≡ 16 → ⊥) → seal_answer bk iv cs out ≡ ((7, 0), out)
    unfolding left
    seal_7 h = booked ∙ block_refused iv (text_tests cs ++ room_tests (length cs) out) left sealed_into h

    module _ (l : length iv ≡ 16) where
      begun : seal_answer bk iv cs out ≡ first (text_tests cs ++ room_tests (length cs) out) left sealed_into
      begun = booked ∙ block_taken_lem iv (text_tests cs ++ room_tests (length cs) out) left sealed_into l

      pub seal_8 : bad_text (length cs) ≡ true → seal_answer bk iv cs out ≡ ((8, 0), out)
      unfolding left
      seal_8 h = begun ∙ text_refused cs (room_tests (length cs) out) left sealed_into h

      module _ (d : bad_text (length cs) ≡ false) where
        read : seal_answer bk iv cs out ≡ first (room_tests (length cs) out) left sealed_into
        read = begun ∙ text_taken cs (room_tests (length cs) out) left sealed_into d

        pub seal_9 : length out < length cs → seal_answer bk iv cs out ≡ ((9, 0), out)
        unfolding left
        seal_9 h = read ∙ room_refused (length cs) out left sealed_into h

        pub seal_done : length cs ≤ length out → seal_answer bk iv cs out ≡ ((0, length cs), sealed (book_body bk) iv cs ++ drop (length cs) out)
        unfolding sealed_into
        seal_done h = read ∙ room_taken (length cs) out left sealed_into h

        -- as the code makes it
        pub seal_made : length cs ≤ length out → (t x : List ℕ) → t ≡ book_body bk → x ≡ take 16 (drop 0 iv) → (o : List ℕ)
            → o ≡ sealed t x cs ++ drop (16 * (length cs / 16)) out
            → ((0, length cs), o) ≡ seal_answer bk iv cs out
        seal_made h t x et ex o eo =
            let n : 16 * (length cs / 16) ≡ length cs = omega (arith, (text_known (length cs) d).2) in
            let y = ex ∙ whole iv l in
            ap (λ (l : List ℕ). ((0, length cs), l)) (eo ∙ (λ i. sealed (et i) (y i) cs ++ drop (n i) out))
            ∙ sym (seal_done h)

-- ---- beginning

pub over_no_book : (bk : List ℕ) (s : Session) → (q : Refusal) → admit_answer bk ≡ (number_of q, None) → begun_over bk s ≡ (number_of q, s)
unfolding begun_over
over_no_book bk s q e = book_refused bk [] (λ q. (q, s)) (0, fresh (start_of (book_body bk))) q e

pub over_done : (bk : List ℕ) (s : Session) (z : KeySize) → admit_answer bk ≡ (0, Some z) → begun_over bk s ≡ (0, fresh (start_of (book_body bk)))
unfolding begun_over first
over_done bk s z e = book_taken bk [] (λ q. (q, s)) (0, fresh (start_of (book_body bk))) z e

pub begin_done : (bk : List ℕ) (z : KeySize) → admit_answer bk ≡ (0, Some z) → begin_answer bk ≡ (0, fresh (start_of (book_body bk)))
unfolding begin_answer
begin_done bk z e = over_done bk spent z e

-- ---- a block call

module _ (bk m : List ℕ) (s : Session) where
  kept : ℕ → ℕ × Session
  kept q = (q, s)

  next : ℕ × Session
  next = (0, moved s (pass (book_body bk) 0 s.block m))

  pub block_no_book : (q : Refusal) → admit_answer bk ≡ (number_of q, None) → block_answer bk m s ≡ (number_of q, s)
  unfolding block_answer kept next
  block_no_book q e = book_refused bk (block_tests m ++ (finished_tests s ++ full_tests s)) kept next q e

  module _ (z : KeySize) (e : admit_answer bk ≡ (0, Some z)) where
    block_booked : block_answer bk m s ≡ first (block_tests m ++ (finished_tests s ++ full_tests s)) kept next
    unfolding block_answer kept next
    block_booked = book_taken bk (block_tests m ++ (finished_tests s ++ full_tests s)) kept next z e

    pub block_7 : (length m ≡ 16 → ⊥) → block_answer bk m s ≡ (7, s)
    unfolding kept
    block_7 h = block_booked ∙ block_refused m (finished_tests s ++ full_tests s) kept next h

    module _ (l : length m ≡ 16) where
      block_read : block_answer bk m s ≡ first (finished_tests s ++ full_tests s) kept next
      block_read = block_booked ∙ block_taken_lem m (finished_tests s ++ full_tests s) kept next l

      pub block_21 : s.finished ≡ true → block_answer bk m s ≡ (21, s)
      unfolding kept
      block_21 h = block_read ∙ first_hit s.finished 21 (full_tests s) kept next h

      module _ (d : s.finished ≡ false) where
        block_open : block_answer bk m s ≡ first (full_tests s) kept next
        block_open = block_read ∙ first_pass s.finished 21 (full_tests s) kept next d

        pub block_22 : 65535 ≤ s.taken → block_answer bk m s ≡ (22, s)
        unfolding kept
        block_22 h = block_open ∙ first_hit (leb 65535 s.taken) 22 [] kept next (le-leb 65535 s.taken h)

        pub block_done : s.taken < 65535 → block_answer bk m s ≡ (0, moved s (pass (book_body bk) 0 s.block m))
        unfolding next first
        block_done h = block_open ∙ first_pass (leb 65535 s.taken) 22 [] kept next (lt-leb 65535 s.taken h)

        -- as the code makes it
        pub block_made : s.taken < 65535 → (t b x : List ℕ) → t ≡ book_body bk → b ≡ take 16 (drop 0 m) → x ≡ pass t 0 s.block b
            → ◌≡◌ {A = ℕ × Session} (0, record { block = x; taken = s.taken + 1; finished = s.finished }) (block_answer bk m s)
        block_made h t b x et eb ex =
            let e : x ≡ pass (book_body bk) 0 s.block m = ex ∙ ap₂ (λ (y n : List ℕ). pass y 0 s.block n) et (eb ∙ whole m l) in
            (λ i. (0, record { block = e i; taken = add-one s.taken i; finished = s.finished })) ∙ sym (block_done h)

-- ---- a last call

module _ (bk m : List ℕ) (k : ℕ) (s : Session) where
  without : ℕ → (ℕ × List ℕ) × Session
  without q = ((q, zeros), s)

  tagged : (ℕ × List ℕ) × Session
  tagged = ((0, pass (book_body bk) (suc k) s.block m), closed s)

  pub last_no_book : (q : Refusal) → admit_answer bk ≡ (number_of q, None) → last_answer bk m k s ≡ ((number_of q, zeros), s)
  unfolding last_answer without tagged
  last_no_book q e = book_refused bk (block_tests m ++ (kind_tests k ++ finished_tests s)) without tagged q e

  module _ (z : KeySize) (e : admit_answer bk ≡ (0, Some z)) where
    last_booked : last_answer bk m k s ≡ first (block_tests m ++ (kind_tests k ++ finished_tests s)) without tagged
    unfolding last_answer without tagged
    last_booked = book_taken bk (block_tests m ++ (kind_tests k ++ finished_tests s)) without tagged z e

    pub last_7 : (length m ≡ 16 → ⊥) → last_answer bk m k s ≡ ((7, zeros), s)
    unfolding without
    last_7 h = last_booked ∙ block_refused m (kind_tests k ++ finished_tests s) without tagged h

    module _ (l : length m ≡ 16) where
      last_read : last_answer bk m k s ≡ first (kind_tests k ++ finished_tests s) without tagged
      last_read = last_booked ∙ block_taken_lem m (kind_tests k ++ finished_tests s) without tagged l

      pub last_10 : 1 < k → last_answer bk m k s ≡ ((10, zeros), s)
      unfolding without
      last_10 h = last_read ∙ first_hit (ltb 1 k) 10 (finished_tests s) without tagged (lt-ltb 1 k h)

      module _ (b : k ≤ 1) where
        last_kind : last_answer bk m k s ≡ first (finished_tests s) without tagged
        last_kind = last_read ∙ first_pass (ltb 1 k) 10 (finished_tests s) without tagged (le-ltb 1 k b)

        pub last_21 : s.finished ≡ true → last_answer bk m k s ≡ ((21, zeros), s)
        unfolding without
        last_21 h = last_kind ∙ first_hit s.finished 21 [] without tagged h

        pub last_done : s.finished ≡ false → last_answer bk m k s ≡ ((0, pass (book_body bk) (suc k) s.block m), closed s)
        unfolding tagged first
        last_done h = last_kind ∙ first_pass s.finished 21 [] without tagged h

        -- as the code makes it
        pub last_made : s.finished ≡ false → (t b x : List ℕ) → t ≡ book_body bk → b ≡ take 16 (drop 0 m) → x ≡ pass t (k + 1) s.block b
            → ◌≡◌ {A = (ℕ × List ℕ) × Session} ((0, x), record { block = s.block; taken = s.taken; finished = true }) (last_answer bk m k s)
        last_made h t b x et eb ex =
            let n = eb ∙ whole m l in
            let e : x ≡ pass (book_body bk) (suc k) s.block m = ex ∙ (λ i. pass (et i) (add-one k i) s.block (n i)) in
            ap (λ (y : List ℕ). ((0, y), closed s)) e ∙ sym (last_done h)

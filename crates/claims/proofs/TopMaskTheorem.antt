-- No output depends on the masks at half byte 0 (document 02, 2026-06): books that differ in their top entries alone, and there not in the
-- lower four bits, have the same tests, start, rounds and folds, and so the same answers.
use Rattle.std.proofs.Common.{None}
use mathlib.Core.Path.{◌≡◌, refl, sym, ap, ap₂, ◌∙◌, subst}
use mathlib.Core.Bool.{cond, not}
use mathlib.Core.List.{List, [], ◌∷◌, ◌++◌, flatten}
use Prim.Native.Nat.{ℕ, zero, suc, ◌+◌, ◌-◌, ◌*◌, ◌/◌, ◌<◌}
use native.Mathlib.Omega.{arith}
use lib.Dec.{eqb, leb}
use lib.ListN.{length, get_or, take, drop, length-drop}
use lib.Seq.{get_or-drop}
use Rattle.lists.specs.Blocks.{zeros, blocks, each_after}
use Rattle.lists.specs.Refusals.{first}
use Rattle.cipher.specs.Lengths.{fold_length, body_start, start_length, group_length, round_length, rounds_start}
use Rattle.cipher.specs.KeySize.{size_of_book}
use Rattle.cipher.specs.Schedules.{key_rows}
use Rattle.cipher.specs.Coding.{block_half}
use Rattle.cipher.specs.Tables.{RoundCodings, table_rounds, fold_half, table_fold}
use Rattle.cipher.specs.Chain.{round_codings}
use Rattle.cipher.specs.Book.{book_round, book_body, start_of, group_at, round_at}
use Rattle.cipher.specs.Answers.{schedule_of, key_size, block_tests, text_tests, room_tests}
use Rattle.cipher.proofs.CodingLaws.{of_halves_ext}
use Rattle.cipher.proofs.BookLaw.{round_size, round_made}
use Rattle.reading.specs.Tables.{read_round, read_rounds}
use Rattle.reading.specs.Book.{row_back, reading_book_round, reading_round_at, reading_group_at}
use Rattle.reading.specs.Shown.{read_block, read_text}
use Rattle.reading.proofs.ReadingBookLaw.{reading_made}
use Rattle.driver.specs.Driver.{book_tests, admit_answer, rounds_of, run_round_answer, run_rounds_answer, pass, passed_from, seal_answer, fresh, spent, moved, closed, begun_over, begin_answer}
use Rattle.driver.specs.Driver.{kind_tests, finished_tests, full_tests, block_answer, last_answer}
use Rattle.driver.specs.declared.session.Session.{Session}
use Rattle.reader.specs.Answers.{reading_book_tests, reading_rounds_of, read_answer}
use Rattle.claims.specs.Model.{Call, block_call, last_call}
use Rattle.claims.specs.Calls.{block_reply, last_reply, driver_call, run, driver_answers}
use Rattle.claims.specs.Built.{Built, book_in, key_rounds}
use Rattle.claims.specs.Review.{ReadingBuilt, reading_book_in}
use Rattle.claims.specs.TopMasks.{TopEntry, TopReadingEntry, ButTopMasks, SameLow, ButTops, SameAnswers, SameRead, TopMaskLaws}
use Rattle.claims.proofs.BuiltLaws.{built_chain, built_is, reading_built_chain, reading_built_is}
use Rattle.claims.proofs.TopUnread.{LikeRound, same_round, same_rounds, LikeReading, same_reading, same_readings}
use Rattle.claims.proofs.TopEntries.{Alike, same_rest, alike, low, add_low, add_same, subtract_low, subtract_same, turn_same, turn_back_same, books_alike, reading_books_alike}

-- ---- parts of two such books

-- the lower four bits are the same everywhere
abbrev LowAlike : List ℕ → List ℕ → Type 0
LowAlike t t' = (k : ℕ) → SameLow (get_or t k 0) (get_or t' k 0)

low_part : (bk bk' : List ℕ) (n : ℕ) → LowAlike bk bk' → LowAlike (drop n bk) (drop n bk')
low_part bk bk' n h k = low (get_or-drop n bk k 0) ∙ h (n + k) ∙ sym (low (get_or-drop n bk' k 0))

front_same : (n : ℕ) (a b : List ℕ) → length a ≡ length b → ((k : ℕ) → k < n → get_or a k 0 ≡ get_or b k 0) → take n a ≡ take n b
front_same zero a b l e = refl
front_same (suc n) [] [] l e = refl
front_same (suc n) [] (y ∷ b) l e = absurd (omega arith)
front_same (suc n) (x ∷ a) [] l e = absurd (omega arith)
front_same (suc n) (x ∷ a) (y ∷ b) l e =
    ap₂ {C = List ℕ} (λ (u : ℕ) (v : List ℕ). u ∷ v) (e 0 (omega arith)) (front_same n a b (omega arith) (λ k h. e (suc k) (omega arith)))

-- an entry of a table below the top one is no top entry: of rounds l and l', sums i and i', entries n and n'
no_top : (l l' i i' j n n' : ℕ) → i < 3 → i' < 3 → j < 7 → n < 512 → n' < 512
    → round_length * l + (512 * (8 * i + j) + n) ≡ round_length * l' + (512 * (8 * i' + 7) + n') → ⊥
no_top l l' i i' j n n' hi hi' hj hn hn' e =
    let s = same_rest round_length l l' (512 * (8 * i + j) + n) (512 * (8 * i' + 7) + n') (omega arith) (omega arith) (omega arith) in
    let q = same_rest 4096 i i' (512 * j + n) (3584 + n') (omega arith) (omega arith) (omega arith) in
    omega arith

-- folds use the lower four bits alone
fold_same : (t t' : List ℕ) → LowAlike t t' → (x m : List ℕ) → table_fold t x m ≡ table_fold t' x m
unfolding table_fold fold_half
fold_same t t' h x m =
    of_halves_ext (fold_half t x m) (fold_half t' x m) (λ w j hw hj. h (fold_length * (8 * w + j) + (16 * block_half x w j + block_half m w j)))

-- ---- books of a driver

module _ (bk bk' : List ℕ) (h : ButTops TopEntry bk bk') where
  low_body : LowAlike (book_body bk) (book_body bk')
  low_body = low_part bk bk' body_start h.low

  byte_of_body : (k : ℕ) → (TopEntry (suc k) → ⊥) → get_or (book_body bk) k 0 ≡ get_or (book_body bk') k 0
  byte_of_body k d =
      let e : body_start + k ≡ suc k = omega arith in
      let s = h.others (suc k) d in
      get_or-drop body_start bk k 0 ∙ (rw (sym e) at s) ∙ sym (get_or-drop body_start bk' k 0)

  length_same : length (book_body bk) ≡ length (book_body bk')
  length_same = length-drop body_start bk ∙ ap (λ (n : ℕ). n - body_start) h.size ∙ sym (length-drop body_start bk')

  tests_same : book_tests bk ≡ book_tests bk'
  tests_same = rw (h.size, h.others 0 (λ t. omega (arith, t.5)))

  start_same : start_of (book_body bk) ≡ start_of (book_body bk')
  start_same = front_same start_length (book_body bk) (book_body bk') length_same (λ k l. byte_of_body k (λ t. omega (arith, t.5)))

  count_same : rounds_of (book_body bk) ≡ rounds_of (book_body bk')
  unfolding rounds_of
  count_same = ap (λ (n : ℕ). (n - rounds_start) / round_length) length_same

  like_round : (l : ℕ) → LikeRound (round_at (book_body bk) l) (round_at (book_body bk') l)
  like_round l = record {
    adds = λ i j n hi hj hn.
        get_or-drop o (book_body bk) (512 * (8 * i + j) + n) 0
        ∙ byte_of_body (o + (512 * (8 * i + j) + n)) (λ t. no_top l t.0 i t.1 j n t.2 hi t.3 hj hn t.4 (omega (arith, t.5)))
        ∙ sym (get_or-drop o (book_body bk') (512 * (8 * i + j) + n) 0);
    add_lows = λ i j n hi hj hn. lows (512 * (8 * i + j) + n);
    turn_lows = λ i j n hi hj hn. lows (12288 + 256 * (8 * i + j) + n);
  }
    where
      o : ℕ
      o = rounds_start + round_length * l

      lows : LowAlike (round_at (book_body bk) l) (round_at (book_body bk') l)
      lows = low_part (book_body bk) (book_body bk') (rounds_start + round_length * l) low_body

  body_rounds : (n : ℕ) (b : List ℕ) → table_rounds (round_at (book_body bk)) n b ≡ table_rounds (round_at (book_body bk')) n b
  body_rounds = same_rounds (round_at (book_body bk)) (round_at (book_body bk')) like_round

  pass_same : (g : ℕ) (x m : List ℕ) → pass (book_body bk) g x m ≡ pass (book_body bk') g x m
  unfolding pass
  pass_same g x m =
      body_rounds (rounds_of (book_body bk)) (table_fold (group_at (book_body bk) g) x m)
      ∙ ap₂ (table_rounds (round_at (book_body bk'))) count_same
      (fold_same (group_at (book_body bk) g) (group_at (book_body bk') g) (low_part (book_body bk) (book_body bk') (start_length + group_length * g) low_body) x m)

  -- ---- the operations
  admitted_same : admit_answer bk ≡ admit_answer bk'
  unfolding admit_answer
  admitted_same = (λ i. first (tests_same i) (λ q. (q, None)) (0, size_of_book (h.size i)))

  rounds_answer_lem : (n : ℕ) (b : List ℕ) → run_rounds_answer bk n b ≡ run_rounds_answer bk' n b
  unfolding run_rounds_answer
  rounds_answer_lem n b =
      (λ i. first (tests_same i ++ block_tests b) (λ q. (q, zeros)) (0, body_rounds (cond (leb n (count_same i)) n (count_same i)) b i))

  seal_answer_lem : (iv coded out : List ℕ) → seal_answer bk iv coded out ≡ seal_answer bk' iv coded out
  unfolding seal_answer
  seal_answer_lem iv coded out =
      (λ i. first (tests_same i ++ (block_tests iv ++ (text_tests coded ++ room_tests (length coded) out))) (λ q. ((q, 0), out))
      ((0, length coded), flatten (passed_from (λ x m. pass_same 0 x m i) iv (blocks coded)) ++ drop (length coded) out))

  begun_answer : (s : Session) → begun_over bk s ≡ begun_over bk' s
  unfolding begun_over
  begun_answer s = (λ i. first (tests_same i) (λ q. (q, s)) (0, fresh (start_same i)))

  block_answer_lem : (m : List ℕ) (s : Session) → block_answer bk m s ≡ block_answer bk' m s
  unfolding block_answer
  block_answer_lem m s =
      (λ i. first (tests_same i ++ (block_tests m ++ (finished_tests s ++ full_tests s))) (λ q. (q, s)) (0, moved s (pass_same 0 s.block m i)))

  last_answer_lem : (m : List ℕ) (k : ℕ) (s : Session) → last_answer bk m k s ≡ last_answer bk' m k s
  unfolding last_answer
  last_answer_lem m k s =
      (λ i. first (tests_same i ++ (block_tests m ++ (kind_tests k ++ finished_tests s))) (λ q. ((q, zeros), s))
      ((0, pass_same (suc k) s.block m i), closed s))

  call_answer : (c : Call) (s : Session) → driver_call bk c s ≡ driver_call bk' c s
  unfolding driver_call
  call_answer (block_call m) s = ap block_reply (block_answer_lem m s)
  call_answer (last_call m k) s = ap last_reply (last_answer_lem m k s)

  all_answers : (cs : List Call) → driver_answers bk cs ≡ driver_answers bk' cs
  unfolding driver_answers begin_answer
  all_answers cs = (λ i. run (λ c s. call_answer c s i) cs (begun_answer spent i).1)

  same_answers : SameAnswers bk bk'
  same_answers = record { admitted = admitted_same; after_rounds = rounds_answer_lem; sealing = seal_answer_lem; begun = begun_answer; calls = call_answer; answers = all_answers }

-- ---- reading books

module _ (bk bk' : List ℕ) (h : ButTops TopReadingEntry bk bk') where
  like_reading : (l : ℕ) → LikeReading (reading_round_at bk l) (reading_round_at bk' l)
  like_reading l = record {
    subtracts = λ i j n hi hj hn.
        get_or-drop (round_length * l) bk (6144 + 512 * (8 * i + j) + n) 0
        ∙ h.others (round_length * l + (6144 + 512 * (8 * i + j) + n)) (λ t. no_top l t.0 i t.1 j n t.2 hi t.3 hj hn t.4 (omega (arith, t.5)))
        ∙ sym (get_or-drop (round_length * l) bk' (6144 + 512 * (8 * i + j) + n) 0);
    subtract_lows = λ i j n hi hj hn. lows (6144 + 512 * (8 * i + j) + n);
    turn_lows = λ i j n hi hj hn. lows (256 * (8 * i + j) + n);
  }
    where
      lows : LowAlike (reading_round_at bk l) (reading_round_at bk' l)
      lows = low_part bk bk' (round_length * l) h.low

  block_read : (r : ℕ) (before c : List ℕ) → read_block bk r before c ≡ read_block bk' r before c
  unfolding read_block
  block_read r before c =
      fold_same (reading_group_at r bk) (reading_group_at r bk') (low_part bk bk' (round_length * r) h.low) (read_rounds (reading_round_at bk) r c) before
      ∙ ap (λ (x : List ℕ). table_fold (reading_group_at r bk') x before)
      (same_readings (reading_round_at bk) (reading_round_at bk') like_reading r c)

  count_read : reading_rounds_of bk ≡ reading_rounds_of bk'
  unfolding reading_rounds_of
  count_read = rw h.size

  tests_read : reading_book_tests bk ≡ reading_book_tests bk'
  tests_read = rw h.size

  same_read : SameRead bk bk'
  unfolding read_answer read_text
  same_read iv sealed out =
      (λ i. first (tests_read i ++ (block_tests iv ++ (text_tests sealed ++ room_tests (length sealed) out))) (λ q. ((q, 0), out))
      ((0, length sealed), flatten (each_after (λ before c. block_read (count_read i) before c i) iv (blocks sealed)) ++ drop (length sealed) out))

-- ---- the tables of one round, from any rows and any codings

module _ (r : ℕ) (rows : List (List ℕ)) (ch ch' : List ℕ) (d : ButTopMasks r ch ch') (l : ℕ) (hl : l < r) where
  abbrev c : RoundCodings
  c = round_codings r ch l

  abbrev c' : RoundCodings
  c' = round_codings r ch' l

  a : Alike c c'
  a = alike r ch ch' d l hl

  like_sealed : LikeRound (book_round r rows ch l) (book_round r rows ch' l)
  unfolding book_round
  like_sealed =
      let k = get_or rows l [] in
      let t = round_made c k in
      let t' = round_made c' k in
      record {
        adds = λ i j n hi hj hn. t.adds i j n hi (omega arith) hn ∙ add_same c c' a k i j n hi (omega arith) hj ∙ sym (t'.adds i j n hi (omega arith) hn);
        add_lows = λ i j n hi hj hn. low (t.adds i j n hi hj hn) ∙ add_low c c' a k i j n hi hj ∙ sym (low (t'.adds i j n hi hj hn));
        turn_lows = λ i j n hi hj hn. low (t.turns i j n hi hj hn ∙ turn_same c c' a i j n hi hj ∙ sym (t'.turns i j n hi hj hn));
      }

  size : length (book_round r rows ch l) ≡ length (book_round r rows ch' l)
  unfolding book_round
  size = round_size c (get_or rows l []) ∙ sym (round_size c' (get_or rows l []))

  one_round : (b : List ℕ) → run_round_answer (book_round r rows ch l) b ≡ run_round_answer (book_round r rows ch' l) b
  unfolding run_round_answer
  one_round b =
      (λ i. first ((not (eqb (size i) round_length), 6) ∷ block_tests b) (λ q. (q, zeros)) (0, same_round (book_round r rows ch l) (book_round r rows ch' l) like_sealed b i))

  like_read : LikeReading (reading_book_round r rows ch l) (reading_book_round r rows ch' l)
  unfolding reading_book_round
  like_read =
      let k = row_back r rows l in
      let t = reading_made c k in
      let t' = reading_made c' k in
      record {
        subtracts = λ i j n hi hj hn.
            t.subtracts i j n hi (omega arith) hn ∙ subtract_same c c' a k i j n hi (omega arith) hj ∙ sym (t'.subtracts i j n hi (omega arith) hn);
        subtract_lows = λ i j n hi hj hn. low (t.subtracts i j n hi hj hn) ∙ subtract_low c c' a k i j n hi hj ∙ sym (low (t'.subtracts i j n hi hj hn));
        turn_lows = λ i j n hi hj hn. low (t.turns i j n hi hj hn ∙ turn_back_same c c' a i j n hi hj ∙ sym (t'.turns i j n hi hj hn));
      }

  one_reading : (b : List ℕ) → read_round (reading_book_round r rows ch l) b ≡ read_round (reading_book_round r rows ch' l) b
  one_reading b = same_reading (reading_book_round r rows ch l) (reading_book_round r rows ch' l) like_read b

-- ---- what is built

named : (Top : ℕ → Type 0) (a b x y : List ℕ) → x ≡ a → y ≡ b → ButTops Top a b → ButTops Top x y
named Top a b x y ex ey h = subst (λ (u : List ℕ). ButTops Top u y) (sym ex) (subst (λ (u : List ℕ). ButTops Top a u) (sym ey) h)

module _ (schedule : ℕ) (key ch ch' out out' held held' : List ℕ) (d : ButTopMasks (key_rounds key) ch ch') where
  built_same : Built schedule key ch out held → Built schedule key ch' out' held' → SameAnswers (book_in key held) (book_in key held')
  built_same b b' =
      let alike = books_alike (key_size key) (key_rows (schedule_of schedule) (key_size key) key) ch ch' (built_chain schedule key ch out held b).codings d in
      same_answers (book_in key held) (book_in key held') (named TopEntry _ _ _ _ (built_is schedule key ch out held b) (built_is schedule key ch' out' held' b') alike)

  reading_built_same : ReadingBuilt schedule key ch out held → ReadingBuilt schedule key ch' out' held' → SameRead (reading_book_in key held) (reading_book_in key held')
  reading_built_same b b' =
      let alike = reading_books_alike (key_size key) (key_rows (schedule_of schedule) (key_size key) key) ch ch' (reading_built_chain schedule key ch out held b).codings d in
      same_read (reading_book_in key held) (reading_book_in key held')
      (named TopReadingEntry _ _ _ _ (reading_built_is schedule key ch out held b) (reading_built_is schedule key ch' out' held' b') alike)

pub top_masks : TopMaskLaws
top_masks = record {
  round = one_round;
  reading_round = one_reading;
  books = books_alike;
  reading_books = reading_books_alike;
  same = same_answers;
  same_read = same_read;
  built = built_same;
  reading_built = reading_built_same;
}

-- The answers of the operations on a key and a block, case by case. The cases exclude each other and leave none out, so
-- each refusal is given exactly under its condition.
use Rattle.std.proofs.Common.{◌≡◌, ℕ, ◌%◌, ◌<◌, ◌≤◌, Bool, true, false, cond, not, ◌||◌, eqb, ltb, leb, List, [], ◌++◌, length, sym, refl, ap, ◌∙◌, arith, lit<, ltb-false, le-ltb, lt-ltb, eq-eqb, ne_eqb, eqb-true, le-leb, Option, Some, None, Err}
use borrow.Author.Tests.{eqb-false, lt-leb}
use Rattle.lists.specs.Blocks.{zeros}
use Rattle.lists.specs.Refusals.{first}
use Rattle.lists.proofs.RefusalLaws.{first_hit, first_pass}
use Rattle.cipher.specs.KeySize.{key_length, size_of_key}
use Rattle.words.specs.Word.{words4, bytes}
use Rattle.cipher.specs.Schedules.{schedule_found, Named, key_of, key_read, key_rows}
use Rattle.cipher.specs.Answers.{key_length_tests, key_tests, block_tests, bad_text, text_tests, room_tests, schedule_of, key_length_size, key_size, on_block}
use Rattle.cipher.specs.Refusal.{number_of}
use Rattle.cipher.specs.declared.refusal.Refusal.{Refusal}
use Rattle.cipher.specs.declared.refusal.Refusal.TheVariants.{KeyLength, ChainLength, NoPermutation, WordRule, MaskByte, BookLength, BlockLength, MessageLength, ShortBuffer}
use Rattle.cipher.specs.declared.refusal.Refusal.TheVariants.{KindByte, BadPadding, SessionFinished, SessionFull, BadRecord, RecordLength, ShortRandom, SizeByte, ScheduleNumber}
use Rattle.cipher.specs.declared.size.KeySize.{KeySize}
use Rattle.cipher.specs.declared.size.KeySize.TheVariants.{Bytes16, Bytes24, Bytes32}
use Rattle.cipher.specs.declared.schedules.Schedule.{Schedule}
use Rattle.cipher.proofs.KeySizeLaws.{found_length, none_of, one_of}
use Rattle.cipher.proofs.SchedulesLaws.{number_refused, number_taken}

-- the lesser of n and r, as `rounds_answer` has it
pub at_most : (n r : ℕ) → n ≤ r → cond (leb n r) n r ≡ n
at_most n r h = rw (le-leb n r h)

pub at_most_all : (n r : ℕ) → r < n → cond (leb n r) n r ≡ r
at_most_all n r h = rw (lt-leb n r h)

-- refusal 1
abbrev bad_key : ℕ → Bool
bad_key n = not (eqb n 16 || eqb n 24 || eqb n 32)

size_is : (n : ℕ) (z : KeySize) → n ≡ key_length z → key_length_size n ≡ z
unfolding key_length_size
size_is n Bytes16 e = rw e
size_is n Bytes24 e = rw e
size_is n Bytes32 e = rw e

-- the test on the length of a key, and then those of `ts`, which may know its size
module _ {A : Type 0} (n : ℕ) (ts : KeySize → List (Bool × ℕ)) (refuse : ℕ → A) (go : KeySize → A) where
  pub length_refused : size_of_key n ≡ None → first (key_length_tests n ++ ts (key_length_size n)) refuse (go (key_length_size n)) ≡ refuse 1
  length_refused e = first_hit (bad_key n) 1 (ts (key_length_size n)) refuse (go (key_length_size n)) (none_of key_length n e)

  pub length_taken : (z : KeySize) → size_of_key n ≡ Some z
      → first (key_length_tests n ++ ts (key_length_size n)) refuse (go (key_length_size n)) ≡ first (ts z) refuse (go z)
  length_taken z e =
      let l = found_length key_length n z e in
      first_pass (bad_key n) 1 (ts (key_length_size n)) refuse (go (key_length_size n)) (one_of key_length n z l)
      ∙ ap (λ (y : KeySize). first (ts y) refuse (go y)) (size_is n z l)

-- the tests on a schedule's number and on a key, and then those of `ts`, which may know both
module _ {A : Type 0} (s : ℕ) (key : List ℕ) (ts : Schedule → KeySize → List (Bool × ℕ)) (refuse : ℕ → A) (go : Schedule → KeySize → A) where
  pub schedule_refused : schedule_found s ≡ None
      → first (key_tests s key ++ ts (schedule_of s) (key_size key)) refuse (go (schedule_of s) (key_size key)) ≡ refuse 34
  schedule_refused e = first_hit _ 34 _ refuse _ (number_refused s e)

  module _ (k : Schedule) (e : schedule_found s ≡ Some k) where
    numbered : first (key_tests s key ++ ts (schedule_of s) (key_size key)) refuse (go (schedule_of s) (key_size key))
        ≡ first (key_length_tests (length key) ++ ts k (key_size key)) refuse (go k (key_size key))
    numbered =
        first_pass _ 34 _ refuse _ (number_taken s k e).0
        ∙ ap (λ (y : Schedule). first (key_length_tests (length key) ++ ts y (key_size key)) refuse (go y (key_size key))) (number_taken s k e).1

    pub key_refused : size_of_key (length key) ≡ None
        → first (key_tests s key ++ ts (schedule_of s) (key_size key)) refuse (go (schedule_of s) (key_size key)) ≡ refuse 1
    key_refused f = numbered ∙ length_refused (length key) (ts k) refuse (go k) f

  pub key_taken : (k : Schedule) (z : KeySize) → Named s key k z
      → first (key_tests s key ++ ts (schedule_of s) (key_size key)) refuse (go (schedule_of s) (key_size key)) ≡ first (ts k z) refuse (go k z)
  key_taken k z n = numbered k n.0 ∙ length_taken (length key) (ts k) refuse (go k) z n.1

-- the same by what is told of number and key together
module _ {A : Type 0} (s : ℕ) (key : List ℕ) (ts : Schedule → KeySize → List (Bool × ℕ)) (refuse : ℕ → A) (go : Schedule → KeySize → A) (q : Refusal) where
  pub kind_refused : Err q ≡ key_read s key
      → first (key_tests s key ++ ts (schedule_of s) (key_size key)) refuse (go (schedule_of s) (key_size key)) ≡ refuse (number_of q)
  unfolding key_of
  kind_refused = each (schedule_found s) refl (size_of_key (length key)) refl
    where
      each : (a : Option Schedule) → schedule_found s ≡ a → (b : Option KeySize) → size_of_key (length key) ≡ b → Err q ≡ key_of a b key
          → first (key_tests s key ++ ts (schedule_of s) (key_size key)) refuse (go (schedule_of s) (key_size key)) ≡ refuse (number_of q)
      each None p b n e =
          let w : q ≡ ScheduleNumber = cc in
          schedule_refused s key ts refuse go p ∙ ap (λ (x : Refusal). refuse (number_of x)) (sym w)
      each (Some k) p None n e =
          let w : q ≡ KeyLength = cc in
          key_refused s key ts refuse go k p n ∙ ap (λ (x : Refusal). refuse (number_of x)) (sym w)
      each (Some k) p (Some z) n e = let w : ◌≡◌ {A = ℕ} 0 1 = cc in absurd (omega arith)

module _ (s : ℕ) (key b : List ℕ) (f : Schedule → KeySize → List ℕ) where
  made : Schedule → KeySize → ℕ × List ℕ
  made k z = (0, f k z)

  pub on_schedule : schedule_found s ≡ None → on_block s key b f ≡ (34, zeros)
  unfolding on_block made
  on_schedule e = schedule_refused s key (λ k z. block_tests b) (λ n. (n, zeros)) made e

  pub on_key : (k : Schedule) → schedule_found s ≡ Some k → size_of_key (length key) ≡ None → on_block s key b f ≡ (1, zeros)
  unfolding on_block made
  on_key k e h = key_refused s key (λ k z. block_tests b) (λ n. (n, zeros)) made k e h

  pub on_refused : (q : Refusal) → Err q ≡ key_read s key → on_block s key b f ≡ (number_of q, zeros)
  unfolding on_block made
  on_refused q e = kind_refused s key (λ k z. block_tests b) (λ n. (n, zeros)) made q e

  module _ (k : Schedule) (z : KeySize) (e : Named s key k z) where
    keyed : on_block s key b f ≡ first (block_tests b) (λ n. (n, zeros)) (0, f k z)
    unfolding on_block made
    keyed = key_taken s key (λ k z. block_tests b) (λ n. (n, zeros)) made k z e

    pub on_length : (length b ≡ 16 → ⊥) → on_block s key b f ≡ (7, zeros)
    on_length h = keyed ∙ first_hit (not (eqb (length b) 16)) 7 [] (λ n. (n, zeros)) (0, f k z) (ap not (ne_eqb (length b) 16 h))

    pub on_done : length b ≡ 16 → on_block s key b f ≡ (0, f k z)
    unfolding first
    on_done h = keyed ∙ first_pass (not (eqb (length b) 16)) 7 [] (λ n. (n, zeros)) (0, f k z) (ap not (eq-eqb (length b) 16 h))

-- the same where `go` made the block of x from w by n of the key's rows, n being what `count` says for the size
module _ (go : List (List ℕ) → ℕ → List ℕ → List ℕ) (count : KeySize → ℕ) (s : ℕ) (key b : List ℕ) (k : Schedule) (z : KeySize) where
  pub on_rows : Named s key k z → length b ≡ 16 → (a : ℕ × List ℕ) (x w : List ℕ) (rows : List (List ℕ)) (n : ℕ)
      → a ≡ (0, bytes x) → x ≡ go rows n w → rows ≡ key_rows k z key → w ≡ words4 b → n ≡ count z
      → a ≡ on_block s key b (λ j y. bytes (go (key_rows j y key) (count y) (words4 b)))
  on_rows e h a x w rows n ea ex er ew en =
      ea
      ∙ ap (λ (v : List ℕ). (0, bytes v)) (ex ∙ (λ i. go (er i) (en i) (ew i)))
      ∙ sym (on_done s key b (λ j y. bytes (go (key_rows j y key) (count y) (words4 b))) k z e h)

-- the test on a block, and then those of `ts`
module _ {A : Type 0} (b : List ℕ) (ts : List (Bool × ℕ)) (refuse : ℕ → A) (go : A) where
  pub block_refused : (length b ≡ 16 → ⊥) → first (block_tests b ++ ts) refuse go ≡ refuse 7
  block_refused h = first_hit (not (eqb (length b) 16)) 7 ts refuse go (ap not (ne_eqb (length b) 16 h))

  pub block_taken_lem : length b ≡ 16 → first (block_tests b ++ ts) refuse go ≡ first ts refuse go
  block_taken_lem h = first_pass (not (eqb (length b) 16)) 7 ts refuse go (ap not (eq-eqb (length b) 16 h))

-- which texts of blocks are refused
module _ (n : ℕ) where
  pub text_empty : n ≡ 0 → bad_text n ≡ true
  unfolding bad_text
  text_empty h = simp (eq-eqb n 0 h)

  module _ (a : n ≡ 0 → ⊥) where
    pub text_long : 1048576 < n → bad_text n ≡ true
    unfolding bad_text
    text_long h = simp (ne_eqb n 0 a, lt-ltb 1048576 n h)

    module _ (b : n ≤ 1048576) where
      pub text_left : bad_text n ≡ not (eqb (n % 16) 0)
      unfolding bad_text
      text_left = simp (ne_eqb n 0 a, le-ltb 1048576 n b)

      pub text_good : n % 16 ≡ 0 → bad_text n ≡ false
      unfolding bad_text
      text_good h = simp (ne_eqb n 0 a, le-ltb 1048576 n b, eq-eqb (n % 16) 0 h)

-- and the way back
pub text_known : (n : ℕ) → bad_text n ≡ false → (0 < n) × (n ≤ 1048576) × (n % 16 ≡ 0)
unfolding bad_text
text_known n = go (eqb n 0) refl (ltb 1048576 n) refl (eqb (n % 16) 0) refl
  where
    go : (a : Bool) → eqb n 0 ≡ a → (b : Bool) → ltb 1048576 n ≡ b → (c : Bool) → eqb (n % 16) 0 ≡ c → a || b || not c ≡ false
        → (0 < n) × (n ≤ 1048576) × (n % 16 ≡ 0)
    go false p false q true r e = (omega (arith, eqb-false n 0 p), ltb-false 1048576 n q, eqb-true (n % 16) 0 r)
    go true p b q c r e = let w : ◌≡◌ {A = ℕ} 0 1 = cc in absurd (omega arith)
    go false p true q c r e = let w : ◌≡◌ {A = ℕ} 0 1 = cc in absurd (omega arith)
    go false p false q false r e = let w : ◌≡◌ {A = ℕ} 0 1 = cc in absurd (omega arith)

-- the test on a text of blocks, and then those of `ts`
module _ {A : Type 0} (t : List ℕ) (ts : List (Bool × ℕ)) (refuse : ℕ → A) (go : A) where
  pub text_refused : bad_text (length t) ≡ true → first (text_tests t ++ ts) refuse go ≡ refuse 8
  text_refused h = first_hit (bad_text (length t)) 8 ts refuse go h

  pub text_taken : bad_text (length t) ≡ false → first (text_tests t ++ ts) refuse go ≡ first ts refuse go
  text_taken h = first_pass (bad_text (length t)) 8 ts refuse go h

-- the test on a buffer, the last of an operation
module _ {A : Type 0} (n : ℕ) (out : List ℕ) (refuse : ℕ → A) (go : A) where
  pub room_refused : length out < n → first (room_tests n out) refuse go ≡ refuse 9
  room_refused h = first_hit (ltb (length out) n) 9 [] refuse go (lt-ltb (length out) n h)

  pub room_taken : n ≤ length out → first (room_tests n out) refuse go ≡ go
  unfolding first
  room_taken h = first_pass (ltb (length out) n) 9 [] refuse go (le-ltb (length out) n h)

-- the number of a refusal is never 0
pub number_more : (q : Refusal) → 0 < number_of q
number_more KeyLength = lit< tt
number_more ChainLength = lit< tt
number_more NoPermutation = lit< tt
number_more WordRule = lit< tt
number_more MaskByte = lit< tt
number_more BookLength = lit< tt
number_more BlockLength = lit< tt
number_more MessageLength = lit< tt
number_more ShortBuffer = lit< tt
number_more KindByte = lit< tt
number_more BadPadding = lit< tt
number_more SessionFinished = lit< tt
number_more SessionFull = lit< tt
number_more BadRecord = lit< tt
number_more RecordLength = lit< tt
number_more ShortRandom = lit< tt
number_more SizeByte = lit< tt
number_more ScheduleNumber = lit< tt

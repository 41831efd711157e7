-- The answers of reading, case by case. The cases exclude each other and leave none out, so each refusal is given exactly under its
-- condition.
use mathlib.Core.Path.{◌≡◌, sym, ap, ap₂, ◌∙◌}
use mathlib.Core.Bool.{Bool, true, false, not, ◌||◌}
use mathlib.Core.List.{List, ◌++◌}
use Prim.Native.Nat.{ℕ, ◌-◌, ◌≤◌, ◌<◌}
use native.Mathlib.Omega.{arith}
use lib.Dec.{eqb}
use lib.ListN.{length, take, drop}
use lib.Seq.{take_all}
use Rattle.lists.specs.Refusals.{first}
use Rattle.lists.proofs.RefusalLaws.{first_hit, first_pass}
use Rattle.cipher.specs.KeySize.{rounds}
use Rattle.cipher.specs.Answers.{bad_text, block_tests, text_tests, room_tests}
use Rattle.cipher.specs.declared.size.KeySize.{KeySize}
use Rattle.cipher.specs.declared.size.KeySize.TheVariants.{Bytes16, Bytes24, Bytes32}
use Rattle.std.proofs.Common.{Option, Some, None}
use Rattle.cipher.proofs.KeySizeLaws.{found_length, none_of, one_of}
use Rattle.cipher.proofs.AnswerLaws.{block_refused, block_taken_lem, text_refused, text_taken, room_refused, room_taken}
use Rattle.reading.specs.Book.{reading_book_length, size_of_reading_book}
use Rattle.reading.specs.Shown.{read_text}
use Rattle.reader.specs.Answers.{reading_rounds_of, read_answer}

-- a reading book has the rounds of its key
pub rounds_known : (z : KeySize) (bk : List ℕ) → length bk ≡ reading_book_length z → reading_rounds_of bk ≡ rounds z
unfolding reading_rounds_of
rounds_known z bk e = rw e (omega arith)

-- as the code finds the size
pub book_found : (bk : List ℕ) (z : KeySize) (o : Option KeySize) → o ≡ size_of_reading_book (length bk) → o ≡ Some z → length bk ≡ reading_book_length z
book_found bk z o e f = found_length reading_book_length (length bk) z (sym e ∙ f)

module _ (bk iv cs out : List ℕ) where
  -- whether the book has none of the three lengths
  other : Bool
  other = not (eqb (length bk) (reading_book_length Bytes16) || eqb (length bk) (reading_book_length Bytes24) || eqb (length bk) (reading_book_length Bytes32))

  read_into : (ℕ × ℕ) × List ℕ
  read_into = ((0, length cs), read_text bk (reading_rounds_of bk) iv cs ++ drop (length cs) out)

  left : ℕ → (ℕ × ℕ) × List ℕ
  left q = ((q, 0), out)

  pub read_6 : size_of_reading_book (length bk) ≡ None → read_answer bk iv cs out ≡ ((6, 0), out)
  unfolding read_answer read_into left other
  read_6 e = first_hit other 6 (block_tests iv ++ (text_tests cs ++ room_tests (length cs) out)) left read_into (none_of reading_book_length (length bk) e)

  module _ (z : KeySize) (e : length bk ≡ reading_book_length z) where
    booked : read_answer bk iv cs out ≡ first (block_tests iv ++ (text_tests cs ++ room_tests (length cs) out)) left read_into
    unfolding read_answer read_into left other
    booked = first_pass other 6 (block_tests iv ++ (text_tests cs ++ room_tests (length cs) out)) left read_into (one_of reading_book_length (length bk) z e)

    pub read_7 : (length iv ≡ 16 → ⊥) → read_answer bk iv cs out ≡ ((7, 0), out)
    unfolding left
    read_7 h = booked ∙ block_refused iv (text_tests cs ++ room_tests (length cs) out) left read_into h

    module _ (l : length iv ≡ 16) where
      begun : read_answer bk iv cs out ≡ first (text_tests cs ++ room_tests (length cs) out) left read_into
      begun = booked ∙ block_taken_lem iv (text_tests cs ++ room_tests (length cs) out) left read_into l

      pub read_8 : bad_text (length cs) ≡ true → read_answer bk iv cs out ≡ ((8, 0), out)
      unfolding left
      read_8 h = begun ∙ text_refused cs (room_tests (length cs) out) left read_into h

      module _ (d : bad_text (length cs) ≡ false) where
        fit : read_answer bk iv cs out ≡ first (room_tests (length cs) out) left read_into
        fit = begun ∙ text_taken cs (room_tests (length cs) out) left read_into d

        pub read_9 : length out < length cs → read_answer bk iv cs out ≡ ((9, 0), out)
        unfolding left
        read_9 h = fit ∙ room_refused (length cs) out left read_into h

        pub read_done : length cs ≤ length out
            → read_answer bk iv cs out ≡ ((0, length cs), read_text bk (rounds z) iv cs ++ drop (length cs) out)
        unfolding read_into
        read_done h =
            fit
            ∙ room_taken (length cs) out left read_into h
            ∙ ap (λ (r : ℕ). ((0, length cs), read_text bk r iv cs ++ drop (length cs) out)) (rounds_known z bk e)

        -- as the code makes it
        pub read_made : length cs ≤ length out → (x : List ℕ) → x ≡ take 16 (drop 0 iv) → (o : List ℕ) → o ≡ read_text bk (rounds z) x cs
            → ((0, length cs), o ++ drop (length cs - 0) out) ≡ read_answer bk iv cs out
        read_made h x ex o eo =
            let y : x ≡ iv = ex ∙ take_all 16 iv (omega arith) in
            let n : length cs - 0 ≡ length cs = omega arith in
            ap₂ (λ (l : List ℕ) (m : ℕ). ((0, length cs), l ++ drop m out)) (eo ∙ ap (λ (v : List ℕ). read_text bk (rounds z) v cs) y) n
            ∙ sym (read_done h)

-- What admitting a book tells: where the book is refused, every operation answers that number; where it is not, the tests after
-- the book's decide, and its body has the length that goes with the size of its key.
use mathlib.Core.Path.{◌≡◌, sym, ap, ◌∙◌}
use mathlib.Core.Bool.{Bool, true, false, not}
use mathlib.Core.List.{List, [], ◌++◌}
use Prim.Native.Nat.{ℕ, ◌≤◌}
use native.Mathlib.Omega.{arith}
use borrow.Author.Tests.{eq-eqb, ne_eqb}
use lib.Dec.{eqb, lit<}
use lib.ListN.{length, get_or, length-drop}
use Rattle.lists.specs.Refusals.{first}
use Rattle.lists.proofs.RefusalLaws.{Clear, first_hit, first_pass, first_clear, first_map}
use Rattle.cipher.specs.KeySize.{key_length, book_length, size_of_book}
use Rattle.cipher.specs.Lengths.{body_start}
use Rattle.cipher.specs.Book.{book_body}
use Rattle.cipher.specs.Refusal.{number_of}
use Rattle.cipher.specs.declared.refusal.Refusal.{Refusal}
use Rattle.cipher.specs.declared.size.KeySize.{KeySize}
use Rattle.std.proofs.Common.{Option, Some, None}
use Rattle.cipher.proofs.KeySizeLaws.{found_length, none_of, one_of, size_of_book_lem}
use Rattle.cipher.proofs.AnswerLaws.{number_more}
use Rattle.cipher.proofs.CheckLaws.{Numbered, told_clear, told_refused, clear_taken}
use Rattle.driver.specs.Driver.{belongs, book_tests, admit_answer, body_length}

module _ (bk : List ℕ) where
  numbered : Numbered (book_tests bk)
  numbered = (lit< tt, (lit< tt, tt))

  -- the number is that of the tests on the book
  number_is : first (book_tests bk) (λ q. q) 0 ≡ (admit_answer bk).0
  unfolding admit_answer
  number_is = sym (first_map (λ (p : ℕ × Option KeySize). p.0) (book_tests bk) (λ q. (q, None)) (0, size_of_book (length bk)))

  admitted_clear : (z : KeySize) → admit_answer bk ≡ (0, Some z) → Clear (book_tests bk)
  admitted_clear z e = told_clear (book_tests bk) numbered (number_is ∙ ap (λ (p : ℕ × Option KeySize). p.0) e)

  -- the length of the book and of its body, and that there is a byte before the body
  admitted_book : (z : KeySize) → admit_answer bk ≡ (0, Some z) → length bk ≡ book_length z
  unfolding admit_answer
  admitted_book z e =
      let all = first_clear {A = ℕ × Option KeySize} (book_tests bk) (λ q. (q, None)) (0, size_of_book (length bk)) (admitted_clear z e) in
      found_length book_length (length bk) z (ap (λ (p : ℕ × Option KeySize). p.1) (sym all ∙ e))

  pub admitted_length : (z : KeySize) → admit_answer bk ≡ (0, Some z) → length (book_body bk) ≡ body_length z
  admitted_length z e = length-drop body_start bk ∙ omega (arith, admitted_book z e)

  pub admitted_byte : (z : KeySize) → admit_answer bk ≡ (0, Some z) → body_start ≤ length bk
  admitted_byte z e = omega (arith, admitted_book z e)

  -- and the same of what is its body
  pub body_room : (z : KeySize) → admit_answer bk ≡ (0, Some z) → (t : List ℕ) → t ≡ book_body bk → length t ≡ body_length z
  body_room z e t et = ap length et ∙ admitted_length z e

  -- as the code makes it
  pub book_found : (z : KeySize) (o : Option KeySize) → o ≡ size_of_book (length bk) → o ≡ Some z → length bk ≡ book_length z
  book_found z o e f = found_length book_length (length bk) z (sym e ∙ f)

  pub length_unknown : size_of_book (length bk) ≡ None → admit_answer bk ≡ (6, None)
  unfolding admit_answer
  length_unknown e = first_hit _ 6 _ (λ q. (q, None)) (0, size_of_book (length bk)) (none_of book_length (length bk) e)

  module _ (z : KeySize) (e : length bk ≡ book_length z) where
    known : size_of_book (length bk) ≡ Some z
    known = ap size_of_book e ∙ size_of_book_lem z

    stated : (b : Bool) → eqb (get_or bk 0 0) (key_length z) ≡ b → not (belongs (size_of_book (length bk)) (get_or bk 0 0)) ≡ not b
    stated b h = rw known (ap not h)

    pub byte_refused : (get_or bk 0 0 ≡ key_length z → ⊥) → admit_answer bk ≡ (33, None)
    unfolding admit_answer
    byte_refused d =
        first_pass _ 6 _ (λ q. (q, None)) (0, size_of_book (length bk)) (one_of book_length (length bk) z e)
        ∙ first_hit _ 33 [] (λ q. (q, None)) (0, size_of_book (length bk)) (stated false (ne_eqb (get_or bk 0 0) (key_length z) d))

    pub book_admitted : get_or bk 0 0 ≡ key_length z → admit_answer bk ≡ (0, Some z)
    unfolding admit_answer
    book_admitted d =
        first_clear (book_tests bk) (λ q. (q, None)) (0, size_of_book (length bk))
        (one_of book_length (length bk) z e, (stated true (eq-eqb (get_or bk 0 0) (key_length z) d), tt))
        ∙ ap (λ (s : Option KeySize). (0, s)) known

  -- the tests on the book, and then those of `ts`
  module _ {A : Type 0} (ts : List (Bool × ℕ)) (refuse : ℕ → A) (go : A) where
    pub book_refused : (q : Refusal) → admit_answer bk ≡ (number_of q, None) → first (book_tests bk ++ ts) refuse go ≡ refuse (number_of q)
    book_refused q e = told_refused ts refuse go (book_tests bk) (number_of q) (number_more q) (number_is ∙ ap (λ (p : ℕ × Option KeySize). p.0) e)

    pub book_taken : (z : KeySize) → admit_answer bk ≡ (0, Some z) → first (book_tests bk ++ ts) refuse go ≡ first ts refuse go
    book_taken z e = clear_taken ts refuse go (book_tests bk) (admitted_clear z e)

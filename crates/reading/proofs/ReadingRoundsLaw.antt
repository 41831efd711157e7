-- n reading rounds of tables, decoded by set n, are the last n rounds of LEA undone on the bytes decoded by set 0; all of them are
-- deciphering. For any rows of words and any bytes.
use mathlib.Core.Path.{◌≡◌, refl, sym, ap, ◌∙◌}
use mathlib.Core.List.{List}
use Prim.Native.Nat.{ℕ, zero, suc, ◌-◌, ◌≤◌, ◌<◌}
use native.Mathlib.Nat.{le_refl, le_of_suc-le}
use native.Mathlib.Omega.{arith}
use Rattle.words.specs.Word.{words4, bytes}
use Rattle.cipher.specs.Lea.{unround, backward, undone_rounds}
use Rattle.cipher.specs.Coding.{Set, Permutations, decoded}
use Rattle.cipher.specs.Tables.{RoundCodings}
use Rattle.words.specs.Rows.{RowsOfWords}
use Rattle.cipher.proofs.LeaLaws.{bytes_words}
use Rattle.cipher.proofs.CodingLaws.{block_decoded}
use Rattle.reading.specs.Tables.{ValidReadingRound, ReadingTables, read_round, read_rounds}
use Rattle.reading.specs.Book.{row_back}
use Rattle.reading.specs.Shown.{undone_last}
use Rattle.reading.proofs.ReadingRoundLaw.{reading_round_law}

-- the last n of r rounds undone and then the others are all of them undone
undone_rest : (rows : List (List ℕ)) (r n : ℕ) (x : List ℕ) → n ≤ r → backward rows (r - n) (undone_last rows r n x) ≡ backward rows r x
unfolding undone_last backward
undone_rest rows r zero x h =
    let e : r - 0 ≡ r = omega arith in
    ap (λ (m : ℕ). backward rows m x) e
undone_rest rows r (suc n) x h =
    let e : suc (r - suc n) ≡ r - n = omega arith in
    ap (λ (m : ℕ). backward rows m (undone_last rows r n x)) e ∙ undone_rest rows r n x (le_of_suc-le h)

pub undone_all : (rows : List (List ℕ)) (r : ℕ) (x : List ℕ) → undone_last rows r r x ≡ backward rows r x
unfolding backward
undone_all rows r x =
    let e : r - r ≡ 0 = omega arith in
    ap (λ (m : ℕ). backward rows m (undone_last rows r r x)) (sym e) ∙ undone_rest rows r r x (le_refl r)

-- r rounds: round l goes from set l to set l + 1, by the tables t l under row r - 1 - l
module _ (r : ℕ) (S : ℕ → Set) (c : ℕ → RoundCodings) (rows : List (List ℕ)) (words : RowsOfWords rows) (t : ℕ → List ℕ)
    (before : (l : ℕ) → (c l).before ≡ S l) (after : (l : ℕ) → (c l).after ≡ S (suc l))
    (valid : (l : ℕ) → l < r → ValidReadingRound (c l)) (tables : (l : ℕ) → l < r → ReadingTables (c l) (row_back r rows l) (t l))
    (b : List ℕ) where
  words_law : (n : ℕ) → n ≤ r → words4 (decoded (S n) (read_rounds t n b)) ≡ undone_last rows r n (words4 (decoded (S 0) b))
  unfolding read_rounds undone_last
  words_law zero h = refl
  words_law (suc n) h =
      ap (λ (s : Set). words4 (decoded s (read_round (t n) (read_rounds t n b)))) (sym (after n))
      ∙ reading_round_law (c n) (valid n h) (row_back r rows n) (t n) (words (r - suc n)) (tables n h) (read_rounds t n b)
      ∙ ap (λ (s : Set). unround (row_back r rows n) (words4 (decoded s (read_rounds t n b)))) (before n)
      ∙ ap (unround (row_back r rows n)) (words_law n (le_of_suc-le h))

  pub reading_rounds_law : (n : ℕ) → n ≤ r → Permutations (S n) → decoded (S n) (read_rounds t n b) ≡ bytes (undone_last rows r n (words4 (decoded (S 0) b)))
  reading_rounds_law n h p = sym (bytes_words (block_decoded (S n) p (read_rounds t n b))) ∙ ap bytes (words_law n h)

  -- all rounds
  pub reading_all_law : Permutations (S r) → decoded (S r) (read_rounds t r b) ≡ undone_rounds rows r (decoded (S 0) b)
  unfolding undone_rounds
  reading_all_law p = reading_rounds_law r (le_refl r) p ∙ ap bytes (undone_all rows r (words4 (decoded (S 0) b)))

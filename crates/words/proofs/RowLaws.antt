-- Lists of words and rows of them: what they are joined of, and what is read from them, are words.
use mathlib.Core.Path.{◌≡◌, refl, ap, ◌∙◌}
use Prim.Native.Nat.{ℕ, zero, suc, ◌+◌, ◌-◌, ◌^◌, ◌≤◌, ◌<◌}
use native.Mathlib.Omega.{arith}
use native.Mathlib.Decide.{dec_lt}
use native.Mathlib.Numerals.{add-one}
use mathlib.Core.List.{List, [], ◌∷◌, ◌++◌, append-nil}
use lib.Dec.{lit<}
use lib.ListN.{get_or, length, set, take, drop, replicate, length-append, get_or-append}
use lib.Seq.{get_or_at}
use Rattle.lists.specs.Blocks.{Below, Bytes}
use Rattle.words.specs.Word.{word, word_at, words4}
use Rattle.lists.proofs.PartLaws.{fill_more}
use Rattle.std.proofs.lemmas.List.{take-replicate, drop-replicate}
use Rattle.words.specs.Rows.{blank, first_rows, thirty_two, RowsOfWords}

-- a list of words, and rows of them
pub data Words : List ℕ → Type 0 where
  none : Words []
  more : {x : ℕ} {l : List ℕ} → x < 2 ^ 32 → Words l → Words (x ∷ l)

data Rows : List (List ℕ) → Type 0 where
  none : Rows []
  more : {x : List ℕ} {l : List (List ℕ)} → Words x → Rows l → Rows (x ∷ l)

pub below : {l : List ℕ} → Words l → Below (2 ^ 32) l
below none k = lit< tt
below (more h t) zero = h
below (more h t) (suc k) = below t k

rows_below : {l : List (List ℕ)} → Rows l → RowsOfWords l
rows_below none k i = lit< tt
rows_below (more h t) zero i = below h i
rows_below (more h t) (suc k) i = rows_below t k i

pub joined : {l r : List ℕ} → Words l → Words r → Words (l ++ r)
joined none t = t
joined (more h s) t = more h (joined s t)

rows_joined : {l r : List (List ℕ)} → Rows l → Rows r → Rows (l ++ r)
rows_joined none t = t
rows_joined (more h s) t = more h (rows_joined s t)

pub set_words : {l : List ℕ} → (i v : ℕ) → v < 2 ^ 32 → Words l → Words (set l i v)
set_words i v h none = none
set_words zero v h (more x t) = more h t
set_words (suc i) v h (more x t) = more x (set_words i v h t)

same : (n : ℕ) → Words (replicate n 0)
same zero = none
same (suc n) = more (lit< tt) (same n)

rows_same : (n : ℕ) → Rows (replicate n blank)
rows_same zero = none
rows_same (suc n) = more (same 6) (rows_same n)

-- ---- rows given by a rule

module _ (f : ℕ → List ℕ) where
  first_length : (n : ℕ) → length (first_rows f n) ≡ n
  unfolding first_rows
  first_length zero = refl
  first_length (suc n) = length-append (first_rows f n) _ ∙ add-one _ ∙ ap suc (first_length n)

  -- of n rows the first i, the others blank
  abbrev pub first_of : ℕ → ℕ → List (List ℕ)
  first_of n i = first_rows f i ++ replicate (n - i) blank

  -- the front of 32 blank rows, as the borrow checker writes the part that is lent
  pub rows_none : (n : ℕ) → n ≤ 32 → take (n - 0) (replicate 32 blank) ≡ first_of n 0
  unfolding first_rows
  rows_none n h = take-replicate (n - 0) 32 blank (omega arith)

  -- row i stored at its place behind the first i
  pub row_put : (n i : ℕ) (rows : List (List ℕ)) (r : List ℕ) → i < n → rows ≡ first_of n i → r ≡ f i → set rows i r ≡ first_of n (i + 1)
  unfolding first_rows
  row_put n i rows r h er e = (λ z. set (er z) i (e z)) ∙ fill_more n i blank (f i) (first_rows f i) (first_length i) h ∙ rw add-one

  pub row_stored : (i : ℕ) (rows : List (List ℕ)) (r : List ℕ) → i < 32 → rows ≡ thirty_two f i → r ≡ f i → set rows i r ≡ thirty_two f (i + 1)
  row_stored = row_put 32

  -- all n stored, and the other rows of the 32
  pub rows_put : (n i : ℕ) (rows : List (List ℕ)) → i ≡ n → rows ≡ first_of n i → rows ++ drop (n - 0) (replicate 32 blank) ≡ thirty_two f n
  rows_put n i rows h e =
      let none_left : n - n ≡ 0 = omega arith in
      let from : n - 0 ≡ n = omega arith in
      ap (λ (l : List (List ℕ)). l ++ drop (n - 0) (replicate 32 blank)) (e ∙ ap (first_of n) h ∙ ap (λ (k : ℕ). first_rows f n ++ replicate k blank) none_left ∙ append-nil (first_rows f n))
      ∙ ap (λ (l : List (List ℕ)). first_rows f n ++ l) (ap (λ (k : ℕ). drop k (replicate 32 blank)) from ∙ drop-replicate n 32 blank)

  -- row i read
  first_at : (n i : ℕ) → i < n → get_or (first_rows f n) i [] ≡ f i
  unfolding first_rows
  first_at zero i h = absurd (omega arith)
  first_at (suc n) i h = go (dec_lt i n) (first_at n i)
    where
      go : Dec (i < n) → (i < n → get_or (first_rows f n) i [] ≡ f i) → get_or (first_rows f n ++ (f n ∷ [])) i [] ≡ f i
      go (yes l) before = get_or-append (first_rows f n) (f n ∷ []) [] i (rw (first_length n) l) ∙ before l
      go (no l) before =
          let e : i ≡ n = omega arith in
          rw e (get_or_at (first_rows f n) (f n) [] [] n (first_length n))

  pub row_at : (n i : ℕ) → i < n → get_or (thirty_two f n) i [] ≡ f i
  row_at n i h = get_or-append (first_rows f n) (replicate (32 - n) blank) [] i (rw (first_length n) h) ∙ first_at n i h

  -- rows of words
  module _ (h : (i : ℕ) → Words (f i)) where
    first_words : (n : ℕ) → Rows (first_rows f n)
    unfolding first_rows
    first_words zero = none
    first_words (suc n) = rows_joined (first_words n) (more (h n) none)

    pub rows_words : (n : ℕ) → RowsOfWords (thirty_two f n)
    rows_words n = rows_below (rows_joined (first_words n) (rows_same (32 - n)))

-- ---- words read from bytes

pub word_at_word : (b : List ℕ) (i : ℕ) → Bytes b → word_at b i < 2 ^ 32
unfolding word_at word
word_at_word b i h = omega (arith, h i, h (i + 1), h (i + 2), h (i + 3))

pub words4_words : (b : List ℕ) → Bytes b → Words (words4 b)
unfolding words4
words4_words b h = more (word_at_word b 0 h) (more (word_at_word b 4 h) (more (word_at_word b 8 h) (more (word_at_word b 12 h) none)))

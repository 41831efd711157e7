-- Laws of WF-LEA's rows: one row more, and every round key is a word.
use mathlib.Core.Path.{◌≡◌, ap, ◌∙◌}
use mathlib.Core.List.{List, [], ◌∷◌, ◌++◌}
use Prim.Native.Nat.{ℕ, ◌+◌, ◌-◌, ◌^◌, ◌<◌}
use lib.ListN.{get_or, set, drop, replicate}
use Rattle.lists.specs.Tabulation.{tab}
use Rattle.words.specs.Word.{word_at}
use Rattle.words.specs.Rows.{blank, RowsOfWords}
use Rattle.words.proofs.RowLaws.{Words, none, more, word_at_word}
use Rattle.words.proofs.RowLaws as R
use Rattle.sha256.specs.Sha256.{sha256}
use Rattle.sha256.proofs.DigestLaws.{sha256_bytes}
use Rattle.wf_lea.specs.WfLea.{first_six, row, rows}

-- of n rows of a key the first l, the others blank
abbrev pub first_of : List ℕ → ℕ → ℕ → List (List ℕ)
first_of key n l = R.first_of (row key) n l

-- the row of the message m, the key and a byte b, stored at place l
pub row_stored : (key m r : List ℕ) (t : List (List ℕ)) (n l b : ℕ) → l < n → t ≡ first_of key n l → r ≡ first_six (sha256 m) → m ≡ key ++ (b ∷ []) → b ≡ l + 1
    → set t l r ≡ first_of key n (l + 1)
unfolding row
row_stored key m r t n l b h et er em eb =
    let e : r ≡ row key l = er ∙ ap (λ (x : List ℕ). first_six (sha256 x)) em ∙ ap (λ (x : ℕ). first_six (sha256 (key ++ (x ∷ [])))) eb in
    R.row_put (row key) n l t r h et e

-- all n of them, in the front of 32 blank rows
pub rows_stored : (key : List ℕ) (t : List (List ℕ)) (n l : ℕ) → l ≡ n → t ≡ first_of key n l → t ++ drop (n - 0) (replicate 32 blank) ≡ rows key n
unfolding rows
rows_stored key t n l h e = R.rows_put (row key) n l t h e

-- ---- every round key is a word

row_words : (key : List ℕ) (l : ℕ) → Words (row key l)
unfolding row first_six tab
row_words key l =
    let m : List ℕ = key ++ ((l + 1) ∷ []) in
    let word : (i : ℕ) → word_at (sha256 m) i < 2 ^ 32 = λ i. word_at_word (sha256 m) i (sha256_bytes m) in
    more (word 0) (more (word 4) (more (word 8) (more (word 12) (more (word 16) (more (word 20) none)))))

pub rows_words : (key : List ℕ) (n : ℕ) → RowsOfWords (rows key n)
unfolding rows
rows_words key n = R.rows_words (row key) (row_words key) n

-- ---- a row read

pub row_at : (key : List ℕ) (n l : ℕ) → l < n → get_or (rows key n) l [] ≡ row key l
unfolding rows
row_at key n l h = R.row_at (row key) n l h

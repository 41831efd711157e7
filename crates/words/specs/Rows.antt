-- Rows of six round keys, each a word, as every schedule gives them: 32 rows, those that no round uses being blank.
use Rattle.std.specs.Prelude.{ℕ, zero, suc, ◌-◌, ◌^◌, List, [], ◌∷◌, ◌++◌, get_or, replicate}
use Rattle.lists.specs.Blocks.{Below}

-- a row that no round uses
abbrev pub blank : List ℕ
blank = replicate 6 0

-- the first n rows, given by a rule for each; and 32 rows of which these are the first
unfoldable pub first_rows : (ℕ → List ℕ) → ℕ → List (List ℕ)
first_rows f zero = []
first_rows f (suc n) = first_rows f n ++ (f n ∷ [])

abbrev pub thirty_two : (ℕ → List ℕ) → ℕ → List (List ℕ)
thirty_two f n = first_rows f n ++ replicate (32 - n) blank

-- every round key of every row is a word; past the ends `get_or` gives 0
abbrev pub RowsOfWords : List (List ℕ) → Type 0
RowsOfWords rows = (l : ℕ) → Below (2 ^ 32) (get_or rows l [])

-- The rows of round keys of WF-LEA (document 000, chapter 2, section 3, algorithm 1). Within a word the lowest byte of the digest comes first
-- (chapter 1, section 3.2); the round keys of appendix A settle it.
use Rattle.std.specs.Prelude.{ℕ, ◌+◌, ◌*◌, List, [], ◌∷◌, ◌++◌}
use Rattle.lists.specs.Tabulation.{tab}
use Rattle.words.specs.Word.{word_at}
use Rattle.words.specs.Rows.{thirty_two}
use Rattle.sha256.specs.Sha256 as S

-- the first six words of a digest
unfoldable pub first_six : List ℕ → List ℕ
first_six t = tab 6 (λ k. word_at t (4 * k))

-- row l is cut from one digest: hashed are the key and one byte more, the number of the row counted from 1
unfoldable pub row : List ℕ → ℕ → List ℕ
row key l = first_six (S.sha256 (key ++ ((l + 1) ∷ [])))

-- of 32 rows the first n
unfoldable pub rows : List ℕ → ℕ → List (List ℕ)
rows key n = thirty_two (row key) n

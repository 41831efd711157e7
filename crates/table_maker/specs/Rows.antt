-- Tables as rows of sixteen entries, each entry looked up in e at what an operation, a sum or an xor, makes of its row and its place.
use Rattle.std.specs.Prelude.{List, ℕ, ◌<◌, length, get_or}
use Rattle.lists.specs.Tabulation.{tab, chunks}

-- a row: s is the row's operand, b has those of the places
unfoldable pub row_by : (ℕ → ℕ → ℕ) → List ℕ → ℕ → List ℕ → List ℕ
row_by op e s b = tab 16 (λ q. get_or e (op s (get_or b q 0)) 0)

-- the table of the rows whose operands a has
unfoldable pub table_by : (ℕ → ℕ → ℕ) → List ℕ → List ℕ → List ℕ → List ℕ
table_by op e a b = chunks (length a) (λ x. row_by op e (get_or a x 0) b)

-- every look-up of such a row, and of such a table, is inside e
abbrev pub RowFits : (ℕ → ℕ → ℕ) → List ℕ → ℕ → List ℕ → Type 0
RowFits op e s b = (q : ℕ) → q < 16 → op s (get_or b q 0) < length e

abbrev pub TableFits : (ℕ → ℕ → ℕ) → List ℕ → List ℕ → List ℕ → Type 0
TableFits op e a b = (x : ℕ) → x < length a → RowFits op e (get_or a x 0) b

-- What each byte stands for where a number from 0 to k is drawn (document 02, 2026-03), for every k below 16, as one table.
use Rattle.std.specs.Prelude.{cond, List, ℕ, ◌+◌, ◌%◌, leb}
use Rattle.lists.specs.Tabulation.{tab, chunks}
use Rattle.coding_maker.specs.Draw.{limit}

-- byte b: its remainder, or 16 where it is skipped
unfoldable pub stands_for : ℕ → ℕ → ℕ
stands_for k b = cond (leb (limit k) b) 16 (b % (k + 1))

-- a row of 256 for each k
unfoldable pub number_table : List ℕ
number_table = chunks 16 (λ k. tab 256 (stands_for k))

-- `numbers::fill_row` meets its contract. The invariant: b remainders are written, and the rest is as it was.
use mathlib.Core.Path.{◌≡◌}
use mathlib.Core.List.{◌++◌}
use Prim.Native.Nat.{◌+◌, ◌-◌, ◌%◌, ◌≤◌}
use lib.ListN.{length, drop}
use Rattle.lists.specs.Tabulation.{tab}
use Rattle.coding_maker.proofs.numbers.fill_row.Given as goal

abbrev pub invariant-loop-b : goal.invariant-loop-b
invariant-loop-b l = (l.b ≤ l.limit) × (length l.row ≡ length l.initial.row) × (l.row ≡ tab l.b (λ i. i % (l.k + 1)) ++ drop l.b l.initial.row)

abbrev pub decreases-loop-b : goal.decreases-loop-b
decreases-loop-b l = l.limit - l.b

-- `groups::start` meets its contract. The invariant: k bytes are written, and the rest is as it was.
use mathlib.Core.Path.{◌≡◌}
use mathlib.Core.List.{◌++◌}
use Prim.Native.Nat.{◌-◌, ◌≤◌}
use lib.ListN.{length, drop}
use Rattle.lists.specs.Tabulation.{tab}
use Rattle.book.proofs.GroupLaws.{start_byte}
use Rattle.book.proofs.groups.start.Given as goal

abbrev pub invariant-loop-k : goal.invariant-loop-k
invariant-loop-k l = (l.k ≤ 16) × (length l.out ≡ length l.initial.out) × (l.out ≡ tab l.k (start_byte l.last.bytes.now) ++ drop l.k l.initial.out)

abbrev pub decreases-loop-k : goal.decreases-loop-k
decreases-loop-k l = 16 - l.k

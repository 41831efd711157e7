-- `write::put` meets its contract. The invariant: k bytes are copied, and the rest is as it was.
use Rattle.std.proofs.Common.{◌≡◌, ◌++◌, ◌≤◌, length, get_or, drop}
use Rattle.lists.specs.Tabulation.{tab}
use Rattle.inkfile.proofs.write.put.Given as goal

abbrev pub invariant-loop-k : goal.invariant-loop-k
invariant-loop-k l = (l.k ≤ length l.bytes) × (length l.out ≡ length l.initial.out) × (l.out ≡ tab l.k (λ i. get_or l.bytes i 0) ++ drop l.k l.initial.out)

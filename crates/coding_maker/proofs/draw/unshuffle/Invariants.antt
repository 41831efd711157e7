-- `draw::unshuffle` meets its contract. The invariant: v places are written.
use mathlib.Core.Path.{◌≡◌}
use mathlib.Core.List.{◌++◌}
use Prim.Native.Nat.{◌-◌, ◌≤◌}
use lib.ListN.{length, drop}
use Rattle.lists.specs.Tabulation.{tab}
use Rattle.coding_maker.proofs.draw.unshuffle.Given as goal

abbrev pub invariant-loop-v : goal.invariant-loop-v
invariant-loop-v l = (l.v ≤ 16) × (length l.out ≡ length l.initial.out) × (l.out ≡ tab l.v (λ i. i) ++ drop l.v l.initial.out)

abbrev pub decreases-loop-v : goal.decreases-loop-v
decreases-loop-v l = 16 - l.v

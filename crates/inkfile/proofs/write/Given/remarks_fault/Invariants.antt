-- `write::Given::remarks_fault` meets its contract. The invariant: the first i remarks have no fault.
use mathlib.Core.Path.{◌≡◌}
use Prim.Native.Nat.{◌+◌, ◌≤◌}
use Rattle.lists.specs.Refusals.{first}
use Rattle.inkfile.specs.Writing.{run_tests}
use Rattle.inkfile.specs.WritingSteps.{lent, given, remarks_fault}
use Rattle.inkfile.proofs.GivenLaws.{from_on}
use Rattle.inkfile.proofs.write.Given.remarks_fault.Given as goal

abbrev pub invariant-loop-i : goal.invariant-loop-i
invariant-loop-i l =
    (l.i ≤ 4) × (first (run_tests (4 + l.i) (from_on l.self.kinds.now (lent l.self.bodies) l.i)) (λ q. q) 0 ≡ remarks_fault (given l.self).remarks)

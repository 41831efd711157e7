-- `cmac::double` meets its contract. The invariant: the first k bytes are those of the double, the others zero.
use Rattle.std.proofs.Common.{◌≡◌, ◌-◌, ◌≤◌, ◌++◌, replicate}
use Rattle.lists.specs.Tabulation.{tab}
use Rattle.cipher.proofs.CmacLaws.{rule}
use Rattle.cipher.proofs.cmac.double.Given as goal

abbrev pub invariant-loop-k : goal.invariant-loop-k
invariant-loop-k l = (l.k ≤ 15) × (l.x-items ≡ tab l.k (rule l.b) ++ replicate (15 - l.k) 0)

-- `rows` meets its contract. The invariant: l rows are stored, and the buffer still begins with the key.
use mathlib.Core.Path.{◌≡◌}
use Prim.Native.Nat.{◌≤◌}
use lib.ListN.{length, take}
use Rattle.wf_lea.proofs.RowLaws.{first_of}
use Rattle.wf_lea.proofs.rows.Given as goal

abbrev pub invariant-loop-l : goal.invariant-loop-l
invariant-loop-l l = (l.l ≤ l.n) × (length l.m ≡ 64) × (take l.k l.m ≡ l.key) × (l.r-items ≡ first_of l.key l.n l.l)

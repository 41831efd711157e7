-- `rows::RoundKeys::encipher` meets its contract. The invariant: 4 q rounds are done.
use Rattle.std.proofs.Common.{◌≡◌, ◌-◌, ◌*◌, ◌≤◌}
use Rattle.cipher.specs.Lea as L
use Rattle.cipher.proofs.rows.RoundKeys.encipher.Given as goal

abbrev pub invariant-loop-q : goal.invariant-loop-q
invariant-loop-q l = (l.q ≤ l.q-end) × (l.q-end ≤ 8) × (l.x ≡ L.forward l.self.rows (4 * l.q) l.initial.x)

abbrev pub decreases-loop-q : goal.decreases-loop-q
decreases-loop-q l = l.q-end - l.q

-- `rows::RoundKeys::decipher` meets its contract. The invariant: what is left to undo, undone, is the whole undone.
use Rattle.std.proofs.Common.{◌≡◌, ◌*◌, ◌≤◌}
use Rattle.cipher.specs.Lea as L
use Rattle.cipher.proofs.rows.RoundKeys.decipher.Given as goal

abbrev pub invariant-loop-q : goal.invariant-loop-q
invariant-loop-q l = (l.q ≤ l.initial.q) × (l.initial.q ≤ 8) × (L.backward l.self.rows (4 * l.q) l.x ≡ L.backward l.self.rows (4 * l.initial.q) l.initial.x)

abbrev pub decreases-loop-q : goal.decreases-loop-q
decreases-loop-q l = l.q

-- `rows::RoundKeys::first_rounds` meets its contract. The invariant: as many rounds are done as rows were taken.
use Rattle.std.proofs.Common.{◌≡◌, ◌≤◌}
use Rattle.cipher.specs.Lea as L
use Rattle.cipher.proofs.rows.RoundKeys.first_rounds.Given as goal

abbrev pub invariant-loop-row : goal.invariant-loop-row
invariant-loop-row l = (l.row-index ≤ l.n) × (l.x ≡ L.forward l.self.rows l.row-index l.initial.x)

-- `hash::rounds` meets its contract. The invariant: 4 * q rounds are made.
use Rattle.std.proofs.Common.{◌≡◌, ◌*◌, ◌≤◌}
use Rattle.sha256.specs.Sha256.{rounds}
use Rattle.sha256.proofs.hash.rounds.Given as goal

abbrev pub invariant-loop-q : goal.invariant-loop-q
invariant-loop-q l = (l.q ≤ 16) × (l.s ≡ rounds l.w (4 * l.q) l.initial.s)

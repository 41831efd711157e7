-- `rounds::Keyed::later_rounds` meets its contract. The invariant: the rounds below l are run.
use Rattle.std.proofs.Common.{◌≡◌, ◌≤◌}
use Rattle.cipher.specs.KeySize.{rounds}
use Rattle.round.specs.Round.{later_rounds}
use Rattle.round.proofs.rounds.Keyed.later_rounds.Given as goal

abbrev pub invariant-loop-l : goal.invariant-loop-l
invariant-loop-l l = (1 ≤ l.l) × (l.l ≤ rounds l.self.size) × (l.b ≡ later_rounds l.self.size l.self.key.now l.self.chain.now l.l l.initial.b)

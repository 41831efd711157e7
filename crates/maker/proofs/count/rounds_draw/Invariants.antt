-- `count::rounds_draw` meets its contract. The invariant: what the rounds before this one draw is behind.
use Rattle.std.proofs.Common.{◌≡◌}
use Rattle.coding_maker.specs.Parts.{begins}
use Rattle.coding_maker.specs.Source.{past}
use Rattle.maker.specs.MadeChain.{round_use}
use Rattle.maker.proofs.count.rounds_draw.Given as goal

abbrev pub invariant-loop : goal.invariant-loop
invariant-loop l = l.source ≡ past (begins round_use l.counter) l.initial.source

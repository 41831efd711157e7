-- `count::middles_draw` meets its contract. The invariant: what the codings before this one draw is behind.
use Rattle.std.proofs.Common.{◌≡◌}
use Rattle.coding_maker.specs.Parts.{begins}
use Rattle.coding_maker.specs.Source.{past}
use Rattle.maker.specs.MadeChain.{middle_use}
use Rattle.maker.proofs.count.middles_draw.Given as goal

abbrev pub invariant-loop : goal.invariant-loop
invariant-loop l = l.source ≡ past (begins middle_use l.counter) l.initial.source

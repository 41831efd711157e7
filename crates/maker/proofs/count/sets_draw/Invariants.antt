-- `count::sets_draw` meets its contract. The invariant: what the codings before this one draw is behind.
use Rattle.std.proofs.Common.{◌≡◌}
use Rattle.coding_maker.specs.Parts.{begins}
use Rattle.coding_maker.specs.Source.{past}
use Rattle.maker.specs.Planned.{planned}
use Rattle.maker.specs.MadeChain.{set_use}
use Rattle.maker.proofs.count.sets_draw.Given as goal

abbrev pub invariant-loop-k : goal.invariant-loop-k
invariant-loop-k l = l.source ≡ past (begins (set_use (planned l.plan)) l.k) l.initial.source

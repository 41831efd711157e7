-- `count::sets_draw` meets its contract. The invariant: what the codings before this one draw is behind.
use Rattle.std.proofs.Common.{arith}
use Rattle.coding_maker.proofs.SourceLaws.{begins_past, begins_near, begins_none}
use Rattle.maker.specs.Planned.{planned}
use Rattle.maker.specs.MadeChain.{set_use}
use Rattle.maker.proofs.ChainTurns.{within_set}
use Rattle.maker.proofs.count.sets_draw.Goals as goal

pub loop-k-init : goal.loop-k-init
loop-k-init c = begins_none _ _

pub set_use-requires : goal.set_use-requires
set_use-requires c =
    let p = planned c.args.plan.now in
    omega (arith, c.requires.0, begins_near (set_use p) c.loop-k.k _ _ c.loop-k.invariant 15 0 (within_set p) c.requires.1)

pub loop-k-preserved : goal.loop-k-preserved
loop-k-preserved c = begins_past (set_use (planned c.args.plan.now)) c.loop-k.k _ _ c.loop-k.invariant _ c.set_use.ensures

-- `count::chain_draws` meets its contract.
use Rattle.std.proofs.Common.{◌+◌, ◌*◌, refl, arith}
use Rattle.coding_maker.specs.Parts.{begins}
use Rattle.coding_maker.proofs.DrawCounts.{within_begins}
use Rattle.coding_maker.proofs.SourceLaws.{near_after}
use Rattle.maker.specs.Planned.{planned}
use Rattle.maker.specs.MadeChain.{set_use}
use Rattle.maker.proofs.ChainTurns.{within_set, chain_drawn}
use Rattle.maker.proofs.count.chain_draws.Goals as goal

pub rounds_draw-requires : goal.rounds_draw-requires
rounds_draw-requires c =
    let p = planned c.args.plan.now in
    let n = 32 * (c.args.r + 2) in
    let b = near_after (n * 15) 0 (begins (set_use p) n) (within_begins 15 (set_use p) (within_set p) n) _ _ c.sets_draw.ensures (omega (arith, c.new-source.ensures.0)) in
    (c.requires, omega (arith, c.requires, b))

pub returns : goal.returns
returns c =
    let a = c.args in
    let s = c.new-source in
    chain_drawn (planned a.plan.now) a.random.now a.r a.r _ _ s.ensures.1 refl c.sets_draw.ensures _ s.ensures.0 c.rounds_draw.ensures

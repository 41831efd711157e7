-- `blocks::rounds` meets its contract. The invariant: the blocks went through as many rounds as there were tables.
use Rattle.std.proofs.Common.{arith}
use Rattle.lists.proofs.FirstChunks.{lent_count}
use Rattle.reader.proofs.BlockLoops.{rounded_none, rounded_more, rounded_all}
use Rattle.reader.proofs.blocks.rounds.Goals as goal

pub loop-t-init : goal.loop-t-init
loop-t-init c = rounded_none _ _ c.requires.2

pub loop-t-preserved : goal.loop-t-preserved
loop-t-preserved c =
    let o = c.round_of in
    rounded_more _ _ c.requires.2 _ _ _ _ _ _ c.as_chunks.ensures.front c.loop-t-test.true o.auto.out c.loop-t.invariant o.ensures

pub returns : goal.returns
returns c =
    rounded_all _ _ c.requires.2 c.loop-t.t-index c.args.r _
    (omega (arith, lent_count 18432 c.args.r _ _ _ c.as_chunks.ensures.front (omega (arith, c.requires.1)))) c.loop-t.invariant

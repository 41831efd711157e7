-- `count::round_draws` meets its contract.
use Rattle.std.proofs.Common.{ap, ◌∙◌, arith}
use Rattle.coding_maker.specs.Source.{past}
use Rattle.coding_maker.proofs.SourceLaws.{near_after}
use Rattle.maker.specs.MadeChain.{middles_draw}
use Rattle.maker.proofs.ChainTurns.{within_middles, round_past}
use Rattle.maker.proofs.count.round_draws.Goals as goal

pub skip-requires : goal.skip-requires
skip-requires c = (omega arith, omega (arith, near_after 360 100000 middles_draw within_middles _ _ c.middles_draw.ensures c.requires))

pub returns : goal.returns
returns c = c.skip.ensures ∙ ap (past (λ t. 24)) c.middles_draw.ensures ∙ round_past c.args.source.now

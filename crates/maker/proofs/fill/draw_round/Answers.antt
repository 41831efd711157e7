-- `fill::draw_round` meets its contract.
use Rattle.std.proofs.Common.{length, ap, ◌∙◌, arith}
use Rattle.lists.proofs.TwoParts.{second_length, two_joined}
use Rattle.coding_maker.specs.Source.{past}
use Rattle.coding_maker.proofs.SourceLaws.{near_after}
use Rattle.maker.specs.MadeChain.{middles_draw}
use Rattle.maker.proofs.ChainValid.{length_middles}
use Rattle.maker.proofs.ChainTurns.{within_middles, round_past, round_from_in}
use Rattle.maker.proofs.fill.draw_round.Goals as goal

pub draw_masks-requires : goal.draw_masks-requires
draw_masks-requires c = (
  omega (arith, near_after 360 100000 middles_draw within_middles _ _ c.draw_middles.ensures.0 c.requires.0),
  second_length c.draw_middles.new.out c.args.out.now c.args.out.now 384 24 c.requires.1 (ap length c.draw_middles.ensures.1 ∙ length_middles _),
)

pub returns : goal.returns
returns c = (
  c.draw_masks.ensures.0 ∙ ap (past (λ t. 24)) c.draw_middles.ensures.0 ∙ round_past c.args.source.now,
  two_joined c.draw_middles.new.out c.draw_masks.new.out c.args.out.now 384 24 c.requires.1 (ap length c.draw_middles.ensures.1 ∙ length_middles _)
      ∙ round_from_in c.args.source.now _ c.draw_middles.new.out c.draw_masks.new.out c.draw_middles.ensures.0 c.draw_middles.ensures.1 c.draw_masks.ensures.1,
)

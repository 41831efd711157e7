-- `draw::Source::coding_draws` meets its contract. The invariant: what is still drawn ends at the same place.
use Rattle.std.proofs.Common.{◌-◌, sym, ◌∙◌, arith}
use Rattle.coding_maker.specs.Draw.{shuffle_draws, coding_draws}
use Rattle.coding_maker.proofs.DrawCounts.{within_shuffle}
use Rattle.coding_maker.proofs.SourceLaws.{near_before, shuffle_past, none_past}
use Rattle.coding_maker.proofs.draw.Source.coding_draws.Goals as goal

pub number-requires : goal.number-requires
number-requires c = (
  omega arith,
  let n = near_before 15 1000000 (shuffle_draws (c.loop-k.k - 1)) (shuffle_draws 15) (within_shuffle 15) _ _ c.loop-k.invariant c.requires in
      omega arith,
)

pub loop-k-preserved : goal.loop-k-preserved
loop-k-preserved c = shuffle_past (c.loop-k.k - 1) (omega arith) _ _ _ c.number.ensures.1 c.loop-k.invariant

pub returns : goal.returns
unfolding coding_draws
returns c = sym (none_past _ c.loop-k.self (omega arith)) ∙ c.loop-k.invariant

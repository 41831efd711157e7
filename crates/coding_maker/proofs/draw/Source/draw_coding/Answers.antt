-- `draw::Source::draw_coding` meets its contract. The invariant: what is still drawn makes the same coding, and ends at the same place.
use Rattle.std.proofs.Common.{◌≡◌, ◌+◌, ◌-◌, sym, ◌∙◌, arith, length-set}
use Rattle.coding_maker.specs.Draw.{shuffle_draws, coding_from, coding_draws}
use Rattle.coding_maker.specs.Source.{rest}
use Rattle.coding_maker.proofs.DrawCounts.{within_shuffle}
use Rattle.coding_maker.proofs.DrawTurns.{no_shuffle}
use Rattle.coding_maker.proofs.SourceLaws.{near_before, shuffle_past, shuffled_past, none_past}
use Rattle.coding_maker.proofs.draw.Source.draw_coding.Goals as goal

pub number-other-requires : goal.number-other-requires
number-other-requires c = (
  omega arith,
  let n = near_before 15 1000000 (shuffle_draws (16 - c.loop-done.done)) (shuffle_draws 15) (within_shuffle 15) _ _ c.loop-done.invariant.1 c.requires.0 in
      omega arith,
)

pub loop-done-preserved : goal.loop-done-preserved
loop-done-preserved c =
    let k = 16 - c.loop-done.done in
    let e : 16 - (c.loop-done.done + 1) ≡ k - 1 = omega arith in (
      simp length-set c.loop-done.invariant.0,
      rw e (shuffle_past k (omega arith) _ _ _ c.number-other.ensures.1 c.loop-done.invariant.1),
      rw e (shuffled_past k (omega arith) _ _ c.number-other.ensures.1 c.loop-done.out _ _ c.number-other.ensures.0 c.loop-done.invariant.2),
    )

pub returns : goal.returns
unfolding coding_draws coding_from
returns c =
    let z : 16 - c.loop-done.done ≡ 0 = omega arith in
    (sym (none_past _ c.loop-done.self z) ∙ c.loop-done.invariant.1, sym (no_shuffle _ c.loop-done.out (rest c.loop-done.self) z) ∙ c.loop-done.invariant.2)

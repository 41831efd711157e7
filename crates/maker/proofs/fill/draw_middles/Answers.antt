-- `fill::draw_middles` meets its contract. The invariant: k codings are written, and what they draw is behind.
use Rattle.std.proofs.Common.{◌≡◌, ◌+◌, ◌-◌, ℕ, refl, ap, ◌∙◌, arith}
use borrow.Rule.Slice.PartMut.{same_len_mid}
use Rattle.lists.specs.Tabulation.{chunks}
use Rattle.lists.proofs.PartLaws.{chunks_turn, chunks_full, length_part}
use Rattle.coding_maker.specs.Draw.{coding_from}
use Rattle.coding_maker.specs.Parts.{begins, left}
use Rattle.coding_maker.specs.Source.{rest, past}
use Rattle.coding_maker.proofs.CodingDrawn.{coding_drawn}
use Rattle.coding_maker.proofs.DrawCounts.{within_coding}
use Rattle.coding_maker.proofs.SourceLaws.{left_past, begins_past, begins_near, begins_none}
use Rattle.maker.specs.MadeChain.{middle_use, middles_draw, middles_from}
use Rattle.maker.proofs.fill.draw_middles.Goals as goal

pub loop-k-init : goal.loop-k-init
unfolding chunks
loop-k-init c = (refl, begins_none middle_use _, refl, refl)

pub draw_coding-requires : goal.draw_coding-requires
draw_coding-requires c = (
  omega (arith, begins_near middle_use c.loop-k.k _ _ c.loop-k.invariant.1 15 100000 (λ k. within_coding) c.requires.0),
  length_part c.loop-k.out c.loop-k.a 16 (omega (arith, c.loop-k.invariant.0, c.loop-k.invariant.2, c.requires.1)),
)

pub loop-k-preserved : goal.loop-k-preserved
loop-k-preserved c =
    let s = rest c.args.source.now in
    let k = c.loop-k.k in
    let e = c.loop-k.invariant.1 in (
      omega (arith, c.loop-k.invariant.0),
      begins_past middle_use k _ _ e _ c.draw_coding.ensures.0,
      same_len_mid c.loop-k.a (c.loop-k.a + 16 - c.loop-k.a) c.loop-k.out c.draw_coding.new.out c.draw_coding.auto.out ∙ c.loop-k.invariant.2,
      chunks_turn (λ i. coding_from (left middle_use i s)) 16 (λ i. (coding_drawn (left middle_use i s)).size) _ _ _ _ _ c.loop-k.invariant.3 c.loop-k.invariant.0
          (c.draw_coding.ensures.1 ∙ ap coding_from (left_past middle_use k _ _ e)),
    )

pub returns : goal.returns
unfolding middles_draw middles_from
returns c =
    let d : c.loop-k.k ≡ 24 = omega arith in (
      c.loop-k.invariant.1 ∙ ap (λ (n : ℕ). past (begins middle_use n) c.args.source.now) d,
      chunks_full _ _ _ 24 c.loop-k.k c.loop-k.a c.loop-k.invariant.3 d (omega (arith, c.requires.1, c.loop-k.invariant.0)),
    )

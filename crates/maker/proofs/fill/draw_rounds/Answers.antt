-- `fill::draw_rounds` meets its contract. The invariant: l rounds are written, and what they draw is behind.
use Rattle.std.proofs.Common.{◌≡◌, ◌+◌, ◌-◌, ℕ, refl, ap, ◌∙◌, arith}
use borrow.Rule.Slice.PartMut.{same_len_mid}
use Rattle.lists.specs.Tabulation.{chunks}
use Rattle.lists.proofs.PartLaws.{chunks_turn, chunks_full, length_part}
use Rattle.coding_maker.specs.Parts.{begins, left}
use Rattle.coding_maker.specs.Source.{rest, past}
use Rattle.coding_maker.proofs.SourceLaws.{left_past, begins_past, begins_near, begins_none}
use Rattle.maker.specs.MadeChain.{round_use, round_from, rounds_draw, rounds_from}
use Rattle.maker.proofs.ChainValid.{length_round}
use Rattle.maker.proofs.ChainTurns.{within_round}
use Rattle.maker.proofs.fill.draw_rounds.Goals as goal

pub loop-l-init : goal.loop-l-init
unfolding chunks
loop-l-init c = (refl, begins_none round_use _, refl, refl)

pub draw_round-requires : goal.draw_round-requires
draw_round-requires c = (
  omega (arith, c.requires.0, begins_near round_use c.loop-l.l _ _ c.loop-l.invariant.1 384 50000 (λ l. within_round) c.requires.1),
  length_part c.loop-l.out c.loop-l.a 408 (omega (arith, c.loop-l.invariant.0, c.loop-l.invariant.2, c.requires.2)),
)

pub loop-l-preserved : goal.loop-l-preserved
loop-l-preserved c =
    let s = rest c.args.source.now in
    let k = c.loop-l.l in
    let e = c.loop-l.invariant.1 in (
      omega (arith, c.loop-l.invariant.0),
      begins_past round_use k _ _ e _ c.draw_round.ensures.0,
      same_len_mid c.loop-l.a (c.loop-l.a + 408 - c.loop-l.a) c.loop-l.out c.draw_round.new.out c.draw_round.auto.out ∙ c.loop-l.invariant.2,
      chunks_turn (λ i. round_from (left round_use i s)) 408 (λ i. length_round (left round_use i s)) _ _ _ _ _ c.loop-l.invariant.3 c.loop-l.invariant.0
          (c.draw_round.ensures.1 ∙ ap round_from (left_past round_use k _ _ e)),
    )

pub returns : goal.returns
unfolding rounds_draw rounds_from
returns c =
    let a = c.args in
    let d : c.loop-l.l ≡ a.r = omega arith in (
      c.loop-l.invariant.1 ∙ ap (λ (n : ℕ). past (begins round_use n) a.source.now) d,
      chunks_full _ _ _ _ c.loop-l.l c.loop-l.a c.loop-l.invariant.3 d (omega (arith, c.requires.2, c.loop-l.invariant.0)),
    )

-- `fill::draw_sets` meets its contract. The invariant: k codings are written, and what they draw is behind.
use Rattle.std.proofs.Common.{ℕ, List, cond, ap, refl, ◌∙◌, arith}
use Rattle.coding_maker.specs.Parts.{begins}
use Rattle.coding_maker.specs.Source.{rest}
use Rattle.coding_maker.proofs.SourceLaws.{left_past, begins_past, begins_near, begins_none}
use Rattle.maker.specs.Plan.{fixed_coding, source}
use Rattle.maker.specs.Planned.{planned}
use Rattle.maker.specs.MadeChain.{set_use, free_coding, set_coding}
use Rattle.maker.proofs.ChainValid.{coding_of, length_set_coding}
use Rattle.maker.proofs.ChainTurns.{within_set, written_more, written_none, set_coding_is}
use Rattle.maker.proofs.fill.draw_sets.Goals as goal

pub loop-k-init : goal.loop-k-init
loop-k-init c = (begins_none _ _, refl, written_none _ _)

pub set_coding-requires : goal.set_coding-requires
set_coding-requires c =
    let p = planned c.args.plan.now in (
      omega (arith, c.requires.0, begins_near (set_use p) c.loop-k.k _ _ c.loop-k.invariant.0 15 0 (within_set p) c.requires.1),
      omega (arith, c.requires.0),
      omega (arith, c.loop-k.invariant.1, c.requires.2),
    )

pub loop-k-preserved : goal.loop-k-preserved
loop-k-preserved c =
    let p = planned c.args.plan.now in
    let s = rest c.args.source.now in
    let k = c.loop-k.k in (
      begins_past (set_use p) k _ _ c.loop-k.invariant.0 _ c.set_coding.ensures.0,
      c.set_coding.auto.out ∙ c.loop-k.invariant.1,
      c.set_coding.ensures.1
          ∙ written_more (set_coding p s) (length_set_coding p s) c.args.out.now c.loop-k.out _ k c.loop-k.invariant.2
          (set_coding_is p c.args.plan.now.two_words s c.loop-k.out c.args.out.now _ (begins (set_use p) k s) k refl c.loop-k.invariant.2
          (ap (λ (z : List ℕ). cond (fixed_coding p k) (coding_of c.loop-k.out (source p k)) (free_coding p k z)) (left_past (set_use p) k _ _ c.loop-k.invariant.0))),
    )

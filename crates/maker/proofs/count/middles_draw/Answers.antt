-- `count::middles_draw` meets its contract. The invariant: what the codings before this one draw is behind.
use Rattle.std.proofs.Common.{◌≡◌, ℕ, ap, ◌∙◌, arith}
use Rattle.coding_maker.specs.Parts.{begins}
use Rattle.coding_maker.specs.Source.{past}
use Rattle.coding_maker.proofs.DrawCounts.{within_coding}
use Rattle.coding_maker.proofs.SourceLaws.{begins_past, begins_near, begins_none}
use Rattle.maker.specs.MadeChain.{middle_use, middles_draw}
use Rattle.maker.proofs.count.middles_draw.Goals as goal

pub loop-init : goal.loop-init
loop-init c = begins_none _ _

pub coding_draws-requires : goal.coding_draws-requires
coding_draws-requires c = omega (arith, begins_near middle_use c.loop.counter _ _ c.loop.invariant 15 100000 (λ k. within_coding) c.requires)

pub loop-preserved : goal.loop-preserved
loop-preserved c = begins_past middle_use c.loop.counter _ _ c.loop.invariant _ c.coding_draws.ensures

pub returns : goal.returns
unfolding middles_draw
returns c =
    let e : c.loop.counter ≡ 24 = omega arith in
    c.loop.invariant ∙ ap (λ (n : ℕ). past (begins middle_use n) c.args.source.now) e

-- `count::rounds_draw` meets its contract. The invariant: what the rounds before this one draw is behind.
use Rattle.std.proofs.Common.{◌≡◌, ℕ, ap, ◌∙◌, arith}
use Rattle.coding_maker.specs.Parts.{begins}
use Rattle.coding_maker.specs.Source.{past}
use Rattle.coding_maker.proofs.SourceLaws.{begins_past, begins_near, begins_none}
use Rattle.maker.specs.MadeChain.{round_use, rounds_draw}
use Rattle.maker.proofs.ChainTurns.{within_round}
use Rattle.maker.proofs.count.rounds_draw.Goals as goal

pub loop-init : goal.loop-init
loop-init c = begins_none _ _

pub round_draws-requires : goal.round_draws-requires
round_draws-requires c = omega (arith, c.requires.0, begins_near round_use c.loop.counter _ _ c.loop.invariant 384 50000 (λ l. within_round) c.requires.1)

pub loop-preserved : goal.loop-preserved
loop-preserved c = begins_past round_use c.loop.counter _ _ c.loop.invariant _ c.round_draws.ensures

pub returns : goal.returns
unfolding rounds_draw
returns c =
    let e : c.loop.counter ≡ c.args.r = omega arith in
    c.loop.invariant ∙ ap (λ (n : ℕ). past (begins round_use n) c.args.source.now) e

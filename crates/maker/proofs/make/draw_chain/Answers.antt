-- `make::draw_chain` meets its contract.
use Rattle.std.proofs.Common.{◌≡◌, ◌+◌, ◌*◌, length, ◌∙◌, arith}
use Rattle.lists.proofs.TwoParts.{rest_length, rest_joined}
use Rattle.cipher.specs.KeySize.{rounds}
use Rattle.cipher.proofs.KeySizeLaws.{rounds_le}
use Rattle.coding_maker.specs.Parts.{begins}
use Rattle.coding_maker.proofs.DrawCounts.{within_begins}
use Rattle.coding_maker.proofs.SourceLaws.{near_after}
use Rattle.maker.specs.Planned.{planned}
use Rattle.maker.specs.MadeChain.{set_use}
use Rattle.maker.proofs.ChainTurns.{within_set, sets_size, chain_drawn, chain_made_lem}
use Rattle.maker.proofs.make.draw_chain.Goals as goal

pub draw_rounds-requires : goal.draw_rounds-requires
draw_rounds-requires c =
    let p = planned c.args.plan.now in
    let q = c.rounds-r in
    let n = 32 * (q.result + 2) in
    let h = rounds_le c.args.size in
    let sets : length c.draw_sets.new.out ≡ 512 * (q.result + 2) = sets_size p _ n _ c.draw_sets.ensures.1 ∙ omega arith in
    let room : length c.args.out.now ≡ 512 * (q.result + 2) + 408 * q.result = omega (arith, c.requires, q.ensures) in
    let b = near_after (n * 15) 0 (begins (set_use p) n) (within_begins 15 (set_use p) (within_set p) n) _ _ c.draw_sets.ensures.0 (omega (arith, c.new-source.ensures.0)) in (
      omega (arith, h, q.ensures),
      omega (arith, h, q.ensures, b),
      rest_length c.draw_sets.new.out c.args.out.now c.args.out.now (512 * (q.result + 2)) (408 * q.result) room sets ∙ omega arith,
    )

pub returns : goal.returns
returns c =
    let p = planned c.args.plan.now in
    let q = c.rounds-r in
    let sets : length c.draw_sets.new.out ≡ 512 * (q.result + 2) = sets_size p _ (32 * (q.result + 2)) _ c.draw_sets.ensures.1 ∙ omega arith in
    let room : length c.args.out.now ≡ 512 * (q.result + 2) + 408 * q.result = omega (arith, c.requires, q.ensures) in
    let random = c.args.random.now in
    let new = c.new-source.ensures in
    let r = rounds c.args.size in (
      chain_drawn p random r q.result _ _ new.1 q.ensures c.draw_sets.ensures.0 _ new.0 c.draw_rounds.ensures.0,
      rest_joined c.draw_sets.new.out c.draw_rounds.new.out c.args.out.now (512 * (q.result + 2)) (408 * q.result) room sets
          ∙ chain_made_lem p random r q.result _ _ new.1 q.ensures c.draw_sets.ensures.0 _ _ c.draw_sets.ensures.1 c.draw_rounds.ensures.1,
    )

-- `fill::draw_masks` meets its contract. The invariant: k masks are written, and their bytes are behind.
use Rattle.std.proofs.Common.{◌≡◌, ℕ, get_or, refl, ap, ◌∙◌, arith, length-set}
use Rattle.lists.specs.Tabulation.{tab}
use Rattle.lists.proofs.PartLaws.{tab_turn, tab_full}
use Rattle.coding_maker.specs.Source.{rest, past}
use Rattle.coding_maker.specs.declared.draw.Source.{Source}
use Rattle.coding_maker.proofs.SourceLaws.{nothing_past, past_past}
use Rattle.maker.specs.MadeChain.{mask_from, masks_from}
use Rattle.maker.proofs.ChainTurns.{mask_drawn}
use Rattle.maker.proofs.fill.draw_masks.Goals as goal

pub loop-k-init : goal.loop-k-init
unfolding tab
loop-k-init c = (refl, nothing_past (λ s. 0) _ refl, refl)

pub loop-k-preserved : goal.loop-k-preserved
loop-k-preserved c =
    let source = c.args.source.now in
    let k = c.loop-k.k in
    let e = c.loop-k.invariant.1 in (
      simp length-set c.loop-k.invariant.0,
      c.byte.ensures.1 ∙ ap (past (λ s. 1)) e ∙ past_past (λ s. k) (λ s. 1) source,
      tab_turn (λ i. mask_from i (rest source)) _ _ k _ c.loop-k.invariant.2
          (mask_drawn source.random.now source.at k c.byte.result (c.byte.ensures.0 ∙ ap (λ (t : Source). get_or t.random.now t.at 0) e)) (omega arith),
    )

pub returns : goal.returns
unfolding masks_from
returns c =
    let e : c.loop-k.k ≡ 24 = omega (arith, c.requires.1) in
    (c.loop-k.invariant.1 ∙ ap (λ (n : ℕ). past (λ s. n) c.args.source.now) e, tab_full _ _ _ 24 c.loop-k.k c.loop-k.invariant.2 e c.requires.1)

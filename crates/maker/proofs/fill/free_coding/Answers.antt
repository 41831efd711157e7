-- `fill::free_coding` meets its contract.
use Rattle.std.proofs.Common.{◌-◌, ◌*◌, ℕ, take, drop, sym, ap, ◌∙◌, arith}
use native.Mathlib.Nat.{add-sub_cancel_left}
use Rattle.coding_maker.specs.Draw.{coding_draws}
use Rattle.coding_maker.specs.Source.{rest}
use Rattle.coding_maker.proofs.SourceLaws.{nothing_past, past_same}
use Rattle.maker.specs.Planned.{planned}
use Rattle.maker.specs.MadeChain.{set_use}
use Rattle.maker.proofs.Places.{given_known}
use Rattle.maker.proofs.ChainTurns.{set_use_given, set_use_drawn, free_given, free_drawn}
use Rattle.maker.proofs.fill.free_coding.Goals as goal

pub overflow_sub-a : goal.overflow_sub-a
overflow_sub-a c = (given_known _ _ (sym c.gives.ensures ∙ c.if-gives.true)).0

pub slice_bounds-copy_from_slice-end : goal.slice_bounds-copy_from_slice-end
slice_bounds-copy_from_slice-end c = let h = given_known _ _ (sym c.gives.ensures ∙ c.if-gives.true) in omega (arith, h.0, h.1)

pub returns-then-gives : goal.returns-then-gives
returns-then-gives c =
    let a = c.args in
    let p = planned a.plan.now in
    let s = rest a.source.now in
    let at = 16 * (a.k - 32) in
    let known = sym c.gives.ensures ∙ c.if-gives.true in (
      nothing_past (set_use p a.k) _ (set_use_given p a.k s c.requires.3 known),
      c.copy_from_slice.ensures.after ∙ ap (λ (n : ℕ). take n (drop at p.given)) (add-sub_cancel_left at 16) ∙ sym (free_given p a.k s known),
    )

pub returns : goal.returns
returns c =
    let a = c.args in
    let p = planned a.plan.now in
    let s = rest a.source.now in
    let drawn = sym c.gives.ensures ∙ c.if-gives.false in (
      c.draw_coding.ensures.0 ∙ past_same coding_draws (set_use p a.k) _ (sym (set_use_drawn p a.k s c.requires.3 drawn)),
      c.draw_coding.ensures.1 ∙ sym (free_drawn p a.k s drawn),
    )

-- `count::set_use` meets its contract.
use Rattle.std.proofs.Common.{sym, ◌∙◌}
use Rattle.coding_maker.specs.Draw.{coding_draws}
use Rattle.coding_maker.specs.Source.{rest}
use Rattle.coding_maker.proofs.SourceLaws.{nothing_past, past_same}
use Rattle.maker.specs.Planned.{planned}
use Rattle.maker.specs.MadeChain.{set_use}
use Rattle.maker.proofs.ChainTurns.{set_use_fixed, set_use_given, set_use_drawn}
use Rattle.maker.proofs.count.set_use.Goals as goal

pub returns-then-fixes : goal.returns-then-fixes
returns-then-fixes c =
    let a = c.args in
    let p = planned a.plan.now in
    nothing_past (set_use p a.k) _ (set_use_fixed p a.k (rest a.source.now) (sym c.fixes.ensures ∙ c.if-fixes.true))

pub returns-then-gives : goal.returns-then-gives
returns-then-gives c =
    let a = c.args in
    let p = planned a.plan.now in
    nothing_past (set_use p a.k) _ (set_use_given p a.k (rest a.source.now) (sym c.fixes.ensures ∙ c.if-fixes.false) (sym c.gives.ensures ∙ c.if-gives.true))

pub returns : goal.returns
returns c =
    let a = c.args in
    let p = planned a.plan.now in
    c.coding_draws.ensures
    ∙ past_same coding_draws (set_use p a.k) _
    (sym (set_use_drawn p a.k (rest a.source.now) (sym c.fixes.ensures ∙ c.if-fixes.false) (sym c.gives.ensures ∙ c.if-gives.false)))

-- `fill::set_coding` meets its contract.
use Rattle.std.proofs.Common.{◌+◌, ◌*◌, ◌++◌, List, ℕ, take, drop, sym, ap, ◌∙◌}
use Rattle.coding_maker.specs.Source.{rest}
use Rattle.coding_maker.proofs.SourceLaws.{nothing_past}
use Rattle.maker.specs.Planned.{planned}
use Rattle.maker.specs.MadeChain.{set_use, free_coding}
use Rattle.maker.proofs.Places.{fixed_room}
use Rattle.maker.proofs.ChainTurns.{set_use_fixed, place_fixed}
use Rattle.maker.proofs.fill.set_coding.Goals as goal

pub overflow_sub-from : goal.overflow_sub-from
overflow_sub-from c = (fixed_room (planned c.args.plan.now) c.args.plan.now.two_words c.args.k (sym c.fixes.ensures ∙ c.if-fixes.true)).0

pub returns-then-fixes : goal.returns-then-fixes
returns-then-fixes c =
    let known = sym c.fixes.ensures ∙ c.if-fixes.true in
    let a = c.args in
    let p = planned a.plan.now in
    let s = rest a.source.now in
    let out = a.out.now in (
      nothing_past (set_use p a.k) _ (set_use_fixed p a.k s known),
      c.put_block.ensures
          ∙ ap (λ (x : List ℕ). take (16 * a.k) out ++ x ++ drop (16 * a.k + 16) out) (place_fixed p a.k out c.block_at-coding.result (free_coding p a.k s) known c.block_at-coding.ensures),
    )

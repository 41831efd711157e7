-- `padding::padding` meets its contract.
use Rattle.std.proofs.Common.{sym, ◌∙◌, rules, arith}
use Rattle.archive.proofs.PaddingLaws.{padding_low, padding_high, padding_all, padding_not}
use Rattle.archive.proofs.padding.padding.Goals.{then-v-eq0-via-then-v-eq0, then-v-eq0-via-else-v-eq0+then-v-gt-BLOCK}
use Rattle.archive.proofs.padding.padding.Goals as goal

pub returns-then-v-eq0 : goal.returns-then-v-eq0
returns-then-v-eq0 c =
    elim c.then-v-eq0.branch [
      | then-v-eq0-via-then-v-eq0 w ↦ sym (padding_low c.args.b (search rules) (sym c.from-v.ensures ∙ w.if-v-eq0.true))
      | then-v-eq0-via-else-v-eq0+then-v-gt-BLOCK w ↦ sym (padding_high c.args.b (search rules) (omega (arith, c.from-v.ensures, w.if-v-gt-BLOCK.true)))
    ]

pub returns-then-ends_with : goal.returns-then-ends_with
returns-then-ends_with c =
    padding_all c.args.b (search rules) _ c.from-v.ensures (omega arith) (omega arith) (sym c.ends_with.ensures ∙ c.if-ends_with.true)

pub returns-else-ends_with : goal.returns-else-ends_with
returns-else-ends_with c =
    padding_not c.args.b (search rules) _ c.from-v.ensures (omega arith) (omega arith) (sym c.ends_with.ensures ∙ c.if-ends_with.false)

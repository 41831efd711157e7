-- `run::run_round` meets its contract.
use Rattle.std.proofs.Common.{ℕ, List, sym, ap, ap₂, ◌∙◌}
use Rattle.cipher.specs.Tables.{table_round}
use Rattle.table_reader.proofs.Typed.{array_block}
use Rattle.driver.proofs.AnswerLaws.{whole, tables_6, tables_7, tables_done}
use Rattle.driver.proofs.run.run_round.Goals as goal

pub returns-in_default : goal.returns-in_default
returns-in_default c = sym (tables_6 _ _ c.in_default.ensures.1)

pub returns-then-block-ne-BLOCK : goal.returns-then-block-ne-BLOCK
returns-then-block-ne-BLOCK c = sym (tables_7 _ _ c.in-Ok.ensures.1.long c.if-block-ne-BLOCK.true)

pub step-requires : goal.step-requires
step-requires c = array_block _ _ c.block_at-y.type_inv

pub returns : goal.returns
returns c =
    ap (λ (b : List ℕ). (0, b))
    (c.step.ensures ∙ ap₂ table_round c.in-Ok.ensures.1.same (c.block_at-y.ensures ∙ whole _ c.if-block-ne-BLOCK.false))
    ∙ sym (tables_done _ _ c.in-Ok.ensures.1.long c.if-block-ne-BLOCK.false)

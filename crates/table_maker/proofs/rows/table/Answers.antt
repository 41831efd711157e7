-- `rows::table` meets its contract.
use Rattle.std.proofs.Common.{get_or, rules}
use Rattle.table_maker.specs.Rows.{row_by, table_by}
use Rattle.table_maker.proofs.rows.table.Goals as goal

pub returns : goal.returns
unfolding table_by
returns g c =
    let a = c.args in
    c.in_parts.ensures (λ x. row_by g.O.Operation.op a.e.now (get_or a.a.now x 0) a.b.now) (λ p part left l e w. search rules)

-- `rows::row` meets its contract. The invariant: q entries are written.
use Rattle.table_maker.proofs.RowLaws.{RowTill}
use Rattle.table_maker.proofs.rows.row.Given as goal

abbrev pub invariant-loop-q : goal.invariant-loop-q
invariant-loop-q g l = RowTill g.O.Operation.op l.e l.s l.b l.initial.out l.out l.q

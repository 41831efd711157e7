-- `rows::row` meets its contract.
use Rattle.std.proofs.Common.{refl, ap₂, ◌∙◌, arith}
use Rattle.lists.specs.Tabulation.{tab}
use Rattle.table_maker.proofs.RowLaws.{row_next, row_done}
use Rattle.table_maker.proofs.rows.row.Goals as goal

pub loop-q-init : goal.loop-q-init
unfolding tab
loop-q-init g c = (omega arith, refl, refl)

pub loop-q-preserved : goal.loop-q-preserved
loop-q-preserved g c =
    let a = c.args in
    row_next g.O.Operation.op a.e.now a.s a.b.now a.out.now c.of.result c.loop-q.q c.loop-q.out c.loop-q.invariant
    (c.of.ensures ∙ ap₂ g.O.Operation.op c.from-at.ensures c.from.ensures) (omega arith) c.requires.1

pub returns : goal.returns
returns g c =
    row_done g.O.Operation.op c.args.e.now c.args.s c.args.b.now c.args.out.now c.loop-q.out c.loop-q.q c.loop-q.invariant (omega arith) c.requires.1

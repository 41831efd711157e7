-- `adds::add_table` meets its contract.
use mathlib.Core.Path.{◌∙◌}
use native.Mathlib.Omega.{arith}
use Rattle.table_maker.proofs.MadeLaws.{add_fits, add_made}
use Rattle.table_maker.proofs.adds.add_table.Goals as goal

pub row_summands-a-requires : goal.row_summands-a-requires
row_summands-a-requires c =
    (omega arith, c.args.s.now.low, c.half.ensures.1, c.mask_in.ensures.1)

pub table-requires : goal.table-requires
table-requires c =
    add_fits c.args.s.now.bytes c.args.s.now.bytes _ _ _ _ _ _ _ _ _ _ c.row_summands-a.ensures c.keyed-b.ensures c.sum_entries-e.ensures
    c.args.s.now.low c.args.s.now.low c.half.ensures.1 c.half-2.ensures.1 c.mask_in.ensures.1 c.requires.1

pub returns : goal.returns
returns c =
    c.table.ensures
    ∙ add_made _ _ _ _ _ _ _ _ _ _ c.row_summands-a.ensures c.keyed-b.ensures c.sum_entries-e.ensures c.mask_in.ensures.0
    c.half.ensures.0 c.half-2.ensures.0

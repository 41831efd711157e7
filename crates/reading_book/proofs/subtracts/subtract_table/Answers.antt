-- `subtracts::subtract_table` meets its contract.
use mathlib.Core.Path.{◌∙◌}
use native.Mathlib.Omega.{arith}
use lib.Dec.{lit<}
use Rattle.table_maker.proofs.MadeLaws.{add_fits}
use Rattle.reading_book.proofs.ReadingTableMade.{subtract_made}
use Rattle.reading_book.proofs.subtracts.subtract_table.Goals as goal

pub row_summands-a-requires : goal.row_summands-a-requires
row_summands-a-requires c =
    (omega arith, c.args.m.now.low, lit< tt, c.mask_in.ensures.1)

pub difference_entries-e-requires : goal.difference_entries-e-requires
difference_entries-e-requires c =
    (c.requires.0, c.half-2.ensures.1)

pub table-requires : goal.table-requires
table-requires c =
    add_fits c.args.m.now.bytes c.args.n.now.bytes _ _ _ _ _ _ _ _ _ _ c.row_summands-a.ensures c.keyed-b.ensures c.difference_entries-e.ensures
    c.args.m.now.low c.args.n.now.low (lit< tt) c.half.ensures.1 c.mask_in.ensures.1 c.requires.1

pub returns : goal.returns
returns c =
    c.table.ensures
    ∙ subtract_made _ _ _ _ _ _ _ _ _ _ _ _ c.row_summands-a.ensures c.keyed-b.ensures c.difference_entries-e.ensures
    c.mask_in.ensures.0 c.half.ensures.0 c.half-2.ensures.0

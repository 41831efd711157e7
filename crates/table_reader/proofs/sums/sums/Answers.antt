-- `sums::sums` meets its contract. The invariant: m bytes of each sum are made.
use mathlib.Core.Path.{refl}
use native.Mathlib.Omega.{arith}
use Rattle.table_reader.proofs.ReadingLaws.{three}
use Rattle.table_reader.proofs.Columns.{three_full}
use Rattle.table_reader.proofs.SumLaws.{sums_first, sums_next}
use Rattle.table_reader.proofs.sums.sums.Goals as goal

pub loop-m-init : goal.loop-m-init
loop-m-init c = sums_first _ _ _ refl

pub loop-m-preserved : goal.loop-m-preserved
unfolding three
loop-m-preserved c =
    sums_next _ _ _ _ _ _ _ _ _ _ _ _ _ _ (omega arith) c.loop-m.invariant c.add_two-w0.ensures c.add_two-w1.ensures c.add_two-w2.ensures

pub returns : goal.returns
returns c = three_full _ _ _ _ (omega arith) c.loop-m.invariant.are

-- `folds::fold_table` meets its contract.
use mathlib.Core.Path.{◌∙◌}
use Prim.Native.Nat.{◌*◌, ◌-◌}
use lib.ListN.{drop, length-drop}
use lib.Seq.{take_all}
use native.Mathlib.Omega.{arith}
use Rattle.lists.proofs.PartLaws.{part_end}
use Rattle.table_maker.proofs.MadeLaws.{fold_fits, fold_made}
use Rattle.table_maker.proofs.folds.fold_table.Goals as goal

pub table-requires : goal.table-requires
table-requires c =
    fold_fits c.args.s.now.bytes c.args.u.now.bytes c.args.first.now _ _ _ _ _ _ c.keyed-a.ensures
    (take_all (512 - 16 * c.args.p) (drop (16 * c.args.p) c.args.u.now.bytes) (omega (arith, length-drop (16 * c.args.p) c.args.u.now.bytes))) (part_end c.args.first.now (16 * c.args.p))
    c.args.s.now.low c.args.u.now.low c.block_half.ensures.1 (omega arith) (omega arith) c.requires.2

pub returns : goal.returns
returns c =
    c.table.ensures
    ∙ fold_made _ _ _ _ _ _ _ _ _ c.keyed-a.ensures (take_all (512 - 16 * c.args.p) (drop (16 * c.args.p) c.args.u.now.bytes) (omega (arith, length-drop (16 * c.args.p) c.args.u.now.bytes))) (part_end c.args.first.now (16 * c.args.p))
    c.block_half.ensures.0

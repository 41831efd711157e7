-- `rows` meets its contract. The invariant: l rows are stored, and the buffer still begins with the key.
use mathlib.Core.Path.{◌∙◌}
use native.Mathlib.Nat.{le_refl}
use native.Mathlib.Omega.{arith}
use lib.ListN.{length, length-set}
use lib.Seq.{take-set-le}
use Rattle.words.proofs.RowLaws.{rows_none}
use Rattle.wf_lea.specs.WfLea.{row}
use Rattle.wf_lea.proofs.MessageLaws.{key_front, message_is, message_room, message_fits}
use Rattle.wf_lea.proofs.RowLaws.{row_stored, rows_stored}
use Rattle.wf_lea.proofs.rows.Goals as goal

pub loop-l-init : goal.loop-l-init
loop-l-init c =
    (omega arith, c.copied-m.type_inv.1.0.1, key_front c.args.key.now c.copied-m.result c.copied-m.ensures, rows_none (row c.args.key.now) c.args.n c.requires.1)

pub slice_bounds-row-end : goal.slice_bounds-row-end
slice_bounds-row-end c =
    message_room c.args.key.now c.loop-l.m _ c.requires.0 c.loop-l.invariant.1 c.loop-l.invariant.2

pub row-requires : goal.row-requires
row-requires c =
    message_fits c.args.key.now c.loop-l.m _ c.requires.0 c.loop-l.invariant.1 c.loop-l.invariant.2

pub loop-l-preserved : goal.loop-l-preserved
loop-l-preserved c =
    let key = c.args.key.now in
    let k = length key in
    let m = c.loop-l.m in
    let l = c.loop-l.l in
    let v = c.loop-l.invariant in
    let message = message_is key m _ c.requires.0 v.1 v.2 in (
      omega arith,
      length-set m k _ ∙ v.1,
      take-set-le k m k _ (le_refl k) ∙ v.2,
      row_stored key _ c.row.result _ c.args.n l _ (omega arith) v.3 c.row.ensures message (omega arith),
    )

pub returns : goal.returns
returns c = rows_stored c.args.key.now c.loop-l.r-items c.args.n c.loop-l.l (omega arith) c.loop-l.invariant.3

-- `write::write_ink` meets its contract.
use mathlib.Core.Path.{ap, ◌∙◌}
use native.Mathlib.Omega.{arith}
use Rattle.std.proofs.Common.{Result, ℕ}
use Rattle.cipher.specs.declared.refusal.Refusal.{Refusal}
use Rattle.cipher.specs.Refusal.{written_of}
use Rattle.cipher.proofs.PassedLaws.{passed}
use Rattle.inkfile.specs.Writing.{fields_given}
use Rattle.inkfile.proofs.GivenLaws.{few_kinds, added_most, added}
use Rattle.inkfile.proofs.WriteInkLaws.{call_refused, sizes, write_no_room, write_all}
use Rattle.inkfile.proofs.write.write_ink.Goals as goal

pub returns-in_err-fault : goal.returns-in_err-fault
unfolding fields_given
returns-in_err-fault c =
    ap (λ (r : Result ℕ Refusal). (written_of r, c.args.out.now)) (passed c.from_residual.ensures.1) ∙ call_refused _ _ c.in_err-fault.ensures _

pub remarks_size-requires : goal.remarks_size-requires
remarks_size-requires c =
    let z = sizes _ c.in_ok-fault.ensures in
    let few = few_kinds _ _ z.few in
    record { few = few; short = added_most _ _ few _ z.remarks_most }

pub overflow_add-n-2 : goal.overflow_add-n-2
overflow_add-n-2 c =
    let z = sizes _ c.in_ok-fault.ensures in
    omega (arith, z.sealed_most, z.remarks_most, added _ _ (few_kinds _ _ z.few) _ c.remarks_size.ensures)

pub returns-then-out-n : goal.returns-then-out-n
unfolding fields_given
returns-then-out-n c =
    let z = sizes _ c.in_ok-fault.ensures in
    write_no_room _ c.in_ok-fault.ensures _ (omega (arith, c.if-out-n.true, added _ _ (few_kinds _ _ z.few) _ c.remarks_size.ensures))

pub put_fixed-at-requires : goal.put_fixed-at-requires
put_fixed-at-requires c = let z = sizes _ c.in_ok-fault.ensures in omega (arith, z.fixed, c.if-out-n.false)

pub put_remarks-requires : goal.put_remarks-requires
put_remarks-requires c =
    let z = sizes _ c.in_ok-fault.ensures in
    let few = few_kinds _ _ z.few in
    (few, omega (arith, z.fixed, c.put_fixed-at.auto.out, c.put_fixed-at.ensures.0, c.if-out-n.false, added _ _ few _ c.remarks_size.ensures))

pub returns : goal.returns
unfolding fields_given
returns c =
    let z = sizes _ c.in_ok-fault.ensures in
    write_all _ c.in_ok-fault.ensures _ _ _ _ _ (omega (arith, added _ _ (few_kinds _ _ z.few) _ c.remarks_size.ensures))
    c.if-out-n.false c.put_fixed-at.ensures c.put_remarks.ensures

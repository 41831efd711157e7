-- `in_parts` meets its contract.
use Rattle.std.proofs.Common.{◌-◌, ◌+◌, ◌≤◌, length, refl, arith}
use borrow.Rule.Slice.PartMut.{same_len_mid}
use Rattle.lists.specs.Tabulation.{chunks}
use Rattle.lists.proofs.PartLaws.{length_part}
use Rattle.parts.proofs.PartsLaws.{part_inside, parts_next}
use Rattle.parts.proofs.in_parts.Goals as goal

pub loop-p-init : goal.loop-p-init
unfolding chunks
loop-p-init g c = (omega arith, omega arith, refl, λ h w. refl)

pub loop-p-preserved : goal.loop-p-preserved
loop-p-preserved g c =
    let a = c.args in
    let at = c.loop-p.at in
    let inside : at + a.len ≤ length c.loop-p.out = omega (arith, part_inside (λ h. Unit) a.len a.n a.out.now at c.loop-p.p c.loop-p.invariant.1 (omega arith) c.requires.room, c.loop-p.invariant.2) in
    parts_next _ a.len a.n a.out.now c.loop-p.out _ at c.loop-p.p c.loop-p.invariant (omega arith) c.requires.room
    (λ h w. w c.loop-p.p _ _ (omega arith) (length_part c.loop-p.out at a.len inside) c.fill.ensures)
    (same_len_mid at (at + a.len - at) c.loop-p.out c.fill.new.arg3 c.fill.auto.arg3)

-- `blocks::round_of` meets its contract. The invariant: k blocks went through the round, and the rest is as it was.
use mathlib.Core.Path.{refl, ap, ◌∙◌}
use Prim.Native.Nat.{◌+◌, ◌-◌, ◌*◌}
use native.Mathlib.Omega.{arith}
use borrow.Rule.Slice.PartMut.{same_len_mid}
use Rattle.lists.specs.Tabulation.{chunks}
use Rattle.lists.proofs.BlockBuffers.{made_part, made_lent}
use Rattle.reading.specs.Tables.{read_round}
use Rattle.reader.proofs.BlockLoops.{round_of, length_round, all_made}
use Rattle.reader.proofs.blocks.round_of.Goals as goal

pub loop-k-init : goal.loop-k-init
unfolding chunks
loop-k-init c = (refl, refl)

pub loop-k-preserved : goal.loop-k-preserved
loop-k-preserved c =
    let a = c.args in
    let v = c.loop-k.invariant in
    let k = c.loop-k.k in
    let f = round_of a.t.now a.out.now in
    let len = length_round a.t.now a.out.now in
    let read = made_part f len a.out.now k c.loop-k.out v.0 in (
      made_lent f len a.out.now k c.loop-k.out v.0 _ (c.step.ensures ∙ ap (read_round a.t.now) read),
      same_len_mid (16 * k) (16 * k + 16 - 16 * k) c.loop-k.out c.step.new.y c.step.auto.y ∙ v.1,
    )

pub returns : goal.returns
returns c = all_made _ _ _ c.requires c.loop-k.k (omega arith) c.loop-k.invariant.0

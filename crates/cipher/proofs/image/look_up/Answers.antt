-- `image::look_up` meets its contract. The invariant: k bytes are written, and the rest is as it was.
use Rattle.std.proofs.Common.{get_or, refl, ap, arith, length-set}
use Rattle.lists.specs.Tabulation.{tab}
use Rattle.lists.proofs.PartLaws.{tab_turn, tab_full}
use Rattle.cipher.specs.Images.{image_at, imaged}
use Rattle.cipher.proofs.image.look_up.Goals as goal

pub loop-k-init : goal.loop-k-init
unfolding tab
loop-k-init c = (omega arith, refl, refl)

pub bounds-images-k : goal.bounds-images-k
bounds-images-k c = omega (arith, c.from.ensures)

pub loop-k-preserved : goal.loop-k-preserved
loop-k-preserved c =
    let a = c.args in (
      omega arith,
      simp length-set c.loop-k.invariant.1,
      tab_turn (λ i. image_at a.images.now i (get_or a.block.now i 0)) _ _ _ _ c.loop-k.invariant.2 (ap (image_at a.images.now c.loop-k.k) c.from.ensures) (omega arith),
    )

pub shape_of-out : goal.shape_of-out
shape_of-out c = c.loop-k.invariant.1

pub returns : goal.returns
unfolding imaged
returns c = tab_full _ _ _ 16 c.loop-k.k c.loop-k.invariant.2 (omega arith) (omega arith)

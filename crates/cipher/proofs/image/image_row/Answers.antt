-- `image::image_row` meets its contract. The invariant: l bytes are written, and the rest is as it was.
use Rattle.std.proofs.Common.{◌+◌, ◌*◌, refl, arith, length-set}
use Rattle.lists.specs.Tabulation.{tab}
use Rattle.lists.proofs.PartLaws.{tab_turn, tab_full}
use Rattle.cipher.specs.Coding.{byte_coded}
use Rattle.cipher.proofs.ImageLaws.{image_is}
use Rattle.cipher.proofs.image.image_row.Goals as goal

pub overflow_mul-high : goal.overflow_mul-high
overflow_mul-high c =
    omega (arith, c.requires.3 (32 * c.args.k + 16 + c.args.h) (omega arith))

pub loop-l-init : goal.loop-l-init
unfolding tab
loop-l-init c = (omega arith, refl, refl)

pub overflow_add-code-in-loop-l : goal.overflow_add-code-in-loop-l
overflow_add-code-in-loop-l c =
    omega (arith, c.requires.3 (32 * c.args.k + c.loop-l.l) (omega arith), c.requires.3 (32 * c.args.k + 16 + c.args.h) (omega arith))

pub loop-l-preserved : goal.loop-l-preserved
loop-l-preserved c =
    let a = c.args in (
      omega arith,
      simp length-set c.loop-l.invariant.1,
      tab_turn (λ i. byte_coded a.set.now a.k (16 * a.h + i)) _ _ _ _ c.loop-l.invariant.2 (image_is a.set.now a.k a.h c.loop-l.l c.requires.1 (omega arith)) (omega arith),
    )

pub shape_of-out : goal.shape_of-out
shape_of-out c = c.loop-l.invariant.1

pub returns : goal.returns
returns c = tab_full _ _ _ 16 c.loop-l.l c.loop-l.invariant.2 (omega arith) (omega arith)

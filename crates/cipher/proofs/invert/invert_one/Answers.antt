-- `invert::invert_one` meets its contract. The invariant: each number below v stands at its image.
use Rattle.std.proofs.Common.{◌*◌, ◌<◌, sym, ◌∙◌, not-suc-le-zero, arith, length-set}
use Rattle.lists.proofs.PartLaws.{length_part, get_or_part}
use Rattle.cipher.specs.Coding.{coding_at}
use Rattle.cipher.proofs.Permutation.{inverse_is, placed_turn}
use Rattle.cipher.proofs.invert.invert_one.Goals as goal

pub loop-v-init : goal.loop-v-init
loop-v-init c = (omega arith, c.requires.1, λ w h. absurd (not-suc-le-zero h))

pub bounds-out-from : goal.bounds-out-from
bounds-out-from c =
    let s = c.args.codings.now in
    let l = length_part s (16 * c.args.k) 16 (omega arith) in
    let v : c.loop-v.v < 16 = omega arith in
    let b = c.requires.2.low c.loop-v.v v in
    omega (arith, c.from.ensures, get_or_part s (16 * c.args.k) 16 c.loop-v.v v)

pub loop-v-preserved : goal.loop-v-preserved
loop-v-preserved c =
    let s = c.args.codings.now in
    let l = length_part s (16 * c.args.k) 16 (omega arith) in
    let v : c.loop-v.v < 16 = omega arith in (
      omega arith,
      simp length-set c.loop-v.invariant.1,
      placed_turn (coding_at s c.args.k) c.requires.2 c.loop-v.out c.loop-v.v c.from.result c.loop-v.invariant.1 v
          (c.from.ensures ∙ get_or_part s (16 * c.args.k) 16 c.loop-v.v v) c.loop-v.invariant.2,
    )

pub shape_of-out : goal.shape_of-out
shape_of-out c = c.loop-v.invariant.1 ∙ sym c.requires.1

pub returns : goal.returns
returns c =
    let l = length_part c.args.codings.now (16 * c.args.k) 16 (omega arith) in
    sym (inverse_is _ c.requires.2 _ c.loop-v.invariant.1 (λ w h. c.loop-v.invariant.2 w (omega arith)))

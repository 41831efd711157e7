-- `read::copy` meets its contract. The invariant: k bytes are copied, and the rest is as it was.
use Rattle.std.proofs.Common.{get_or, refl, ◌∙◌, arith, length-set}
use Rattle.lists.specs.Tabulation.{tab}
use Rattle.lists.proofs.TabulationLaws.{tab_is}
use Rattle.lists.proofs.PartLaws.{tab_turn, tab_full}
use Rattle.reader.proofs.read.copy.Goals as goal

pub loop-k-init : goal.loop-k-init
unfolding tab
loop-k-init c = (omega arith, refl, refl)

pub loop-k-preserved : goal.loop-k-preserved
loop-k-preserved c = (
  omega arith,
  simp length-set c.loop-k.invariant.1,
  tab_turn (λ i. get_or c.args.text.now i 0) _ _ _ _ c.loop-k.invariant.2 refl (omega arith),
)

pub shape_of-out : goal.shape_of-out
shape_of-out c = c.loop-k.invariant.1

pub returns : goal.returns
returns c =
    let b = c.args.text.now in
    tab_full _ _ _ _ c.loop-k.k c.loop-k.invariant.2 (omega arith) c.requires ∙ tab_is _ (λ i. get_or b i 0) b refl (λ i h. refl)

-- `draw::unshuffle` meets its contract. The invariant: v places are written.
use mathlib.Core.Path.{refl}
use native.Mathlib.Omega.{arith}
use lib.ListN.{length-set}
use Rattle.lists.specs.Tabulation.{tab}
use Rattle.lists.proofs.PartLaws.{tab_turn, tab_full}
use Rattle.coding_maker.specs.Draw.{unshuffled}
use Rattle.coding_maker.proofs.draw.unshuffle.Goals as goal

pub loop-v-init : goal.loop-v-init
unfolding tab
loop-v-init c = (omega arith, refl, refl)

pub loop-v-preserved : goal.loop-v-preserved
loop-v-preserved c = (
  omega arith,
  simp length-set c.loop-v.invariant.1,
  tab_turn (λ i. i) _ _ _ _ c.loop-v.invariant.2 refl (omega (arith, c.requires)),
)

pub returns : goal.returns
unfolding unshuffled
returns c = tab_full (λ i. i) _ _ 16 c.loop-v.v c.loop-v.invariant.2 (omega arith) c.requires

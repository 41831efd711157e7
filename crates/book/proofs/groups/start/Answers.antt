-- `groups::start` meets its contract. The invariant: k bytes are written, and the rest is as it was.
use mathlib.Core.Path.{refl, ◌∙◌}
use native.Mathlib.Omega.{arith}
use lib.ListN.{length-set}
use Rattle.lists.specs.Tabulation.{tab}
use Rattle.lists.proofs.PartLaws.{tab_turn, tab_full}
use Rattle.book.proofs.GroupLaws.{start_byte, start_low, start_is}
use Rattle.book.proofs.groups.start.Goals as goal

pub loop-k-init : goal.loop-k-init
unfolding tab
loop-k-init c = (omega arith, refl, refl)

pub start_byte-requires : goal.start_byte-requires
start_byte-requires c =
    start_low c.args.last.bytes.now c.args.last.permuted c.loop-k.k (omega arith)

pub loop-k-preserved : goal.loop-k-preserved
loop-k-preserved c = (
  omega arith,
  simp length-set c.loop-k.invariant.1,
  tab_turn (start_byte c.args.last.bytes.now) _ _ _ _ c.loop-k.invariant.2 c.start_byte.ensures (omega arith),
)

pub shape_of-out : goal.shape_of-out
shape_of-out c = c.loop-k.invariant.1

pub returns : goal.returns
returns c = tab_full _ _ _ 16 c.loop-k.k c.loop-k.invariant.2 (omega arith) (omega arith) ∙ start_is c.args.last.bytes.now

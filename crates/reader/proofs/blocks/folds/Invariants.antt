-- `blocks::folds` meets its contract. The invariant: k blocks are folded, the rest is as it was, and `before` stands in front of the next.
use mathlib.Core.Path.{◌≡◌}
use lib.ListN.{length}
use Rattle.lists.specs.Blocks.{block_before}
use Rattle.lists.proofs.BlockBuffers.{Made}
use Rattle.reader.proofs.BlockLoops.{fold_of}
use Rattle.reader.proofs.blocks.folds.Given as goal

abbrev pub invariant-loop-k : goal.invariant-loop-k
invariant-loop-k l =
    (l.before ≡ block_before l.initial.before l.sealed l.k) × Made (fold_of l.f l.initial.before l.sealed l.initial.out) l.initial.out l.k l.out × (length l.out ≡ length l.initial.out)

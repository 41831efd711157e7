-- `blocks::round_of` meets its contract. The invariant: k blocks went through the round, and the rest is as it was.
use mathlib.Core.Path.{◌≡◌}
use lib.ListN.{length}
use Rattle.lists.proofs.BlockBuffers.{Made}
use Rattle.reader.proofs.BlockLoops.{round_of}
use Rattle.reader.proofs.blocks.round_of.Given as goal

abbrev pub invariant-loop-k : goal.invariant-loop-k
invariant-loop-k l = Made (round_of l.t l.initial.out) l.initial.out l.k l.out × (length l.out ≡ length l.initial.out)

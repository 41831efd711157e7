-- `blocks::rounds` meets its contract. The invariant: the blocks went through as many rounds as there were tables.
use Rattle.reader.proofs.BlockLoops.{Rounded}
use Rattle.reader.proofs.blocks.rounds.Given as goal

abbrev pub invariant-loop-t : goal.invariant-loop-t
invariant-loop-t l = Rounded l.book l.initial.out l.t-index l.out

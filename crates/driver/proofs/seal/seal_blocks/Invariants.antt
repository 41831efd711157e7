-- `seal::seal_blocks` meets its contract. The invariant: k blocks are sealed, and x is the last of them.
use Rattle.std.proofs.Common.{◌≡◌, ◌*◌, ◌++◌, length, drop}
use Rattle.lists.specs.Blocks.{cut}
use Rattle.driver.specs.Driver.{pass}
use Rattle.driver.proofs.SealLaws.{passed_last, done}
use Rattle.driver.proofs.seal.seal_blocks.Given as goal

abbrev pub invariant-loop-k : goal.invariant-loop-k
invariant-loop-k l =
    (l.x ≡ passed_last (pass l.book.body.now 0) l.initial.x (cut l.k l.coded)) × (l.out ≡ done l.book.body.now l.initial.x l.coded l.initial.out l.k ++ drop (16 * l.k) l.initial.out) × (length l.out ≡ length l.initial.out)

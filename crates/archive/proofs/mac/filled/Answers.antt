-- `mac::filled` meets its contract.
use Rattle.std.proofs.Common.{arith}
use Rattle.archive.proofs.MacLaws.{filled_part, filled_whole}
use Rattle.archive.proofs.mac.filled.Goals as goal

pub returns-then-n-lt-BLOCK : goal.returns-then-n-lt-BLOCK
returns-then-n-lt-BLOCK c = filled_part c.args.part.now _ c.copy_from_slice.ensures.after (omega arith)

pub returns-else-n-lt-BLOCK : goal.returns-else-n-lt-BLOCK
returns-else-n-lt-BLOCK c = filled_whole c.args.part.now _ c.copy_from_slice.ensures.after (omega arith)

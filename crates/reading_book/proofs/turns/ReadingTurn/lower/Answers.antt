-- `lower` of the turns of a reading book meets its contract.
use Rattle.std.proofs.Common.{arith}
use Rattle.reading_book.proofs.ReadingTableMade.{lower_back_is}
use Rattle.reading_book.proofs.turns.ReadingTurn.lower.Goals as goal

pub returns : goal.returns
returns c = ((lower_back_is c.args.i c.args.j c.requires.0).1, omega arith)

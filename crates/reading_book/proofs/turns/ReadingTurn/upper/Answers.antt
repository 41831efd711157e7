-- `upper` of the turns of a reading book meets its contract.
use Rattle.std.proofs.Common.{arith}
use Rattle.reading_book.proofs.ReadingTableMade.{upper_back_is}
use Rattle.reading_book.proofs.turns.ReadingTurn.upper.Goals as goal

pub returns : goal.returns
returns c = ((upper_back_is c.args.i c.args.j c.requires.0 c.requires.1).1, omega arith)

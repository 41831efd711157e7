-- `cut` of the turns of a reading book meets its contract.
use Rattle.reading_book.proofs.ReadingTableMade.{cut_is}
use Rattle.reading_book.proofs.turns.ReadingTurn.cut.Goals as goal

pub returns : goal.returns
returns c = cut_is c.args.i c.requires

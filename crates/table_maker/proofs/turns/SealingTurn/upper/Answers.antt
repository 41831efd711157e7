-- `upper` of the turns of a sealing book meets its contract.
use Rattle.std.proofs.Common.{arith}
use Rattle.table_maker.proofs.MadeLaws.{upper_is}
use Rattle.table_maker.proofs.turns.SealingTurn.upper.Goals as goal

pub returns : goal.returns
returns c = ((upper_is c.args.i c.args.j c.requires.0).1, omega arith)

-- `lower` of the turns of a sealing book meets its contract.
use Rattle.std.proofs.Common.{arith}
use Rattle.table_maker.proofs.MadeLaws.{lower_is}
use Rattle.table_maker.proofs.turns.SealingTurn.lower.Goals as goal

pub returns : goal.returns
returns c = ((lower_is c.args.i c.args.j c.requires.0 c.requires.1).1, omega arith)

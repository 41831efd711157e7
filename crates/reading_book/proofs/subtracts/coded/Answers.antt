-- `subtracts::coded` meets its contract.
use native.Mathlib.Omega.{arith}
use mathlib.Core.Path.{refl}
use Rattle.reading_book.proofs.subtracts.coded.Goals as goal

pub returns : goal.returns
returns c = (refl, (c.args.round.ready.after c.args.p (omega arith)).low c.args.g (omega arith))

-- `folds::block_half` meets its contract.
use Rattle.table_maker.proofs.MadeLaws.{block_half_is}
use Rattle.table_maker.proofs.folds.block_half.Goals as goal

pub returns : goal.returns
returns c = (let e = block_half_is c.args.k c.args.p in cc, c.half.ensures.1)

-- `fold::fold_two` meets its contract.
use Rattle.table_reader.specs.Reading.{fold_byte}
use Rattle.table_reader.proofs.fold.fold_two.Goals as goal

pub returns : goal.returns
unfolding fold_byte
returns c = cc

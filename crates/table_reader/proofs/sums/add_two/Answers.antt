-- `sums::add_two` meets its contract.
use Rattle.table_reader.specs.Reading.{low_entry, high_entry}
use Rattle.table_reader.proofs.sums.add_two.Goals as goal

pub returns : goal.returns
unfolding low_entry high_entry
returns c = record { sum = cc; carry = cc }

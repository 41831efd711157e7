-- `turns::turn_two` meets its contract.
use Rattle.table_reader.specs.Reading.{turn_half, turn_byte}
use Rattle.table_reader.proofs.turns.turn_two.Goals as goal

pub returns : goal.returns
unfolding turn_byte turn_half
returns c = cc

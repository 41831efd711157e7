-- `adds::half` meets its contract.
use native.Mathlib.Omega.{arith}
use Rattle.table_maker.proofs.RowLaws.{half_shift}
use Rattle.table_maker.proofs.adds.half.Goals as goal

pub returns : goal.returns
returns c = (half_shift _ _, omega arith)

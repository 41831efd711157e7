-- `turns::half` meets its contract.
use mathlib.Core.Path.{sym, ◌∙◌}
use native.Mathlib.Omega.{arith}
use Rattle.table_reader.proofs.ReadingLaws.{low_half, high_half}
use Rattle.table_reader.proofs.turns.half.Goals as goal

pub returns-then-j-eq0 : goal.returns-then-j-eq0
returns-then-j-eq0 c = (c.low.ensures ∙ sym (low_half _ _ _ c.if-j-eq0.true), omega arith)

pub returns : goal.returns
returns c = (c.high.ensures ∙ sym (high_half _ _ _ c.if-j-eq0.false), omega arith)

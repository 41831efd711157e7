-- `turns::pair` meets its contract.
use mathlib.Core.Path.{◌∙◌}
use Rattle.reader.proofs.TurnLaws.{pair_even, pair_odd}
use Rattle.reader.proofs.turns.pair.Goals as goal

pub returns-then-j-eq0 : goal.returns-then-j-eq0
returns-then-j-eq0 c = c.joined.ensures ∙ pair_even _ _ _ c.if-j-eq0.true

pub returns : goal.returns
returns c = c.joined-2.ensures ∙ pair_odd _ _ _ c.if-j-eq0.false

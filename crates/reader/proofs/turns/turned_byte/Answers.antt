-- `turns::turned_byte` meets its contract.
use mathlib.Core.Path.{ap₂, ◌∙◌}
use Prim.Native.Nat.{ℕ, ◌+◌, ◌*◌}
use Rattle.reader.specs.Round.{turned_byte}
use Rattle.reader.proofs.TurnLaws.{turn_at_lem}
use Rattle.reader.proofs.turns.turned_byte.Goals as goal

pub returns : goal.returns
unfolding turned_byte
returns c =
    c.joined.ensures
    ∙ ap₂ (λ (x y : ℕ). x + 16 * y) (turn_at_lem _ _ _ _ _ _ (c.from.ensures ∙ c.pair-p.ensures))
    (turn_at_lem _ _ _ _ _ _ (c.from-2.ensures ∙ c.pair-q.ensures))

-- `bowlinette_check` meets its contract.
use mathlib.Core.Path.{ap, ◌∙◌}
use Prim.Native.Nat.{ℕ}
use Rattle.bowlinette.specs.Into.{into}
use Rattle.bowlinette.proofs.bowlinette_check.Goals as goal

pub returns : goal.returns
returns c = c.deliver_verdict.ensures ∙ ap (λ (t : ℕ × ℕ). into t c.args.valid.now) c.check.ensures

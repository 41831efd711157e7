-- `in_parts` meets its contract. The invariant: p parts are written, and the rest is as it was.
use Rattle.std.proofs.Common.{◌≡◌, ℕ, ◌<◌, length}
use Rattle.parts.proofs.PartsLaws.{PartsBy}
use Rattle.parts.proofs.in_parts.Given as goal

abbrev pub invariant-loop-p : goal.invariant-loop-p
invariant-loop-p g l =
    PartsBy (λ h. (p : ℕ) (part left : _) → p < l.n → length part.now ≡ l.len → goal.F-post g l.fill p part tt left → left.now ≡ h p)
    l.len l.n l.initial.out l.out l.at l.p

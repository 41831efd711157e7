-- `kind::fault` meets its contract.
use mathlib.Core.Path.{sym, ap, ◌∙◌}
use Rattle.cipher.proofs.PassedLaws.{passed, or_some}
use Rattle.cipher.specs.Refusal.{outcome_of}
use Rattle.inkfile.proofs.FaultLaws.{fault_unknown, fault_undue, fault_unsized, fault_none}
use Rattle.inkfile.proofs.kind.fault.Goals as goal

pub returns-in_err-known : goal.returns-in_err-known
returns-in_err-known c =
    ap outcome_of (passed c.from_residual.ensures.1) ∙ fault_unknown _ _ _ _ c.in_err-known.ensures

pub returns-then-not-placed : goal.returns-then-not-placed
returns-then-not-placed c =
    let known = sym (or_some _ _ _ c.in_ok-known.ensures) in
    sym (fault_undue _ _ _ _ known (sym c.is_due-placed.ensures ∙ c.if-not-placed.true))

pub returns-then-not-measured : goal.returns-then-not-measured
returns-then-not-measured c =
    let known = sym (or_some _ _ _ c.in_ok-known.ensures) in
    let placed = sym c.is_due-placed.ensures ∙ c.if-not-placed.false in
    sym (fault_unsized _ _ _ _ known placed (sym c.may_have-measured.ensures ∙ c.if-not-measured.true))

pub returns : goal.returns
returns c =
    let known = sym (or_some _ _ _ c.in_ok-known.ensures) in
    let placed = sym c.is_due-placed.ensures ∙ c.if-not-placed.false in
    sym (fault_none _ _ _ _ known placed (sym c.may_have-measured.ensures ∙ c.if-not-measured.false))

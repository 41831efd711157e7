-- `write::Given::remarks_fault` meets its contract.
use mathlib.Core.Path.{refl, sym, ap, ◌∙◌}
use native.Mathlib.Omega.{arith}
use Rattle.cipher.proofs.PassedLaws.{passed}
use Rattle.cipher.specs.Refusal.{outcome_of}
use Rattle.cipher.proofs.AnswerLaws.{number_more}
use Rattle.inkfile.specs.WritingSteps.{remarks_fault}
use Rattle.inkfile.proofs.GivenLaws.{body_here, fault_left, no_fault_left, fifth_left, fault_none_left}
use Rattle.inkfile.proofs.write.Given.remarks_fault.Goals as goal

pub loop-i-init : goal.loop-i-init
unfolding remarks_fault
loop-i-init c = (omega arith, refl)

pub returns-in_default : goal.returns-in_default
returns-in_default c =
    let here = c.in_default.ensures.lookup in
    fifth_left _ _ _ c.loop-i-test.true _ refl (omega (arith, here.3, c.loop-i.invariant.0)) ∙ c.loop-i.invariant.1

pub returns-in_err-fault : goal.returns-in_err-fault
returns-in_err-fault c =
    let body = body_here c.args.self.now.bodies c.loop-i.i _ (c.in-Some.ensures.lookup.3).1 in
    ap outcome_of (passed c.from_residual.ensures.1) ∙ fault_left _ _ _ c.loop-i-test.true _ body _ (number_more _) c.in_err-fault.ensures ∙ c.loop-i.invariant.1

pub loop-i-preserved : goal.loop-i-preserved
loop-i-preserved c =
    let here = c.in-Some.ensures.lookup.3 in
    (omega (arith, here.0), no_fault_left _ _ _ c.loop-i-test.true _ (body_here c.args.self.now.bodies c.loop-i.i _ here.1) c.in_ok-fault.ensures ∙ c.loop-i.invariant.1)

pub returns : goal.returns
returns c = sym (fault_none_left c.args.self.now.kinds.now _ c.loop-i.i _ (omega arith)) ∙ c.loop-i.invariant.1

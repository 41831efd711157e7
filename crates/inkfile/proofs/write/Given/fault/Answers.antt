-- `write::Given::fault` meets its contract: the fields are judged one after another.
use mathlib.Core.Path.{ap, ◌∙◌}
use Rattle.cipher.proofs.PassedLaws.{passed}
use Rattle.cipher.specs.Refusal.{outcome_of}
use Rattle.cipher.proofs.AnswerLaws.{number_more}
use Rattle.inkfile.specs.WritingSteps.{remarks_fault, fields_fault}
use Rattle.inkfile.proofs.FaultLaws.{run_here, run_behind}
use Rattle.inkfile.proofs.write.Given.fault.Goals as goal

pub returns-in_err-fault : goal.returns-in_err-fault
unfolding fields_fault
returns-in_err-fault c =
    ap outcome_of (passed c.from_residual.ensures.1) ∙ run_here _ _ _ _ (number_more _) c.in_err-fault.ensures

pub returns-in_err-fault-2 : goal.returns-in_err-fault-2
unfolding fields_fault
returns-in_err-fault-2 c =
    ap outcome_of (passed c.from_residual-in_err-fault-2.ensures.1) ∙ run_here _ _ _ _ (number_more _) c.in_err-fault-2.ensures ∙ run_behind _ _ _ c.in_ok-fault.ensures

pub returns-in_err-fault-3 : goal.returns-in_err-fault-3
unfolding fields_fault
returns-in_err-fault-3 c =
    ap outcome_of (passed c.from_residual-in_err-fault-3.ensures.1) ∙ run_here _ _ _ _ (number_more _) c.in_err-fault-3.ensures ∙ run_behind _ _ _ c.in_ok-fault-2.ensures ∙ run_behind _ _ _ c.in_ok-fault.ensures

pub returns-in_err-fault-4 : goal.returns-in_err-fault-4
unfolding fields_fault
returns-in_err-fault-4 c =
    ap outcome_of (passed c.from_residual-in_err-fault-4.ensures.1) ∙ run_here _ _ _ _ (number_more _) c.in_err-fault-4.ensures ∙ run_behind _ _ _ c.in_ok-fault-3.ensures ∙ run_behind _ _ _ c.in_ok-fault-2.ensures ∙ run_behind _ _ _ c.in_ok-fault.ensures

pub returns : goal.returns
unfolding remarks_fault fields_fault
returns c =
    c.remarks_fault.ensures
    ∙ run_behind _ _ _ c.in_ok-fault-4.ensures ∙ run_behind _ _ _ c.in_ok-fault-3.ensures ∙ run_behind _ _ _ c.in_ok-fault-2.ensures ∙ run_behind _ _ _ c.in_ok-fault.ensures

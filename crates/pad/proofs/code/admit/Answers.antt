-- `code::admit` meets its contract.
use Rattle.std.proofs.Common.{sym, ap, ◌∙◌}
use Rattle.cipher.specs.Refusal.{outcome_of}
use Rattle.cipher.proofs.PassedLaws.{passed}
use Rattle.cipher.proofs.CheckLaws.{set_checked_lem}
use Rattle.pad.proofs.AnswerLaws.{admit_set, tests_long, tests_short, tests_clear}
use Rattle.pad.proofs.code.admit.Goals as goal

pub returns-in_err-check_set : goal.returns-in_err-check_set
returns-in_err-check_set c = ap outcome_of (passed c.from_residual.ensures.1) ∙ admit_set _ _ _ _ _ c.in_err-check_set.ensures

pub returns-then-n-gt-LONGEST_MESSAGE : goal.returns-then-n-gt-LONGEST_MESSAGE
returns-then-n-gt-LONGEST_MESSAGE c =
    sym (tests_long _ _ _ _ (λ q. q) 0 (set_checked_lem _ (sym c.in_ok-check_set.ensures)) c.if-n-gt-LONGEST_MESSAGE.true)

pub returns-then-room-n : goal.returns-then-room-n
returns-then-room-n c =
    sym (tests_short _ _ _ _ (λ q. q) 0 (set_checked_lem _ (sym c.in_ok-check_set.ensures)) c.if-n-gt-LONGEST_MESSAGE.false c.if-room-n.true)

pub returns : goal.returns
returns c =
    sym (tests_clear _ _ _ _ (λ q. q) 0 (set_checked_lem _ (sym c.in_ok-check_set.ensures)) c.if-n-gt-LONGEST_MESSAGE.false c.if-room-n.false)

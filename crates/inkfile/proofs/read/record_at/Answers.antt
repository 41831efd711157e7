-- `read::record_at` meets its contract: each answer is a case of `SeenLaws`.
use mathlib.Core.Path.{sym, ap, ◌∙◌}
use Rattle.cipher.proofs.PassedLaws.{passed}
use Rattle.inkfile.specs.ReadingSteps.{seen_told}
use native.Mathlib.Omega.{arith}
use Rattle.inkfile.proofs.SeenLaws.{seen_short, seen_unmarked, seen_kind, seen_past, seen_done}
use Rattle.inkfile.proofs.read.record_at.Goals as goal

pub returns-then-left-lt-HEAD : goal.returns-then-left-lt-HEAD
returns-then-left-lt-HEAD c = sym (seen_short _ _ _ (omega (arith, c.if-left-lt-HEAD.true, c.requires)))

pub returns-then-file-at : goal.returns-then-file-at
returns-then-file-at c = sym (seen_unmarked _ _ _ (omega (arith, c.if-left-lt-HEAD.false, c.requires)) c.if-file-at.true)

pub returns-in_err-fault : goal.returns-in_err-fault
returns-in_err-fault c =
    ap seen_told (passed c.from_residual.ensures.1) ∙ sym (seen_kind _ _ _ (omega (arith, c.if-left-lt-HEAD.false, c.requires)) c.if-file-at.false _ c.length_at-n.ensures _ c.in_err-fault.ensures)

pub returns-then-left-n : goal.returns-then-left-n
returns-then-left-n c =
    sym (seen_past _ _ _ (omega (arith, c.if-left-lt-HEAD.false, c.requires)) c.if-file-at.false _ c.length_at-n.ensures c.in_ok-fault.ensures c.if-left-n.true)

pub returns : goal.returns
returns c =
    sym (seen_done _ _ _ (omega (arith, c.if-left-lt-HEAD.false, c.requires)) c.if-file-at.false _ c.length_at-n.ensures c.in_ok-fault.ensures c.if-left-n.false)

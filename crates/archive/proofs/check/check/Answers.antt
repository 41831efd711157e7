-- `check::check` meets its contract.
use Rattle.std.proofs.Common.{sym, ap, ◌∙◌, rules, arith}
use Rattle.cipher.proofs.PassedLaws.{passed}
use Rattle.cipher.proofs.InverseLaws.{low_set}
use Rattle.cipher.proofs.SchedulesLaws.{key_named, rows_named}
use Rattle.cipher.proofs.CheckLaws.{set_checked_lem}
use Rattle.archive.specs.Archive.{checked_told}
use Rattle.archive.proofs.AnswerLaws.{check_kind, check_set, check_7, check_8, check_verdict}
use Rattle.archive.proofs.check.check.Goals as goal

pub returns-in_err-key : goal.returns-in_err-key
returns-in_err-key c = ap checked_told (passed c.from_residual.ensures.1) ∙ sym (check_kind _ _ _ _ _ _ c.in_err-key.ensures)

pub returns-in_err-check_set : goal.returns-in_err-check_set
returns-in_err-check_set c =
    ap checked_told (passed c.from_residual-in_err-check_set.ensures.1)
    ∙ sym (check_set _ _ _ _ _ _ _ (key_named _ _ c.in_ok-key.ensures) _ c.in_err-check_set.ensures)

pub returns-then-tag-ne-BLOCK : goal.returns-then-tag-ne-BLOCK
returns-then-tag-ne-BLOCK c =
    sym (check_7 _ _ _ _ _ _ _ (key_named _ _ c.in_ok-key.ensures) (set_checked_lem _ (sym c.in_ok-check_set.ensures)) c.if-tag-ne-BLOCK.true)

pub returns-then-message-gt-LONGEST_MESSAGE : goal.returns-then-message-gt-LONGEST_MESSAGE
returns-then-message-gt-LONGEST_MESSAGE c =
    sym (check_8 _ _ _ _ _ _ _ (key_named _ _ c.in_ok-key.ensures) (set_checked_lem _ (sym c.in_ok-check_set.ensures)) c.if-tag-ne-BLOCK.false
    c.if-message-gt-LONGEST_MESSAGE.true)

pub code_block-requires : goal.code_block-requires
code_block-requires c =
    let set = set_checked_lem c.args.set.now (sym c.in_ok-check_set.ensures) in
    (omega (arith, set.size), low_set _ set.codings)

pub returns-then-same : goal.returns-then-same
returns-then-same c =
    sym (check_verdict _ _ _ _ _ _ _ (key_named _ _ c.in_ok-key.ensures) (set_checked_lem _ (sym c.in_ok-check_set.ensures)) c.if-tag-ne-BLOCK.false
    c.if-message-gt-LONGEST_MESSAGE.false _ _ _ _ _ (rows_named _ _ c.in_ok-key.ensures c.round_keys.ensures.rows) c.round_keys.ensures.size c.cmac-mac.ensures c.code_block.ensures
    (λ k. search rules) (sym c.same.ensures ∙ c.if-same.true))

pub returns-else-same : goal.returns-else-same
returns-else-same c =
    sym (check_verdict _ _ _ _ _ _ _ (key_named _ _ c.in_ok-key.ensures) (set_checked_lem _ (sym c.in_ok-check_set.ensures)) c.if-tag-ne-BLOCK.false
    c.if-message-gt-LONGEST_MESSAGE.false _ _ _ _ _ (rows_named _ _ c.in_ok-key.ensures c.round_keys.ensures.rows) c.round_keys.ensures.size c.cmac-mac.ensures c.code_block.ensures
    (λ k. search rules) (sym c.same.ensures ∙ c.if-same.false))

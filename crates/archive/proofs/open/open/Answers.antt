-- `open::open` meets its contract.
use Rattle.std.proofs.Common.{ap, sym, ◌∙◌, rules, arith}
use Rattle.cipher.specs.Refusal.{written_of}
use Rattle.cipher.proofs.PassedLaws.{passed}
use Rattle.cipher.proofs.SchedulesLaws.{key_named, rows_named}
use Rattle.cipher.proofs.CheckLaws.{set_checked_lem}
use Rattle.cipher.proofs.AnswerLaws.{text_known}
use Rattle.archive.proofs.AnswerLaws.{open_kind, open_set, open_7, open_8, open_9}
use Rattle.archive.proofs.OpenedLaws.{rows_ready, table_ready, open_is}
use Rattle.archive.proofs.open.open.Goals as goal

pub returns-in_err-key : goal.returns-in_err-key
returns-in_err-key c =
    (λ i. (ap written_of (passed c.from_residual.ensures.1) i, c.args.out.now)) ∙ sym (open_kind _ _ _ _ _ _ _ c.in_err-key.ensures)

pub returns-in_err-check_set : goal.returns-in_err-check_set
returns-in_err-check_set c =
    (λ i. (ap written_of (passed c.from_residual-in_err-check_set.ensures.1) i, c.args.out.now))
    ∙ sym (open_set _ _ _ _ _ _ _ _ (key_named _ _ c.in_ok-key.ensures) _ c.in_err-check_set.ensures)

pub returns-then-iv-ne-BLOCK : goal.returns-then-iv-ne-BLOCK
returns-then-iv-ne-BLOCK c =
    sym (open_7 _ _ _ _ _ _ _ _ (key_named _ _ c.in_ok-key.ensures) (set_checked_lem _ (sym c.in_ok-check_set.ensures)) c.if-iv-ne-BLOCK.true)

pub returns-then-bad_text : goal.returns-then-bad_text
returns-then-bad_text c =
    sym (open_8 _ _ _ _ _ _ _ _ (key_named _ _ c.in_ok-key.ensures) (set_checked_lem _ (sym c.in_ok-check_set.ensures)) c.if-iv-ne-BLOCK.false
    (sym c.bad_text.ensures ∙ c.if-bad_text.true))

pub returns-then-out-file : goal.returns-then-out-file
returns-then-out-file c =
    sym (open_9 _ _ _ _ _ _ _ _ (key_named _ _ c.in_ok-key.ensures) (set_checked_lem _ (sym c.in_ok-check_set.ensures)) c.if-iv-ne-BLOCK.false
    (sym c.bad_text.ensures ∙ c.if-bad_text.false) c.if-out-file.true)

pub decodings-requires : goal.decodings-requires
decodings-requires c = set_checked_lem _ (sym c.in_ok-check_set.ensures)

pub invariant_of-sealed : goal.invariant_of-sealed
invariant_of-sealed c = record {
  keyed = rows_ready _ _ c.args.key.now _ (rows_named _ _ c.in_ok-key.ensures c.round_keys-keys.ensures.rows) (λ k. search rules);
  decodes = table_ready c.args.set.now _ (set_checked_lem _ (sym c.in_ok-check_set.ensures)) c.decodings.ensures;
}

pub open_text-requires : goal.open_text-requires
open_text-requires c =
    let t = text_known _ (sym c.bad_text.ensures ∙ c.if-bad_text.false) in
    (t.0, t.1, t.2, omega arith)

pub returns : goal.returns
returns c =
    open_is _ _ _ _ _ _ _ _ (key_named _ _ c.in_ok-key.ensures) (set_checked_lem _ (sym c.in_ok-check_set.ensures)) c.if-iv-ne-BLOCK.false
    (sym c.bad_text.ensures ∙ c.if-bad_text.false) c.if-out-file.false (λ k. search rules) (λ k. search rules) _ _ _ _ _ (rows_named _ _ c.in_ok-key.ensures c.round_keys-keys.ensures.rows)
    c.round_keys-keys.ensures.size c.decodings.ensures c.block_at.ensures c.open_text.ensures

-- `build::build_reading` meets its contract.
use Rattle.std.proofs.Common.{sym, ap, subst, ◌∙◌, arith}
use Rattle.lists.proofs.TwoParts.{room_length}
use Rattle.cipher.specs.KeySize.{rounds}
use Rattle.cipher.specs.Refusal.{outcome_of}
use Rattle.cipher.specs.declared.size.KeySize.{KeySize}
use Rattle.cipher.proofs.PassedLaws.{passed}
use Rattle.cipher.proofs.SchedulesLaws.{key_named, rows_named}
use Rattle.cipher.proofs.CheckLaws.{chain_checked_lem}
use Rattle.reading.specs.Chain.{ReadingChain}
use Rattle.reading.specs.Book.{reading_book_of, reading_book_length}
use Rattle.book.proofs.AnswerLaws.{built_refused, built_unchained, built_room, built_front}
use Rattle.reading_book.proofs.build.build_reading.Goals as goal

pub returns-in_err-key : goal.returns-in_err-key
returns-in_err-key c =
    ap (λ r. (outcome_of r, c.args.out.now)) (passed c.from_residual.ensures.1) ∙ sym (built_refused 3 0 _ _ _ _ _ _ _ c.in_err-key.ensures)

pub returns-in_err-check_rule : goal.returns-in_err-check_rule
returns-in_err-check_rule c =
    ap (λ r. (outcome_of r, c.args.out.now)) (passed c.from_residual-in_err-check_rule.ensures.1)
    ∙ sym (built_unchained 3 0 _ _ _ _ _ _ _ _ (key_named _ _ c.in_ok-key.ensures) _ c.in_err-check_rule.ensures)

pub returns-then-out-end : goal.returns-then-out-end
returns-then-out-end c =
    let b = c.reading_len-end.ensures in
    let valid = chain_checked_lem {from = 3} {to = 0} _ _ (sym c.in_ok-check_rule.ensures) in
    sym (built_room 3 0 _ _ _ _ _ _ _ _ (key_named _ _ c.in_ok-key.ensures) valid (omega arith))

pub fill-requires : goal.fill-requires
fill-requires c =
    let same = c.round_keys.ensures.size in
    let b = c.reading_len-end.ensures in (
      subst (λ (z : KeySize). ReadingChain z c.args.chain.now) (sym same) (chain_checked_lem {from = 3} {to = 0} _ _ (sym c.in_ok-check_rule.ensures)),
      room_length c.reading_len-end.result (reading_book_length c.in_ok-key.key.size) c.args.out.now b (omega arith)
          ∙ ap reading_book_length (sym same),
    )

pub returns : goal.returns
returns c =
    let b = c.reading_len-end.ensures in
    let keys = c.round_keys.ensures in
    let valid = chain_checked_lem {from = 3} {to = 0} _ _ (sym c.in_ok-check_rule.ensures) in
    built_front 3 0 _ _ _ _ _ _ _ c.in_ok-key.key.size (key_named _ _ c.in_ok-key.ensures) valid (omega arith) c.reading_len-end.result b _
    (c.fill.ensures ∙ (λ i. reading_book_of (rounds (keys.size i)) ((rows_named _ _ c.in_ok-key.ensures keys.rows) i) c.args.chain.now))

-- `make::make_reading_chain` meets its contract.
use Rattle.std.proofs.Common.{sym, ap, ◌∙◌}
use Rattle.cipher.specs.Refusal.{written_of, number_of}
use Rattle.cipher.proofs.CheckLaws.{set_checked_lem}
use Rattle.cipher.proofs.PassedLaws.{passed, or_none}
use Rattle.maker.proofs.MakeAnswers.{reading_key, reading_set, reading_sized}
use Rattle.maker.proofs.make.make_reading_chain.Goals as goal

pub returns-in_err-size : goal.returns-in_err-size
returns-in_err-size c =
    let out = c.args.out.now in
    let none = or_none _ _ _ c.in_err-size.ensures.value in
    ap (λ r. (written_of r, out)) (passed c.from_residual.ensures.1)
    ∙ ap (λ q. ((number_of q, 0), out)) none.1
    ∙ sym (reading_key _ _ _ _ (sym c.of_key_len.ensures ∙ none.0))

pub returns-in_err-check_set : goal.returns-in_err-check_set
returns-in_err-check_set c =
    let out = c.args.out.now in
    ap (λ r. (written_of r, out)) (passed c.from_residual-in_err-check_set.ensures.1)
    ∙ sym (reading_set _ _ _ _ _ (sym c.of_key_len.ensures ∙ c.in_ok-size.ensures.ok_part) _ c.in_err-check_set.ensures)

pub returns : goal.returns
returns c =
    let fine = set_checked_lem _ (sym c.in_ok-check_set.ensures) in
    c.make.ensures ∙ sym (reading_sized _ _ _ _ c.in_ok-size.size (sym c.of_key_len.ensures ∙ c.in_ok-size.ensures.ok_part) fine)

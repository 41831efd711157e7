-- `report::on_input` meets its contract.
use Rattle.std.proofs.Common.{◌≡◌, length, sym, ap, ◌∙◌, arith}
use Rattle.std.proofs.lemmas.Bool.Decides.{nat_tests}
use Rattle.cipher.specs.KeySize.{size_of_key}
use Rattle.cipher.specs.Refusal.{number_of}
use Rattle.cipher.proofs.PassedLaws.{passed, or_none}
use Rattle.round.specs.Text.{refused_text, shown, told}
use Rattle.round.proofs.AnswerLaws.{no_length, printed_length, printed_key, printed_after_lem, input_is, key_whole_lem, key_short, key_length_lem}
use Rattle.round.proofs.report.on_input.Goals as goal

pub returns-then-is_empty : goal.returns-then-is_empty
returns-then-is_empty c =
    let none : length c.args.input.now ≡ 0 = grind (arith, nat_tests, sym c.is_empty.ensures ∙ c.if-is_empty.true) in
    ap shown (sym (printed_length c.args.input.now (no_length c.args.input.now none)))

pub returns-in_err-size : goal.returns-in_err-size
returns-in_err-size c =
    let none = or_none _ _ _ c.in_err-size.ensures.value in
    ap told (passed c.from_residual.ensures.1)
    ∙ ap (λ q. shown (refused_text (number_of q))) none.1
    ∙ ap shown (sym (printed_length c.args.input.now (ap size_of_key (sym c.from-n.ensures) ∙ sym c.of_key_len.ensures ∙ none.0)))

pub returns-then-input-end : goal.returns-then-input-end
returns-then-input-end c =
    let i = c.args.input.now in
    ap shown (sym (printed_key i c.in_ok-size.size (ap size_of_key (sym c.from-n.ensures) ∙ sym c.of_key_len.ensures ∙ c.in_ok-size.ensures.ok_part)
    (key_short i _ c.from-n.ensures c.if-input-end.true (grind (arith, nat_tests, sym c.is_empty.ensures ∙ c.if-is_empty.false)))))

pub on_rest-requires : goal.on_rest-requires
on_rest-requires c =
    key_length_lem c.args.input.now _ c.from-n.ensures c.in_ok-size.size (sym c.of_key_len.ensures ∙ c.in_ok-size.ensures.ok_part) c.if-input-end.false

pub returns : goal.returns
returns c =
    let i = c.args.input.now in
    c.on_rest.ensures
    ∙ ap shown (input_is i _ c.from-n.ensures c.in_ok-size.size
    ∙ sym (printed_after_lem i c.in_ok-size.size (ap size_of_key (sym c.from-n.ensures) ∙ sym c.of_key_len.ensures ∙ c.in_ok-size.ensures.ok_part)
    (key_whole_lem i _ c.from-n.ensures c.if-input-end.false)))

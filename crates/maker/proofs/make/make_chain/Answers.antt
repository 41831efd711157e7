-- `make::make_chain` meets its contract.
use Rattle.std.proofs.Common.{sym, ap, ◌∙◌}
use Rattle.cipher.specs.Refusal.{written_of, number_of}
use Rattle.cipher.proofs.PassedLaws.{passed, or_none}
use Rattle.maker.proofs.MakeAnswers.{make_key, make_sized}
use Rattle.maker.proofs.make.make_chain.Goals as goal

pub returns-in_err-size : goal.returns-in_err-size
returns-in_err-size c =
    let out = c.args.out.now in
    let none = or_none _ _ _ c.in_err-size.ensures.value in
    ap (λ r. (written_of r, out)) (passed c.from_residual.ensures.1)
    ∙ ap (λ q. ((number_of q, 0), out)) none.1
    ∙ sym (make_key _ _ _ (sym c.of_key_len.ensures ∙ none.0))

pub returns : goal.returns
returns c = c.make.ensures ∙ sym (make_sized _ _ _ c.in_ok-size.size (sym c.of_key_len.ensures ∙ c.in_ok-size.ensures.ok_part))

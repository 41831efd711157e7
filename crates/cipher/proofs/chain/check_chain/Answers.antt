-- `chain::check_chain` meets its contract.
use Rattle.std.proofs.Common.{sym, ap, ◌∙◌}
use Rattle.cipher.specs.Refusal.{outcome_of, number_of}
use Rattle.cipher.specs.Chain.{chain_tests}
use Rattle.cipher.proofs.PassedLaws.{passed, or_none}
use Rattle.cipher.proofs.AnswerLaws.{length_refused, length_taken}
use Rattle.cipher.proofs.chain.check_chain.Goals as goal

pub returns-in_err-size : goal.returns-in_err-size
returns-in_err-size c =
    let a = c.args in
    let none = or_none _ _ _ c.in_err-size.ensures.value in
    ap outcome_of (passed c.from_residual.ensures.1) ∙ ap number_of none.1
    ∙ sym (length_refused a.n (λ z. chain_tests z a.chain.now) (λ q. q) (λ z. 0) (sym c.of_key_len.ensures ∙ none.0))

pub returns : goal.returns
returns c =
    let a = c.args in
    c.check_sized.ensures
    ∙ sym (length_taken a.n (λ z. chain_tests z a.chain.now) (λ q. q) (λ z. 0) c.in_ok-size.size (sym c.of_key_len.ensures ∙ c.in_ok-size.ensures.ok_part))

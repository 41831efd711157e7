-- `admit::admit` meets its contract.
use Rattle.std.proofs.Common.{sym, ap, ◌∙◌, None, arith}
use Rattle.cipher.specs.Refusal.{number_of}
use Rattle.cipher.proofs.PassedLaws.{passed, or_none}
use Rattle.driver.specs.Driver.{admitted_told}
use Rattle.driver.proofs.AdmitLaws.{book_found, length_unknown, byte_refused, book_admitted}
use Rattle.driver.proofs.admit.admit.Goals as goal

pub returns-in_err-size : goal.returns-in_err-size
returns-in_err-size c =
    let none = or_none _ _ _ c.in_err-size.ensures.value in
    ap admitted_told (passed c.from_residual.ensures.1)
    ∙ ap (λ q. (number_of q, None)) none.1
    ∙ sym (length_unknown _ (sym c.of_book_len.ensures ∙ none.0))

pub bounds-book-0 : goal.bounds-book-0
bounds-book-0 c = omega (arith, book_found _ _ _ c.of_book_len.ensures c.in_ok-size.ensures.ok_part)

pub returns-then-from-key_len : goal.returns-then-from-key_len
returns-then-from-key_len c =
    sym (byte_refused _ c.in_ok-size.size (book_found _ _ _ c.of_book_len.ensures c.in_ok-size.ensures.ok_part) (λ e.
    c.if-from-key_len.true (c.from.ensures ∙ e ∙ sym c.key_len.ensures)))

pub returns : goal.returns
returns c =
    sym (book_admitted _ c.in_ok-size.size (book_found _ _ _ c.of_book_len.ensures c.in_ok-size.ensures.ok_part)
    (sym c.from.ensures ∙ c.if-from-key_len.false ∙ c.key_len.ensures))

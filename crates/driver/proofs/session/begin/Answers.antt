-- `session::begin` meets its contract.
use Rattle.std.proofs.Common.{List, ℕ, sym, ap, ◌∙◌, arith}
use Rattle.cipher.specs.Book.{start_of}
use Rattle.cipher.proofs.PassedLaws.{passed}
use Rattle.driver.specs.Driver.{session_told, fresh, spent, begin_answer}
use Rattle.driver.proofs.AnswerLaws.{over_no_book, over_done}
use Rattle.driver.proofs.session.begin.Goals as goal

pub returns-in_err-parts-clause-first : goal.returns-in_err-parts-clause-first
unfolding begin_answer
returns-in_err-parts-clause-first c =
    ap (λ r. session_told r spent) (passed c.from_residual.ensures.1) ∙ sym (over_no_book _ _ _ c.in_err-parts.ensures.refused)

pub returns-in_err-parts-clause-over : goal.returns-in_err-parts-clause-over
returns-in_err-parts-clause-over c s =
    ap (λ r. session_told r s) (passed c.from_residual.ensures.1) ∙ sym (over_no_book _ _ _ c.in_err-parts.ensures.refused)

pub block_at-start-requires : goal.block_at-start-requires
block_at-start-requires c = omega (arith, c.in_ok-parts.parts.whole)

pub returns-clause-first : goal.returns-clause-first
unfolding begin_answer
returns-clause-first c =
    ap (λ (x : List ℕ). (0, fresh x)) (c.block_at-start.ensures ∙ ap start_of c.in_ok-parts.ensures.taken.1) ∙ sym (over_done _ _ _ c.in_ok-parts.ensures.taken.0)

pub returns-clause-over : goal.returns-clause-over
returns-clause-over c s =
    ap (λ (x : List ℕ). (0, fresh x)) (c.block_at-start.ensures ∙ ap start_of c.in_ok-parts.ensures.taken.1) ∙ sym (over_done _ _ _ c.in_ok-parts.ensures.taken.0)

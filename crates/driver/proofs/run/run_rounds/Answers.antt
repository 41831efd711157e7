-- `run::run_rounds` meets its contract.
use Rattle.std.proofs.Common.{ℕ, min, List, sym, ap, ap₂, ◌∙◌, arith}
use Rattle.cipher.specs.Tables.{table_rounds}
use Rattle.cipher.specs.Book.{round_at}
use Rattle.cipher.specs.Answers.{block_told}
use Rattle.cipher.proofs.KeySizeLaws.{rounds_le}
use Rattle.cipher.proofs.PassedLaws.{passed}
use Rattle.driver.proofs.AnswerLaws.{whole, rounds_no_book, rounds_7, rounds_made}
use Rattle.driver.proofs.run.run_rounds.Goals as goal

pub returns-in_err-parts : goal.returns-in_err-parts
returns-in_err-parts c = ap block_told (passed c.from_residual.ensures.1) ∙ sym (rounds_no_book _ _ _ _ c.in_err-parts.ensures.refused)

pub returns-then-block-ne-BLOCK : goal.returns-then-block-ne-BLOCK
returns-then-block-ne-BLOCK c = sym (rounds_7 _ _ _ _ c.in_ok-parts.ensures.taken.0 c.if-block-ne-BLOCK.true)

pub rounds-requires : goal.rounds-requires
rounds-requires c =
    omega (arith, c.min-few.ensures, c.rounds-all.ensures, rounds_le c.in_ok-parts.parts.size, c.in_ok-parts.parts.whole)

pub returns : goal.returns
returns c =
    let l = c.if-block-ne-BLOCK.false in
    ap (λ (y : List ℕ). (0, y))
    (c.rounds.ensures ∙ ap₂ (λ (t y : List ℕ). table_rounds (round_at t) c.min-few.result y) c.in_ok-parts.ensures.taken.1 (c.block_at-first.ensures ∙ whole _ l))
    ∙ sym (rounds_made _ _ _ _ c.in_ok-parts.ensures.taken.0 l _ (c.min-few.ensures ∙ ap (min c.args.n) c.rounds-all.ensures))

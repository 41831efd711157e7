-- `session::block_call` meets its contract.
use Rattle.std.proofs.Common.{sym, ap, ◌∙◌, arith}
use Rattle.cipher.proofs.PassedLaws.{passed}
use Rattle.driver.specs.Driver.{session_told}
use Rattle.driver.proofs.AnswerLaws.{block_no_book, block_7, block_21, block_22, block_made}
use Rattle.driver.proofs.session.block_call.Goals as goal

pub returns-in_err-parts : goal.returns-in_err-parts
returns-in_err-parts c =
    ap (λ r. session_told r c.args.s) (passed c.from_residual.ensures.1) ∙ sym (block_no_book _ _ _ _ c.in_err-parts.ensures.refused)

pub returns-then-block-ne-BLOCK : goal.returns-then-block-ne-BLOCK
returns-then-block-ne-BLOCK c = sym (block_7 _ _ _ _ c.in_ok-parts.ensures.taken.0 c.if-block-ne-BLOCK.true)

pub returns-then-s : goal.returns-then-s
returns-then-s c = sym (block_21 _ _ _ _ c.in_ok-parts.ensures.taken.0 c.if-block-ne-BLOCK.false c.if-s.true)

pub returns-then-s-eq65535 : goal.returns-then-s-eq65535
returns-then-s-eq65535 c = sym (block_22 _ _ _ _ c.in_ok-parts.ensures.taken.0 c.if-block-ne-BLOCK.false c.if-s.false (omega arith))

pub pass-next-requires : goal.pass-next-requires
pass-next-requires c = (omega arith, c.in_ok-parts.parts.whole)

pub returns : goal.returns
returns c =
    block_made _ _ _ _ c.in_ok-parts.ensures.taken.0 c.if-block-ne-BLOCK.false c.if-s.false (omega arith) _ _ _ c.in_ok-parts.ensures.taken.1 c.block_at.ensures
    c.pass-next.ensures

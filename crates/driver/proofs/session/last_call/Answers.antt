-- `session::last_call` meets its contract.
use Rattle.std.proofs.Common.{sym, ap, ◌∙◌, arith}
use Rattle.cipher.proofs.PassedLaws.{passed}
use Rattle.driver.specs.Driver.{tag_told}
use Rattle.driver.proofs.AnswerLaws.{last_no_book, last_7, last_10, last_21, last_made}
use Rattle.driver.proofs.session.last_call.Goals as goal

pub returns-in_err-parts : goal.returns-in_err-parts
returns-in_err-parts c =
    ap (λ r. tag_told r c.args.s) (passed c.from_residual.ensures.1) ∙ sym (last_no_book _ _ _ _ _ c.in_err-parts.ensures.refused)

pub returns-then-block-ne-BLOCK : goal.returns-then-block-ne-BLOCK
returns-then-block-ne-BLOCK c = sym (last_7 _ _ _ _ _ c.in_ok-parts.ensures.taken.0 c.if-block-ne-BLOCK.true)

pub returns-then-kind-gt1 : goal.returns-then-kind-gt1
returns-then-kind-gt1 c = sym (last_10 _ _ _ _ _ c.in_ok-parts.ensures.taken.0 c.if-block-ne-BLOCK.false c.if-kind-gt1.true)

pub returns-then-s : goal.returns-then-s
returns-then-s c = sym (last_21 _ _ _ _ _ c.in_ok-parts.ensures.taken.0 c.if-block-ne-BLOCK.false c.if-kind-gt1.false c.if-s.true)

pub pass-tag-requires : goal.pass-tag-requires
pass-tag-requires c = (omega arith, c.in_ok-parts.parts.whole)

pub returns : goal.returns
returns c =
    last_made _ _ _ _ _ c.in_ok-parts.ensures.taken.0 c.if-block-ne-BLOCK.false c.if-kind-gt1.false c.if-s.false _ _ _ c.in_ok-parts.ensures.taken.1 c.block_at.ensures
    c.pass-tag.ensures

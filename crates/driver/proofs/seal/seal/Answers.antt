-- `seal::seal` meets its contract.
use Rattle.std.proofs.Common.{sym, ap, ◌∙◌, arith}
use Rattle.cipher.specs.Refusal.{written_of}
use Rattle.cipher.proofs.PassedLaws.{passed}
use Rattle.driver.proofs.AnswerLaws.{seal_no_book, seal_7, seal_8, seal_9, seal_made}
use Rattle.driver.proofs.seal.seal.Goals as goal

pub returns-in_err-parts : goal.returns-in_err-parts
returns-in_err-parts c =
    ap (λ r. (written_of r, c.args.out.now)) (passed c.from_residual.ensures.1) ∙ sym (seal_no_book _ _ _ _ _ c.in_err-parts.ensures.refused)

pub returns-then-iv-ne-BLOCK : goal.returns-then-iv-ne-BLOCK
returns-then-iv-ne-BLOCK c =
    sym (seal_7 _ _ _ _ _ c.in_ok-parts.ensures.taken.0 c.if-iv-ne-BLOCK.true)

pub returns-then-bad_text : goal.returns-then-bad_text
returns-then-bad_text c =
    sym (seal_8 _ _ _ _ _ c.in_ok-parts.ensures.taken.0 c.if-iv-ne-BLOCK.false (sym c.bad_text.ensures ∙ c.if-bad_text.true))

pub returns-then-out-n : goal.returns-then-out-n
returns-then-out-n c =
    sym (seal_9 _ _ _ _ _ c.in_ok-parts.ensures.taken.0 c.if-iv-ne-BLOCK.false (sym c.bad_text.ensures ∙ c.if-bad_text.false) c.if-out-n.true)

pub seal_blocks-requires : goal.seal_blocks-requires
seal_blocks-requires c =
    omega (arith, c.if-out-n.false)

pub returns : goal.returns
returns c =
    let good = sym c.bad_text.ensures ∙ c.if-bad_text.false in
    seal_made _ _ _ _ _ c.in_ok-parts.ensures.taken.0 c.if-iv-ne-BLOCK.false good c.if-out-n.false _ _ c.in_ok-parts.ensures.taken.1 c.block_at.ensures _ c.seal_blocks.ensures

-- `lea::encipher` meets its contract.
use Rattle.std.proofs.Common.{sym, ap, ◌∙◌}
use Rattle.cipher.specs.KeySize.{rounds}
use Rattle.cipher.specs.Answers.{block_told}
use Rattle.cipher.specs.Lea as L
use Rattle.cipher.proofs.PassedLaws.{passed}
use Rattle.cipher.proofs.SchedulesLaws.{key_named, rows_named}
use Rattle.cipher.proofs.AnswerLaws.{on_refused, on_length, on_rows}
use Rattle.cipher.proofs.lea.encipher.Goals as goal

pub returns-in_err-key : goal.returns-in_err-key
returns-in_err-key c = ap block_told (passed c.from_residual.ensures.1) ∙ sym (on_refused _ _ _ _ _ c.in_err-key.ensures)

pub returns-then-block-ne-BLOCK : goal.returns-then-block-ne-BLOCK
returns-then-block-ne-BLOCK c = sym (on_length _ _ _ _ _ _ (key_named _ _ c.in_ok-key.ensures) c.if-block-ne-BLOCK.true)

pub returns : goal.returns
unfolding L.first_rounds
returns c =
    let keys = c.round_keys.ensures in
    on_rows L.forward rounds _ _ _ _ _ (key_named _ _ c.in_ok-key.ensures) c.if-block-ne-BLOCK.false _ _ _ _ _
    (ap (λ b. (0, b)) c.bytes.ensures) c.encipher.ensures (rows_named _ _ c.in_ok-key.ensures keys.rows) c.words.ensures (ap rounds keys.size)

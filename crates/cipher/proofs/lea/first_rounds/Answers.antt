-- `lea::first_rounds` meets its contract.
use Rattle.std.proofs.Common.{cond, leb, sym, ap, ◌∙◌, arith}
use Rattle.cipher.specs.KeySize.{rounds}
use Rattle.cipher.specs.Answers.{block_told}
use Rattle.cipher.specs.Lea as L
use Rattle.cipher.proofs.PassedLaws.{passed}
use Rattle.cipher.proofs.KeySizeLaws.{rounds_le}
use Rattle.cipher.proofs.SchedulesLaws.{key_named, rows_named}
use Rattle.cipher.proofs.AnswerLaws.{at_most, at_most_all, on_refused, on_length, on_rows}
use Rattle.cipher.proofs.lea.first_rounds.Goals as goal

pub returns-in_err-key : goal.returns-in_err-key
returns-in_err-key c = ap block_told (passed c.from_residual.ensures.1) ∙ sym (on_refused _ _ _ _ _ c.in_err-key.ensures)

pub returns-then-block-ne-BLOCK : goal.returns-then-block-ne-BLOCK
returns-then-block-ne-BLOCK c = sym (on_length _ _ _ _ _ _ (key_named _ _ c.in_ok-key.ensures) c.if-block-ne-BLOCK.true)

pub first_rounds-requires : goal.first_rounds-requires
first_rounds-requires c = omega (arith, rounds_le c.in_ok-key.key.size)

pub returns-then-n-all : goal.returns-then-n-all
unfolding L.first_rounds
returns-then-n-all c =
    let n = c.args.n in
    on_rows L.forward (λ z. cond (leb n (rounds z)) n (rounds z)) _ _ _ _ _ (key_named _ _ c.in_ok-key.ensures) c.if-block-ne-BLOCK.false
    _ _ _ _ _ (ap (λ b. (0, b)) c.bytes.ensures) c.first_rounds.ensures (rows_named _ _ c.in_ok-key.ensures c.round_keys-keys.ensures.rows) c.words.ensures (sym (at_most n _ (omega arith)))

pub returns : goal.returns
unfolding L.first_rounds
returns c =
    let n = c.args.n in
    let keys = c.round_keys-keys.ensures in
    on_rows L.forward (λ z. cond (leb n (rounds z)) n (rounds z)) _ _ _ _ _ (key_named _ _ c.in_ok-key.ensures) c.if-block-ne-BLOCK.false
    _ _ _ _ _ (ap (λ b. (0, b)) c.bytes-2.ensures) c.encipher.ensures (rows_named _ _ c.in_ok-key.ensures keys.rows) c.words-2.ensures
    (ap rounds keys.size ∙ sym (at_most_all n _ (omega arith)))

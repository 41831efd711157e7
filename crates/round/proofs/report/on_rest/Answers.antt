-- `report::on_rest` meets its contract.
use Rattle.std.proofs.Common.{ℕ, ◌-◌, List, take, sym, ap, ◌∙◌, arith}
use Rattle.cipher.proofs.PassedLaws.{passed}
use Rattle.cipher.proofs.CheckLaws.{chain_checked_lem}
use Rattle.round.specs.Text.{shown, told}
use Rattle.round.specs.Round.{two_lines}
use Rattle.round.proofs.AnswerLaws.{after_short, after_is, on_chain_refused, on_block_short, on_run}
use Rattle.round.proofs.RoundLaws.{not_zero}
use Rattle.round.proofs.report.on_rest.Goals as goal

pub returns-then-rest-n : goal.returns-then-rest-n
returns-then-rest-n c = ap shown (sym (after_short c.args.size c.args.key.now c.args.rest.now (omega (arith, c.chain_len-n.ensures, c.if-rest-n.true))))

pub returns-in_err-check_sized : goal.returns-in_err-check_sized
returns-in_err-check_sized c =
    let a = c.args in
    ap told (passed c.from_residual.ensures.1)
    ∙ ap shown (sym (on_chain_refused a.size _ _ _ _ c.in_err-check_sized.ensures (not_zero _)) ∙ after_is a.size a.key.now a.rest.now _ c.chain_len-n.ensures)

pub returns-then-last-lt-BLOCK : goal.returns-then-last-lt-BLOCK
returns-then-last-lt-BLOCK c =
    let a = c.args in
    ap shown (sym (on_block_short a.size _ _ _ (chain_checked_lem _ _ (sym c.in_ok-check_sized.ensures)) c.if-last-lt-BLOCK.true)
    ∙ after_is a.size a.key.now a.rest.now _ c.chain_len-n.ensures)

pub invariant_of-keyed : goal.invariant_of-keyed
invariant_of-keyed c = record { ready = (c.requires, chain_checked_lem _ _ (sym c.in_ok-check_sized.ensures)) }

pub returns : goal.returns
returns c =
    let a = c.args in
    let n = c.chain_len-n.result in
    c.run.ensures
    ∙ ap (λ (b : List ℕ). shown (two_lines a.size a.key.now (take (n - 0) a.rest.now) b)) c.block_at.ensures
    ∙ ap shown (sym (on_run a.size _ _ _ (chain_checked_lem _ _ (sym c.in_ok-check_sized.ensures)) c.if-last-lt-BLOCK.false)
    ∙ after_is a.size a.key.now a.rest.now _ c.chain_len-n.ensures)

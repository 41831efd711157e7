-- `lea::round_keys` meets its contract.
use Rattle.std.proofs.Common.{ℕ, ◌%◌, List, [], get_or, sym, ap, ◌∙◌}
use Rattle.lists.specs.Refusals.{first}
use Rattle.cipher.specs.Schedules.{key_rows}
use Rattle.cipher.specs.Answers.{row_told}
use Rattle.cipher.specs.KeySize.{rounds}
use Rattle.words.specs.Rows.{blank}
use Rattle.cipher.specs.declared.size.KeySize.{KeySize}
use Rattle.cipher.specs.declared.schedules.Schedule.{Schedule}
use Rattle.cipher.proofs.PassedLaws.{passed}
use Rattle.cipher.proofs.SchedulesLaws.{key_named, rows_named}
use Rattle.cipher.proofs.AnswerLaws.{kind_refused, key_taken}
use Rattle.cipher.proofs.lea.round_keys.Goals as goal

-- the row of round l under a key of size z, by the schedule k
abbrev row_of : List ℕ → ℕ → Schedule → KeySize → ℕ × List ℕ
row_of key l k z = (0, get_or (key_rows k z key) (l % rounds z) [])

pub returns-in_err-key : goal.returns-in_err-key
returns-in_err-key c =
    let a = c.args in
    ap row_told (passed c.from_residual.ensures.1)
    ∙ sym (kind_refused a.schedule a.key.now (λ k z. []) (λ n. (n, blank)) (row_of a.key.now a.l) _ c.in_err-key.ensures)

pub returns : goal.returns
unfolding first
returns c =
    let a = c.args in
    (λ i. (0, get_or ((rows_named _ _ c.in_ok-key.ensures c.round_keys-keys.ensures.rows) i) (a.l % c.rounds.ensures i) []))
    ∙ sym (key_taken a.schedule a.key.now (λ k z. []) (λ n. (n, blank)) (row_of a.key.now a.l) _ _ (key_named _ _ c.in_ok-key.ensures))

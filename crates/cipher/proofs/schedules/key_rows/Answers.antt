-- `schedules::key_rows` meets its contract.
use Rattle.std.proofs.Common.{sym, ap, ◌∙◌, arith}
use Rattle.wf_lea.specs.WfLea.{rows}
use Rattle.cipher.specs.Schedules.{key_rows}
use Rattle.cipher.specs.declared.schedules.Schedule.{Schedule}
use Rattle.cipher.proofs.KeySizeLaws.{rounds_le, key_le}
use Rattle.cipher.proofs.schedules.key_rows.Goals as goal

pub rows-requires : goal.rows-requires
rows-requires c =
    (omega (arith, c.requires, key_le c.args.size), omega (arith, c.rounds.ensures, rounds_le c.args.size))

pub returns-in-Lea : goal.returns-in-Lea
unfolding key_rows
returns-in-Lea c =
    let a = c.args in
    c.lea_rows.ensures ∙ sym (ap (λ (k : Schedule). key_rows k a.size a.key.now) c.in-Lea.is)

pub returns-in-WfLea : goal.returns-in-WfLea
unfolding key_rows
returns-in-WfLea c =
    let a = c.args in
    c.rows.ensures ∙ ap (rows a.key.now) c.rounds.ensures
    ∙ sym (ap (λ (k : Schedule). key_rows k a.size a.key.now) c.in-WfLea.is)

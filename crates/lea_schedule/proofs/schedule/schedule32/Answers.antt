-- `schedule::schedule32` meets its contract.
use Rattle.std.proofs.Common.{refl, sym, ◌∙◌, rules}
use Rattle.lists.specs.Tabulation.{tab}
use Rattle.words.specs.Word.{words4}
use Rattle.lea_schedule.specs.Schedule.{words8, mixed_row, step32, row32}
use Rattle.lea_schedule.specs.Steps.{queued}
use Rattle.lea_schedule.proofs.Schedule32.{in_order, steps_32}
use Rattle.lea_schedule.proofs.schedule.schedule32.Goals as goal

pub returns : goal.returns
unfolding tab words4 words8 mixed_row
returns c =
    let t = words8 c.args.key.now in
    c.rows_of.ensures step32 row32 queued t refl (c.words_of.ensures ∙ sym (in_order 0 t refl)) (steps_32 (λ d t v p. search rules) (λ v r p. search rules))

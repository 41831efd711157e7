-- `schedule::schedule24` meets its contract.
use Rattle.std.proofs.Common.{refl, rules}
use Rattle.lists.specs.Tabulation.{tab}
use Rattle.words.specs.Word.{words4}
use Rattle.lea_schedule.specs.Schedule.{words6, mixed_row, step24, row24}
use Rattle.lea_schedule.proofs.ScheduleLaws.{steps_24}
use Rattle.lea_schedule.proofs.schedule.schedule24.Goals as goal

pub returns : goal.returns
unfolding tab words4 words6 mixed_row
returns c =
    c.rows_of.ensures step24 row24 (λ i t. t) (words6 c.args.key.now) refl c.words_of.ensures (steps_24 (λ d t v p. search rules) (λ v r p. search rules))

-- `schedule::schedule16` meets its contract.
use Rattle.std.proofs.Common.{refl, rules}
use Rattle.lists.specs.Tabulation.{tab}
use Rattle.words.specs.Word.{words4}
use Rattle.lea_schedule.specs.Schedule.{mixed_four, step16, row16}
use Rattle.lea_schedule.proofs.ScheduleLaws.{steps_16}
use Rattle.lea_schedule.proofs.schedule.schedule16.Goals as goal

pub returns : goal.returns
unfolding tab words4 mixed_four row16
returns c =
    c.rows_of.ensures step16 row16 (λ i t. t) (words4 c.args.key.now) refl c.words_of.ensures (steps_16 (λ d t v p. search rules) (λ v r p. search rules))

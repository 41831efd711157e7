-- `report::run` meets its contract.
use Rattle.std.proofs.Common.{ap, ◌∙◌}
use Rattle.round.specs.Text.{shown}
use Rattle.round.proofs.AnswerLaws.{run_is}
use Rattle.round.proofs.report.run.Goals as goal

pub returns : goal.returns
returns c =
    c.two_lines.ensures
    ∙ ap shown (run_is c.args.keyed.now.size _ _ _ _ _ _ _ _ c.rounds-r.ensures c.one_round-one.ensures c.opened-first.ensures c.later_rounds-all.ensures c.opened-last.ensures)

-- `turns::turn_table` meets its contract.
use Rattle.std.proofs.Common.{◌*◌, ◌∙◌}
use Rattle.lists.proofs.PartLaws.{part_end}
use Rattle.table_maker.proofs.MadeLaws.{turned_made}
use Rattle.table_maker.proofs.turns.turn_table.Goals as goal

pub returns : goal.returns
returns g c =
    c.turned_table.ensures
    ∙ turned_made g.T.Turn.above g.T.Turn.below g.T.Turn.sum c.args.s.now.bytes c.args.codings.now _ c.args.p _ _ _
    (part_end c.args.codings.now (16 * c.args.p)) c.upper.ensures.0 c.lower.ensures.0 c.cut.ensures

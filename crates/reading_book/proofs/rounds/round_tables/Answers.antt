-- `rounds::round_tables` meets its contract.
use mathlib.Core.Path.{◌∙◌}
use native.Mathlib.Omega.{arith}
use lib.Seq.{length-take-le}
use Rattle.lists.proofs.TwoParts.{second_length, two_joined, two_length}
use Rattle.reading_book.proofs.ReadingTableMade.{turns_back_length, subtracts_length, reading_joined}
use Rattle.reading_book.proofs.rounds.round_tables.Goals as goal

pub turn_tables-requires : goal.turn_tables-requires
turn_tables-requires c = (omega (arith, c.args.round.ready.room_middles), length-take-le 6144 c.args.out.now (omega arith))

pub subtract_tables-requires : goal.subtract_tables-requires
subtract_tables-requires c =
    let t = turns_back_length _ _ _ c.turn_tables.ensures in
    let r = second_length c.turn_tables.new.out c.args.out.now c.args.out.now 6144 12288 c.requires t in
    r

pub shape_of-out : goal.shape_of-out
shape_of-out c =
    two_length c.turn_tables.new.out c.subtract_tables.new.out c.args.out.now 6144 12288 c.requires
    (turns_back_length _ _ _ c.turn_tables.ensures) (subtracts_length _ _ _ _ _ _ c.subtract_tables.ensures)

pub returns : goal.returns
returns c =
    two_joined c.turn_tables.new.out c.subtract_tables.new.out c.args.out.now 6144 12288 c.requires
    (turns_back_length _ _ _ c.turn_tables.ensures)
    ∙ reading_joined _ _ _ _ _ _ _ _ _ c.args.round.ready c.of-s.ensures c.of-m.ensures c.of-n.ensures
    c.turn_tables.ensures c.subtract_tables.ensures

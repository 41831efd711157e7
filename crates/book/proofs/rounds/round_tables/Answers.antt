-- `rounds::round_tables` meets its contract.
use mathlib.Core.Path.{◌∙◌}
use native.Mathlib.Omega.{arith}
use lib.Seq.{length-take-le}
use Rattle.lists.proofs.TwoParts.{second_length, two_joined, two_length}
use Rattle.book.proofs.BuildLaws.{adds_length_lem, turns_length, round_joined}
use Rattle.book.proofs.rounds.round_tables.Goals as goal

pub add_tables-requires : goal.add_tables-requires
add_tables-requires c = length-take-le 12288 c.args.out.now (omega arith)

pub turn_tables-requires : goal.turn_tables-requires
turn_tables-requires c =
    let a = adds_length_lem _ _ _ _ c.add_tables.ensures in
    (omega (arith, c.args.round.ready.room_after), second_length c.add_tables.new.out c.args.out.now c.args.out.now 12288 6144 c.requires a)

pub shape_of-out : goal.shape_of-out
shape_of-out c =
    two_length c.add_tables.new.out c.turn_tables.new.out c.args.out.now 12288 6144 c.requires
    (adds_length_lem _ _ _ _ c.add_tables.ensures) (turns_length _ _ _ c.turn_tables.ensures)

pub returns : goal.returns
returns c =
    two_joined c.add_tables.new.out c.turn_tables.new.out c.args.out.now 12288 6144 c.requires
    (adds_length_lem _ _ _ _ c.add_tables.ensures)
    ∙ round_joined _ _ _ _ _ _ _ _ c.args.round.ready c.of-s.ensures c.of-m.ensures c.add_tables.ensures
    c.turn_tables.ensures

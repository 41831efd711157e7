-- `turns::turns` meets its contract. The invariant: m bytes of each new word are made, and the others are as they were.
use native.Mathlib.Omega.{arith}
use Rattle.table_reader.proofs.ReadingLaws.{three, four}
use Rattle.table_reader.proofs.TurnLaws.{turns_step, turns_full}
use Rattle.table_reader.proofs.turns.turns.Goals as goal

pub loop-m-preserved : goal.loop-m-preserved
unfolding three four
loop-m-preserved c =
    turns_step _ _ _ _ _ _ _ _ (omega arith) c.requires.0.bytes c.requires.1 c.loop-m.invariant c.turn_two.ensures c.turn_two-in-loop-m.ensures
    c.turn_two-in-loop-m-2.ensures

pub returns : goal.returns
returns c = turns_full _ _ _ _ (omega arith) c.loop-m.invariant

-- `turns::turns` meets its contract. The invariant: m bytes of each new word are made, and the others are as they were.
use Rattle.table_reader.proofs.TurnLaws.{TurnsAre}
use Rattle.table_reader.proofs.turns.turns.Given as goal

abbrev pub invariant-loop-m : goal.invariant-loop-m
invariant-loop-m l = TurnsAre l.t l.initial.y l.m l.y

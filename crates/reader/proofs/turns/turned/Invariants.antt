-- `turns::turned` meets its contract. The invariant: m bytes of each word are turned.
use Rattle.reader.proofs.TurnLaws.{TurnedAre}
use Rattle.reader.proofs.turns.turned.Given as goal

abbrev pub invariant-loop-m : goal.invariant-loop-m
invariant-loop-m l = TurnedAre l.t l.b l.initial.s l.m l.s

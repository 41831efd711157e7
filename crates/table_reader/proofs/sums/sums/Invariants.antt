-- `sums::sums` meets its contract. The invariant: m bytes of each sum are made.
use Rattle.table_reader.proofs.SumLaws.{Sums}
use Rattle.table_reader.proofs.sums.sums.Given as goal

abbrev pub invariant-loop-m : goal.invariant-loop-m
invariant-loop-m l = Sums l.t l.b l.initial.s l.m l.s l.c0 l.c1 l.c2

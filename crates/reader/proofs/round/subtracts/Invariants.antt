-- `round::subtracts` meets its contract. The invariant: m bytes of each new word are made, and the others are as they were.
use mathlib.Core.Path.{◌≡◌}
use lib.ListN.{length}
use Rattle.reader.proofs.RoundLaws.{Differences}
use Rattle.reader.proofs.round.subtracts.Given as goal

abbrev pub invariant-loop-m : goal.invariant-loop-m
invariant-loop-m l = (length l.y ≡ 16) × Differences l.t l.initial.y l.m l.y l.w

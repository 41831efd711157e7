-- `round::subtracts` meets its contract. The invariant: m bytes of each new word are made, and the others are as they were.
use native.Mathlib.Omega.{arith}
use Rattle.table_reader.proofs.ReadingLaws.{three, four}
use Rattle.reader.proofs.RoundLaws.{differences_first, differences_next, differences_full}
use Rattle.reader.proofs.round.subtracts.Goals as goal

pub loop-m-init : goal.loop-m-init
loop-m-init c =
    let w = c.default-w.ensures in
    (c.requires.0, differences_first _ _ _ c.requires.0 w.0.1 w.1.0.1 w.1.1.1)

pub loop-m-preserved : goal.loop-m-preserved
unfolding three four
loop-m-preserved c =
    let made = differences_next _ _ _ _ _ _ _ _ (omega arith) c.requires.1 c.loop-m.invariant.1 c.joined-x.ensures c.byte_of_each-w.ensures in
    (made.are.len, made)

pub returns : goal.returns
returns c = differences_full _ _ _ _ _ (omega arith) c.loop-m.invariant.1

-- `turns::turned` meets its contract. The invariant: m bytes of each word are turned.
use native.Mathlib.Omega.{arith}
use Rattle.table_reader.proofs.ReadingLaws.{three}
use Rattle.reader.proofs.TurnLaws.{turned_step, turned_full}
use Rattle.reader.proofs.turns.turned.Goals as goal

pub loop-m-preserved : goal.loop-m-preserved
unfolding three
loop-m-preserved c =
    turned_step _ _ _ _ _ _ _ _ (omega arith) c.loop-m.invariant c.turned_byte.ensures c.turned_byte-in-loop-m.ensures c.turned_byte-in-loop-m-2.ensures

pub returns : goal.returns
returns c = turned_full _ _ _ _ _ (omega arith) c.loop-m.invariant

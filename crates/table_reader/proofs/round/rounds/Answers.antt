-- `round::rounds` meets its contract. The invariant: as many rounds are run as there were tables.
use Rattle.std.proofs.Common.{refl}
use Rattle.cipher.specs.Tables.{table_rounds}
use Rattle.table_reader.proofs.Typed.{array_block}
use Rattle.table_reader.proofs.RoundLaws.{rounds_turn, rounds_block}
use Rattle.table_reader.proofs.round.rounds.Goals as goal

pub loop-t-init : goal.loop-t-init
unfolding table_rounds
loop-t-init c = refl

pub step-requires : goal.step-requires
step-requires c = rounds_block _ _ _ _ (array_block _ _ c.well_formed.1.1.0) c.loop-t.invariant

pub loop-t-preserved : goal.loop-t-preserved
loop-t-preserved c =
    rounds_turn _ _ _ _ _ _ _ _ c.as_chunks.ensures.front c.loop-t-test.true c.loop-t.invariant c.step.ensures

-- `round::rounds` meets its contract. The invariant: as many rounds are run as there were tables.
use Rattle.std.proofs.Common.{◌≡◌}
use Rattle.cipher.specs.Tables.{table_rounds}
use Rattle.cipher.specs.Book.{round_at}
use Rattle.table_reader.proofs.round.rounds.Given as goal

abbrev pub invariant-loop-t : goal.invariant-loop-t
invariant-loop-t l = l.y ≡ table_rounds (round_at l.body) l.t-index l.initial.y

-- `round::four_rounds` meets its contract.
use Rattle.cipher.proofs.round.four_rounds.Goals as goal

pub returns : goal.returns
returns c =
    rw (c.round-4.ensures, c.round-3.ensures, c.round-2.ensures, c.round.ensures)

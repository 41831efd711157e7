-- `round::four_unrounds` meets its contract.
use Rattle.cipher.proofs.round.four_unrounds.Goals as goal

pub returns : goal.returns
returns c =
    rw (c.unround-4.ensures, c.unround-3.ensures, c.unround-2.ensures, c.unround.ensures)

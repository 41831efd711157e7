-- `ink::bowlinette_write_ink` meets its contract.
use Rattle.bowlinette.proofs.IntoLaws.{kept_told}
use Rattle.bowlinette.proofs.ink.bowlinette_write_ink.Goals as goal

pub returns : goal.returns
returns c = kept_told _ _ _ _ _ _ c.deliver_length.ensures c.write_ink-written.ensures

-- `bowlinette_seal` meets its contract.
use Rattle.bowlinette.proofs.IntoLaws.{kept_told}
use Rattle.bowlinette.proofs.bowlinette_seal.Goals as goal

pub returns : goal.returns
returns c = kept_told _ _ _ _ _ _ c.deliver_length.ensures c.seal.ensures

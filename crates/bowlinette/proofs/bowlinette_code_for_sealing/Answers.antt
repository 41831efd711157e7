-- `bowlinette_code_for_sealing` meets its contract.
use Rattle.bowlinette.proofs.IntoLaws.{kept_told}
use Rattle.bowlinette.proofs.bowlinette_code_for_sealing.Goals as goal

pub returns : goal.returns
returns c = kept_told _ _ _ _ _ _ c.deliver_length.ensures c.code_for_sealing.ensures

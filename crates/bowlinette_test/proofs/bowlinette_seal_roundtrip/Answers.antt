-- `bowlinette_seal_roundtrip` meets its contract.
use Rattle.bowlinette.proofs.IntoLaws.{kept_told}
use Rattle.bowlinette_test.proofs.bowlinette_seal_roundtrip.Goals as goal

pub returns : goal.returns
returns c = kept_told _ _ _ _ _ _ c.deliver_length.ensures c.seal_roundtrip.ensures

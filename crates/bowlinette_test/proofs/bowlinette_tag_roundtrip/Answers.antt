-- `bowlinette_tag_roundtrip` meets its contract.
use Rattle.bowlinette.proofs.IntoLaws.{kept_told}
use Rattle.bowlinette_test.proofs.bowlinette_tag_roundtrip.Goals as goal

pub returns : goal.returns
returns c = kept_told _ _ _ _ _ _ c.deliver_verdict.ensures c.tag_roundtrip.ensures

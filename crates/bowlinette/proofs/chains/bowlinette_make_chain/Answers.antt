-- `chains::bowlinette_make_chain` meets its contract.
use Rattle.bowlinette.proofs.IntoLaws.{kept_told}
use Rattle.bowlinette.proofs.chains.bowlinette_make_chain.Goals as goal

pub returns : goal.returns
returns c = kept_told _ _ _ _ _ _ c.deliver_length.ensures c.make_chain-made.ensures

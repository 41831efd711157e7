-- `pass::pass` meets its contract.
use Rattle.driver.proofs.PassLaws.{pass_is}
use Rattle.driver.proofs.pass.pass.Goals as goal

pub returns : goal.returns
returns c =
    pass_is c.args.size _ _ _ _ _ _ _ _ c.requires.0 c.requires.1 c.rounds.ensures c.as_chunks.ensures.front c.fold-z.ensures c.rounds-2.ensures

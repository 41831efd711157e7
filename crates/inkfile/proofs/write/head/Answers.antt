-- `write::head` meets its contract.
use Rattle.inkfile.proofs.PutLaws.{head_is}
use Rattle.inkfile.proofs.write.head.Goals as goal

pub returns : goal.returns
returns c = head_is _ _ _ c.bytes_of-b.ensures

-- `mac::blocks_before` meets its contract.
use Rattle.std.proofs.Common.{rules}
use Rattle.cipher.specs.Cmac.{blocks_before}
use Rattle.archive.proofs.mac.blocks_before.Goals as goal

pub returns : goal.returns
unfolding blocks_before
returns c = search rules

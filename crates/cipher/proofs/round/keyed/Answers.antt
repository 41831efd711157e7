-- `round::keyed` meets its contract.
use Rattle.std.proofs.Common.{rules}
use Rattle.words.specs.Word.{add, xor}
use Rattle.cipher.specs.Lea.{keyed}
use Rattle.cipher.proofs.round.keyed.Goals as goal

pub returns : goal.returns
unfolding keyed add xor
returns c = search rules

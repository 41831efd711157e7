-- `round::unkeyed` meets its contract.
use Rattle.std.proofs.Common.{rules}
use Rattle.words.specs.Word.{sub, xor}
use Rattle.cipher.specs.Lea.{unkeyed}
use Rattle.cipher.proofs.round.unkeyed.Goals as goal

pub returns : goal.returns
unfolding unkeyed sub xor
returns c = search rules

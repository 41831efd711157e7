-- `cmac::cbc_mac` meets its contract. The invariant: the chaining value after the blocks so far.
use Rattle.std.proofs.Common.{◌≡◌}
use Rattle.lists.specs.Blocks.{zeros, cut}
use Rattle.words.specs.Word.{words4}
use Rattle.cipher.specs.KeySize.{rounds}
use Rattle.cipher.specs.Lea as L
use Rattle.cipher.specs.Cmac as C
use Rattle.cipher.proofs.cmac.cbc_mac.Given as goal

abbrev pub invariant-loop-block : goal.invariant-loop-block
invariant-loop-block l = l.x ≡ words4 (C.cbc_mac (L.first_rounds l.keys.rows (rounds l.keys.size)) zeros (cut l.block-index l.text))

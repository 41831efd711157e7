-- `text::code_text` meets its contract.
use Prim.Native.Nat.{◌*◌, ◌/◌}
use native.Mathlib.Omega.{arith}
use lib.ListN.{length}
use Rattle.lists.specs.Blocks.{Bytes}
use Rattle.lists.proofs.BlockLaws.{bytes_of_lem}
use Rattle.pad.proofs.CodedPartLaws.{all_written}
use Rattle.pad.proofs.text.code_text.Goals as goal

pub returns : goal.returns
returns c =
    let a = c.args in
    let m = a.message.now in
    let low : Bytes m = bytes_of_lem m (λ j h. omega (arith, c.type_inv.message j)) in
    let more : Bytes a.added.now = bytes_of_lem a.added.now (λ j h. omega (arith, c.type_inv.added j)) in
    all_written a.set.now _ m a.added.now a.out.now _ _ _ (length m / 16 * 16) c.images.ensures low more (omega arith) c.code_blocks.ensures
    c.code_part.ensures c.code_part-2.ensures

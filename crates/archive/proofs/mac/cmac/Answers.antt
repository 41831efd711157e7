-- `mac::cmac` meets its contract.
use mathlib.Core.Path.{ap, ◌∙◌}
use Prim.Native.Nat.{◌*◌}
use native.Mathlib.Omega.{arith}
use borrow.Author.Rules.{rules}
use Rattle.lists.proofs.BlockLaws.{bytes_of_lem}
use Rattle.lists.proofs.PartLaws.{part_end}
use Rattle.cipher.specs.Lea.{forward}
use Rattle.cipher.specs.KeySize.{rounds}
use Rattle.archive.proofs.MacLaws.{before_most, left_most, cmac_is, block_subkeys}
use Rattle.archive.proofs.mac.cmac.Goals as goal

pub overflow_mul-at : goal.overflow_mul-at
overflow_mul-at c = omega (arith, before_most c.args.message.now _ c.blocks_before-n.ensures)

pub cbc_mac-x-requires : goal.cbc_mac-x-requires
cbc_mac-x-requires c = before_most c.args.message.now _ c.blocks_before-n.ensures

pub slice_bounds-last_words-count : goal.slice_bounds-last_words-count
slice_bounds-last_words-count c = omega (arith, before_most c.args.message.now _ c.blocks_before-n.ensures)

pub slice_bounds-last_words-start : goal.slice_bounds-last_words-start
slice_bounds-last_words-start c = omega (arith, before_most c.args.message.now _ c.blocks_before-n.ensures)

pub last_words-last-requires : goal.last_words-last-requires
last_words-last-requires c =
    let m = c.args.message.now in
    let k = c.subkeys.ensures in
    (rw (part_end m (16 * c.blocks_before-n.result)) (left_most m _ c.blocks_before-n.ensures), rw k.k1 (block_subkeys _ _).0, rw k.k2 (block_subkeys _ _).1)

pub returns : goal.returns
returns c =
    let m = c.args.message.now in
    let keys = c.subkeys.ensures in
    let message = bytes_of_lem m (λ j h. search rules) in
    let mac = c.encipher.ensures ∙ ap (forward c.args.keys.rows (rounds c.args.keys.size)) c.xor.ensures in
    cmac_is c.args.keys.rows (rounds c.args.keys.size) m _ _ _ _ _ _ _ _ c.blocks_before-n.ensures keys.k1 keys.k2 (part_end m _) message
    c.cbc_mac-x.ensures c.last_words-last.ensures mac c.bytes.ensures

-- `cmac::cbc_mac` meets its contract. The invariant: the chaining value after the blocks so far.
use Rattle.std.proofs.Common.{◌≡◌, ℕ, ◌*◌, take, drop, sym, ap, ◌∙◌, arith}
use Rattle.lists.specs.Blocks.{Bytes, zeros, cut}
use Rattle.lists.proofs.BlockLaws.{bytes_of_lem, bytes_take, bytes_drop, block_zeros}
use Rattle.lists.proofs.FirstChunks.{chunk_lent, lent_count}
use Rattle.words.specs.Word.{words4}
use Rattle.cipher.specs.KeySize.{rounds}
use Rattle.cipher.specs.Lea as L
use Rattle.cipher.specs.Cmac as C
use Rattle.cipher.proofs.LeaLaws.{words_zeros}
use Rattle.cipher.proofs.CbcMacLaws.{mac_more, mac_block, mac_turn}
use Rattle.cipher.proofs.cmac.cbc_mac.Goals as goal

pub loop-block-init : goal.loop-block-init
unfolding cut C.cbc_mac
loop-block-init c = sym words_zeros

pub loop-block-preserved : goal.loop-block-preserved
loop-block-preserved c =
    let rows = c.args.keys.rows in
    let text = c.args.text.now in
    let l = c.loop-block in
    let k = l.block-index in
    let r = rounds c.args.keys.size in
    let low : Bytes text = bytes_of_lem text (λ j b. omega (arith, c.type_inv.text j)) in
    mac_turn rows r (C.cbc_mac (L.first_rounds rows r) zeros (cut k text)) (take 16 (drop (16 * k) text)) l.x c.words.result c.encipher-y.result
    (mac_block rows r zeros (cut k text) block_zeros)
    (bytes_take 16 (drop (16 * k) text) (bytes_drop (16 * k) text low))
    l.invariant
    (c.words.ensures ∙ ap words4 (chunk_lent 16 _ _ _ _ _ c.as_chunks.ensures.front c.loop-block-test.true))
    (c.encipher-y.ensures ∙ ap (L.forward rows r) c.xor.ensures)
    ∙ ap words4 (sym (mac_more (L.first_rounds rows r) zeros text k))

pub returns : goal.returns
returns c =
    let a = c.args in
    let k = a.keys in
    let all : c.loop-block.block-index ≡ a.n = omega (arith, lent_count 16 a.n _ _ _ c.as_chunks.ensures.front (omega arith)) in
    c.loop-block.invariant ∙ ap (λ (n : ℕ). words4 (C.cbc_mac (L.first_rounds k.rows (rounds k.size)) zeros (cut n a.text.now))) all

-- `blocks::Sealed::open_block` meets its contract.
use Rattle.std.proofs.Common.{ap, ◌∙◌}
use Rattle.words.specs.Word.{bytes}
use Rattle.cipher.specs.Images.{imaged}
use Rattle.cipher.proofs.ImageLaws.{block_imaged}
use Rattle.archive.proofs.OpenLaws.{opened_words}
use Rattle.archive.proofs.blocks.Sealed.open_block.Goals as goal

pub returns : goal.returns
returns c =
    let s = c.args.self.now in
    opened_words s.keys.rows s.keyed _ (imaged s.table.now) (λ b. block_imaged s.table.now b s.decodes) s.iv s.text.now c.args.k _ _
    _ _ c.words_before-prior.ensures c.words_of-c.ensures c.decipher.ensures (c.bytes.ensures ∙ ap bytes c.xor.ensures)

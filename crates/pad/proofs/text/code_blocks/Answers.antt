-- `text::code_blocks` meets its contract: each block of out is that of the text, coded.
use Rattle.std.proofs.Common.{◌≡◌, ◌+◌, ◌-◌, ◌*◌, ◌++◌, List, ℕ, take, drop, refl, ap₂, ◌∙◌, arith, rules}
use borrow.Rule.Slice.PartMut.{Post-is}
use Rattle.cipher.specs.Images.{imaged}
use Rattle.pad.proofs.CodedPartLaws.{block_images, lent_block, blocks_part}
use Rattle.pad.proofs.text.code_blocks.Goals as goal

pub returns : goal.returns
returns c =
    let t = c.args.images.now in
    let text = c.args.text.now in
    ap₂ {C = List ℕ} (λ (x y : List ℕ). x ++ y)
    (c.in_parts.ensures (block_images t text) (λ p part left l e w.
    let looked : left.now ≡ imaged t (take (p * 16 + 16 - p * 16) (drop (p * 16) text)) = search rules in
    lent_block t text _ p (p * 16) refl looked)
    ∙ blocks_part t text c.args.n c.requires.0)
    (Post-is 0 (c.args.n * 16) c.args.out.now (omega arith))

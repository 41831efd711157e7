-- `image::images` meets its contract.
use Rattle.std.proofs.Common.{◌+◌, ◌*◌, ◌/◌, ◌%◌, ◌∙◌, rules}
use Rattle.lists.specs.Tabulation.{tab}
use Rattle.cipher.specs.Coding.{byte_coded}
use Rattle.cipher.proofs.ImageLaws.{images_rows}
use Rattle.cipher.proofs.image.images.Goals as goal

pub returns : goal.returns
returns c =
    let u = c.args.set.now in
    c.in_parts.ensures (λ i. tab 16 (λ l. byte_coded u (i / 16) (16 * (i % 16) + l))) (λ p part left l e w. search rules) ∙ images_rows u

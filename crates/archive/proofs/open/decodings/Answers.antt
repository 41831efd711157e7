-- `open::decodings` meets its contract.
use mathlib.Core.Path.{ap, ◌∙◌}
use borrow.Author.Rules.{rules}
use Rattle.cipher.specs.Images.{images_of}
use Rattle.archive.proofs.OpenedLaws.{set_inverts, codes_ready}
use Rattle.archive.proofs.open.decodings.Goals as goal

pub invert-requires : goal.invert-requires
invert-requires c =
    let v = set_inverts _ c.requires in
    (v.0, search rules, v.1)

pub images-requires : goal.images-requires
images-requires c =
    let r = codes_ready c.args.set.now _ c.requires c.invert.ensures in
    (r.0, r.1, search rules)

pub returns : goal.returns
returns c = c.images.ensures ∙ ap images_of c.invert.ensures

-- `round::round` meets its contract.
use Rattle.std.proofs.Common.{[], ◌∷◌, get_or, ap, ◌∙◌}
use Rattle.words.specs.Word.{rol, ror}
use Rattle.cipher.specs.Lea.{round}
use Rattle.cipher.proofs.round.round.Goals as goal

pub returns : goal.returns
unfolding round
returns c =
    let x = c.args.x in
    let ea = c.rotate_left-a.ensures ∙ ap (rol 9) c.keyed-3.ensures in
    let eb = c.rotate_right-b.ensures ∙ ap (ror 5) c.keyed-2.ensures in
    let ec = c.rotate_right-c.ensures ∙ ap (ror 3) c.keyed.ensures in
    λ i.
    ea i ∷ eb i ∷ ec i ∷ get_or x 0 0 ∷ []

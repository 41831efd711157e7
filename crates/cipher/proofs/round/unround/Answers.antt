-- `round::unround` meets its contract.
use Rattle.std.proofs.Common.{ℕ, [], ◌∷◌, get_or, ap, ◌∙◌, ap₂}
use Rattle.cipher.specs.Lea.{unkeyed, unround}
use Rattle.cipher.proofs.round.unround.Goals as goal

pub returns : goal.returns
unfolding unround
returns c =
    let s = c.args in
    let k = s.k in
    let eb = c.unkeyed-b.ensures
    ∙ ap (λ (u : ℕ). unkeyed u (get_or s.y 3 0) (get_or k 0 0) (get_or k 1 0)) c.rotate_right.ensures in
    let ec = c.unkeyed-c.ensures
    ∙ ap₂ (λ (u v : ℕ). unkeyed u v (get_or k 2 0) (get_or k 3 0)) c.rotate_left.ensures eb in
    let ed = c.unkeyed-d.ensures
    ∙ ap₂ (λ (u v : ℕ). unkeyed u v (get_or k 4 0) (get_or k 5 0)) c.rotate_left-2.ensures ec in
    λ i.
    get_or s.y 3 0 ∷ eb i ∷ ec i ∷ ed i ∷ []

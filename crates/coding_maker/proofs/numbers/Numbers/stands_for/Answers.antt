-- `numbers::Numbers::stands_for` meets its contract.
use Rattle.std.proofs.Common.{ℕ, List, ◌+◌, ◌*◌, get_or, ap, ◌∙◌, arith}
use Rattle.coding_maker.specs.Numbers.{stands_for}
use Rattle.coding_maker.proofs.NumberLaws.{number_at}
use Rattle.coding_maker.proofs.numbers.Numbers.stands_for.Goals as goal

pub returns : goal.returns
returns c =
    let k = c.args.k in
    let w = c.from.result in
    ap (λ (t : List ℕ). get_or t (256 * k + w) 0) c.args.self.now.made
    ∙ number_at k w c.requires (omega (arith, c.from.ensures))
    ∙ ap (stands_for k) c.from.ensures

-- `rows::RoundKeys::first_rounds` meets its contract. The invariant: as many rounds are done as rows were taken.
use Rattle.std.proofs.Common.{◌≡◌, ℕ, ◌<◌, [], length, take, sym, refl, ap, ◌∙◌, arith}
use lib.Seq.{length-take-le, get_or-take}
use Rattle.cipher.specs.Lea as L
use Rattle.cipher.proofs.LeaLaws.{forward_more}
use Rattle.cipher.proofs.rows.RoundKeys.first_rounds.Goals as goal

pub loop-row-init : goal.loop-row-init
unfolding L.forward
loop-row-init c = (omega arith, refl)

pub loop-row-preserved : goal.loop-row-preserved
loop-row-preserved c =
    let rows = c.args.self.now.rows in
    let k = c.loop-row.row-index in
    let all : length (take c.args.n rows) ≡ c.args.n = length-take-le c.args.n rows (omega arith) in
    let here : k < c.args.n = omega arith in (
      omega arith,
      c.round-y.ensures
          ∙ (λ i. L.round (get_or-take c.args.n rows k [] here i) (c.loop-row.invariant.1 i))
          ∙ sym (forward_more rows k c.args.block),
    )

pub returns : goal.returns
returns c =
    let rows = c.args.self.now.rows in
    let all : length (take c.args.n rows) ≡ c.args.n = length-take-le c.args.n rows (omega arith) in
    let e : c.loop-row.row-index ≡ c.args.n = omega arith in
    c.loop-row.invariant.1 ∙ ap (λ (n : ℕ). L.forward rows n c.args.block) e

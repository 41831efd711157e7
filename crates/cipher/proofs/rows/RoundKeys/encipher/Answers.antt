-- `rows::RoundKeys::encipher` meets its contract. The invariant: 4 q rounds are done.
use Rattle.std.proofs.Common.{◌≡◌, ℕ, ◌+◌, ◌*◌, ◌/◌, List, [], get_or, sym, refl, ap, ◌∙◌, arith}
use Rattle.cipher.specs.Lea as L
use Rattle.cipher.proofs.KeySizeLaws.{rounds_le, rounds_fours}
use Rattle.cipher.proofs.LeaLaws.{forward_four}
use Rattle.cipher.proofs.rows.RoundKeys.encipher.Goals as goal

pub loop-q-init : goal.loop-q-init
unfolding L.forward
loop-q-init c = (omega arith, omega (arith, rounds_le c.args.self.now.size), refl)

pub loop-q-preserved : goal.loop-q-preserved
loop-q-preserved c =
    let rows = c.args.self.now.rows in
    let q = c.loop-q.q in (
      omega arith,
      c.loop-q.invariant.1,
      c.four_rounds-y.ensures
          ∙ ap
          (λ (y : List ℕ).
          L.round (get_or rows (4 * q + 3) []) (L.round (get_or rows (4 * q + 2) []) (L.round (get_or rows (4 * q + 1) []) (L.round (get_or rows (4 * q) []) y))))
          c.loop-q.invariant.2
          ∙ sym (forward_four rows q _),
    )

pub returns : goal.returns
returns c =
    let a = c.args in
    let e : 4 * c.loop-q.q ≡ 4 * (c.rounds-q-end.result / 4) = omega arith in
    c.loop-q.invariant.2
    ∙ ap (λ (n : ℕ). L.forward a.self.now.rows n a.block) (e ∙ ap (λ (n : ℕ). 4 * (n / 4)) c.rounds-q-end.ensures ∙ rounds_fours a.self.now.size)

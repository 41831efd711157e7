-- `rows::RoundKeys::decipher` meets its contract. The invariant: what is left to undo, undone, is the whole undone.
use Rattle.std.proofs.Common.{◌≡◌, ℕ, ◌+◌, ◌-◌, ◌*◌, ◌/◌, sym, refl, ap, ◌∙◌, arith}
use Rattle.cipher.specs.Lea as L
use Rattle.cipher.proofs.KeySizeLaws.{rounds_le, rounds_fours}
use Rattle.cipher.proofs.LeaLaws.{backward_four}
use Rattle.cipher.proofs.rows.RoundKeys.decipher.Goals as goal

pub loop-q-init : goal.loop-q-init
loop-q-init c = (omega arith, omega (arith, rounds_le c.args.self.now.size), refl)

pub loop-q-preserved : goal.loop-q-preserved
loop-q-preserved c =
    let rows = c.args.self.now.rows in
    let q = c.loop-q.q - 1 in
    let e : q + 1 ≡ c.loop-q.q = omega arith in (
      omega arith,
      c.loop-q.invariant.1,
      ap (L.backward rows (4 * q)) c.four_unrounds-y.ensures
          ∙ sym (backward_four rows q _)
          ∙ ap (λ (n : ℕ). L.backward rows (4 * n) c.loop-q.x) e
          ∙ c.loop-q.invariant.2,
    )

pub returns : goal.returns
unfolding L.backward
returns c =
    let a = c.args in
    let e : 0 ≡ 4 * c.loop-q.q = omega arith in
    ap (λ (n : ℕ). L.backward a.self.now.rows n c.loop-q.x) e
    ∙ c.loop-q.invariant.2
    ∙ ap (λ (n : ℕ). L.backward a.self.now.rows n a.block) (ap (λ (n : ℕ). 4 * (n / 4)) c.rounds-q.ensures ∙ rounds_fours a.self.now.size)

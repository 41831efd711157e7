-- `hash::rounds` meets its contract. The invariant: 4 * q rounds are made.
use Rattle.std.proofs.Common.{◌≡◌, ℕ, ◌+◌, ◌*◌, refl, ap, ◌∙◌, arith}
use Rattle.sha256.specs.Sha256.{rounds}
use Rattle.sha256.proofs.HashLaws.{rounds_more}
use Rattle.sha256.proofs.hash.rounds.Goals as goal

pub loop-q-init : goal.loop-q-init
unfolding rounds
loop-q-init c = (omega arith, refl)

pub loop-q-preserved : goal.loop-q-preserved
loop-q-preserved c =
    let q = c.loop-q.q in
    let p0 = rounds_more _ _ _ _ (4 * q) (4 * q + 1) (omega arith) c.loop-q.invariant.1 c.round-a.ensures in
    let p1 = rounds_more _ _ _ _ (4 * q + 1) (4 * q + 2) (omega arith) p0 c.round-b.ensures in
    let p2 = rounds_more _ _ _ _ (4 * q + 2) (4 * q + 3) (omega arith) p1 c.round-c.ensures in
    let p3 = rounds_more _ _ _ _ (4 * q + 3) (4 * (q + 1)) (omega arith) p2 c.round-d.ensures in
    (omega arith, p3)

pub returns : goal.returns
returns c =
    let e : c.loop-q.q ≡ 16 = omega arith in
    c.loop-q.invariant.1 ∙ ap (λ (n : ℕ). rounds c.args.w (4 * n) c.args.h) e

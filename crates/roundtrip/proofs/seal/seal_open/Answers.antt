-- `seal::seal_open` meets its contract.
use Rattle.std.proofs.Common.{ℕ, List, sym, ap, ◌∙◌, arith}
use Rattle.cipher.specs.Refusal.{written_of}
use Rattle.cipher.proofs.PassedLaws.{passed}
use Rattle.archive.specs.Archive.{open_answer}
use Rattle.roundtrip.specs.Steps.{sealed_opened}
use Rattle.roundtrip.proofs.StepLaws.{written_refused, written_done, seal_room}
use Rattle.roundtrip.proofs.seal.seal_open.Goals as goal

pub slice_bounds-open-end : goal.slice_bounds-open-end
slice_bounds-open-end c = omega (arith, seal_room _ _ _ _ _ _ c.seal.ensures _ c.in_ok-n.was)

pub returns-in_err-n : goal.returns-in_err-n
unfolding sealed_opened
returns-in_err-n c =
    let a = c.args in
    let p = a.parts.now in
    (λ i. (ap written_of (passed c.from_residual.ensures.1) i, (c.seal.new.out, a.out.now)))
    ∙ written_refused _ _ _ c.seal.ensures a.out.now (λ f. open_answer p.schedule p.key.now p.set.now a.iv.now f a.out.now) _ c.in_err-n.was

pub returns : goal.returns
unfolding sealed_opened
returns c =
    let a = c.args in
    let p = a.parts.now in
    ap (λ (y : (ℕ × ℕ) × List ℕ). (y.0, (c.seal.new.out, y.1))) c.«open».ensures
    ∙ sym (written_done _ _ _ c.seal.ensures a.out.now (λ f. open_answer p.schedule p.key.now p.set.now a.iv.now f a.out.now) _ c.in_ok-n.was)

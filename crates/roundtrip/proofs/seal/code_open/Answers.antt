-- `seal::code_open` meets its contract.
use Rattle.std.proofs.Common.{ℕ, List, sym, ap, ◌∙◌, arith}
use Rattle.cipher.specs.Refusal.{written_of}
use Rattle.cipher.proofs.PassedLaws.{passed}
use Rattle.roundtrip.specs.Steps.{sealed_opened, coded_opened}
use Rattle.roundtrip.proofs.StepLaws.{written_refused, written_done, coding_room}
use Rattle.roundtrip.proofs.seal.code_open.Goals as goal

pub slice_bounds-seal_open-end : goal.slice_bounds-seal_open-end
slice_bounds-seal_open-end c = omega (arith, coding_room _ _ _ _ _ c.code_for_sealing.ensures _ c.in_ok-n.was)

pub returns-in_err-n : goal.returns-in_err-n
unfolding coded_opened
returns-in_err-n c =
    let a = c.args in
    let p = a.parts.now in
    (λ i. (ap written_of (passed c.from_residual.ensures.1) i, (c.code_for_sealing.new.out, (a.sealed.now, a.out.now))))
    ∙ written_refused _ _ _ c.code_for_sealing.ensures (a.sealed.now, a.out.now)
    (λ f. sealed_opened p.schedule p.key.now p.set.now p.book.now a.iv.now f a.sealed.now a.out.now) _ c.in_err-n.was

pub returns : goal.returns
unfolding coded_opened
returns c =
    let a = c.args in
    let p = a.parts.now in
    ap (λ (y : (ℕ × ℕ) × (List ℕ × List ℕ)). (y.0, (c.code_for_sealing.new.out, y.1))) c.seal_open.ensures
    ∙ sym (written_done _ _ _ c.code_for_sealing.ensures (a.sealed.now, a.out.now)
    (λ f. sealed_opened p.schedule p.key.now p.set.now p.book.now a.iv.now f a.sealed.now a.out.now) _ c.in_ok-n.was)

-- `code::code_for_sealing` meets its contract.
use Rattle.std.proofs.Common.{ℕ, ◌+◌, ◌/◌, length, replicate, Result, refl, sym, ap, ◌∙◌, arith}
use Rattle.cipher.specs.declared.refusal.Refusal.{Refusal}
use Rattle.cipher.specs.Refusal.{written_of}
use Rattle.cipher.proofs.PassedLaws.{passed}
use Rattle.pad.specs.Padding.{sealing_added, padded_for_sealing}
use Rattle.pad.proofs.PadLaws.{front_length, sealing_length, sealing_blocks, sealing_tail}
use Rattle.pad.proofs.AnswerLaws.{admitted_low, answer_refused, answer_coded}
use Rattle.pad.proofs.code.code_for_sealing.Goals as goal

pub returns-in_err-admit : goal.returns-in_err-admit
returns-in_err-admit c =
    let a = c.args in
    let m = a.message.now in
    ap (λ (r : Result ℕ Refusal). (written_of r, a.out.now)) (passed c.from_residual.ensures.1)
    ∙ answer_refused 0 (length (padded_for_sealing m)) _ m (padded_for_sealing m) _ _ (sealing_length m) _ c.in_err-admit.ensures

pub code_text-requires : goal.code_text-requires
code_text-requires c =
    let n = length c.args.message.now in
    let h = admitted_low _ _ _ _ c.in_ok-admit.ensures in
    (h.0, h.1, omega (arith, h.2, front_length (sealing_added n) (replicate 16 (sealing_added n)) (omega arith)))

pub returns : goal.returns
returns c =
    let m = c.args.message.now in
    let n = length m in
    answer_coded 0 (length (padded_for_sealing m)) _ m (padded_for_sealing m) _ _ (sealing_length m) c.in_ok-admit.ensures _ _ (n / 16 + 1) _ _
    (sealing_tail m _ refl) (sealing_blocks m) c.code_text.ensures
    (ap (λ (k : ℕ). n + k) (front_length (sealing_added n) (replicate 16 (sealing_added n)) (omega arith))) (sym (sealing_length m))

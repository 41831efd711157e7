-- `code::code_for_tag` meets its contract.
use Rattle.std.proofs.Common.{◌≡◌, ◌∷◌, ℕ, ◌+◌, ◌-◌, ◌/◌, length, replicate, Result, sym, ap, ap₂, ◌∙◌, arith}
use Rattle.cipher.specs.declared.refusal.Refusal.{Refusal}
use Rattle.cipher.proofs.PassedLaws.{passed}
use Rattle.pad.specs.declared.code.TagCode.{TagCode}
use Rattle.pad.specs.Padding.{kind_of, padded_for_tag}
use Rattle.pad.specs.Answers.{tag_code_told}
use Rattle.pad.proofs.PadLaws.{front_length, added_most, tag_blocks, tag_tail, tag_total}
use Rattle.pad.proofs.AnswerLaws.{admitted_low, answer_refused, answer_coded}
use Rattle.pad.proofs.code.code_for_tag.Goals as goal

pub admit-requires : goal.admit-requires
admit-requires c = omega (arith, c.tag_added-added.ensures, added_most (length c.args.message.now))

pub returns-in_err-admit : goal.returns-in_err-admit
returns-in_err-admit c =
    let a = c.args in
    let m = a.message.now in
    ap (λ (r : Result TagCode Refusal). (tag_code_told r, a.out.now)) (passed c.from_residual.ensures.1)
    ∙ answer_refused (0, 0) (length (padded_for_tag m), kind_of (length m)) _ m (padded_for_tag m) _ _ (tag_total m _ c.tag_added-added.ensures) _ c.in_err-admit.ensures

pub slice_bounds-code_text-end : goal.slice_bounds-code_text-end
slice_bounds-code_text-end c = omega (arith, c.tag_added-added.ensures, added_most (length c.args.message.now))

pub code_text-requires : goal.code_text-requires
code_text-requires c =
    let added = c.tag_added-added in
    let h = admitted_low _ _ _ _ c.in_ok-admit.ensures in
    (h.0, h.1, omega (arith, h.2, front_length added.result (0x80 ∷ replicate 15 0) (omega (arith, added.ensures, added_most (length c.args.message.now)))))

pub returns : goal.returns
returns c =
    let m = c.args.message.now in
    let added = c.tag_added-added in
    let size : length (padded_for_tag m) ≡ length m + added.result = tag_total m _ added.ensures in
    answer_coded (0, 0) (length (padded_for_tag m), kind_of (length m)) _ m (padded_for_tag m) _ _ size c.in_ok-admit.ensures _ _ ((length m - 1) / 16 + 1) _ _
    (tag_tail m added.result added.ensures) (tag_blocks m) c.code_text.ensures
    (ap (λ (k : ℕ). length m + k) (front_length added.result (0x80 ∷ replicate 15 0) (omega (arith, added.ensures, added_most (length m)))))
    (ap₂ (λ (n k : ℕ). (n, k)) (sym size) c.kind_of-kind.ensures)

-- `schedules::Key::of` meets its contract.
use Rattle.std.proofs.Common.{ap, ◌∙◌}
use Rattle.std.specs.Option.{ok_or}
use Rattle.cipher.specs.KeySize.{key_length}
use Rattle.cipher.specs.Keys.{key_told}
use Rattle.cipher.specs.declared.refusal.Refusal.TheVariants.{KeyLength}
use Rattle.cipher.proofs.PassedLaws.{passed, or_some}
use Rattle.cipher.proofs.KeySizeLaws.{found_length}
use Rattle.cipher.proofs.SchedulesLaws.{kind_unnumbered, kind_unsized, kind_whole}
use Rattle.cipher.proofs.schedules.Key.of.Goals as goal

pub returns-in_err-schedule : goal.returns-in_err-schedule
returns-in_err-schedule c = ap key_told (passed c.from_residual.ensures.1) ∙ kind_unnumbered _ _ _ c.in_err-schedule.ensures

pub returns-in_err-size : goal.returns-in_err-size
returns-in_err-size c =
    ap key_told (passed c.from_residual-in_err-size.ensures.1)
    ∙ kind_unsized _ _ _ c.in_ok-schedule.ensures _ (c.in_err-size.ensures.value ∙ ap (λ o. ok_or o KeyLength) c.of_key_len.ensures)

pub invariant_of-result : goal.invariant_of-result
invariant_of-result c = record {
  fits = found_length key_length _ _ (or_some _ KeyLength _ (c.in_ok-size.ensures.value ∙ ap (λ o. ok_or o KeyLength) c.of_key_len.ensures));
}

pub returns : goal.returns
returns c = kind_whole _ _ _ c.in_ok-schedule.ensures _ (c.in_ok-size.ensures.value ∙ ap (λ o. ok_or o KeyLength) c.of_key_len.ensures)

-- `deliver_verdict` meets its contract.
use Rattle.std.proofs.Common.{◌≡◌, ℕ, Ok, refl, sym, ap, ◌∙◌, rules}
use Rattle.archive.specs.Archive.{checked_told}
use Rattle.archive.specs.declared.check.Verdict.{Verdict}
use Rattle.archive.specs.declared.check.Verdict.TheVariants.{Valid, Invalid}
use Rattle.bowlinette.proofs.IntoLaws.{delivered_told, mapped}
use Rattle.bowlinette.proofs.deliver_verdict.Goals as goal

abbrev told : Verdict → ℕ
told v = (checked_told (Ok v)).1

verdict_told : (v : Verdict) → checked_told (Ok v) ≡ (0, told v)
verdict_told Valid = refl
verdict_told Invalid = refl

pub returns : goal.returns
returns c =
    c.deliver.ensures
    ∙ delivered_told checked_told told 0 verdict_told (λ q. refl) c.args.checked c.map.result c.args.valid.now
    (mapped told _ _ _ (λ x y k. let e : checked_told (Ok x) ≡ (0, y) = search rules in ap (λ (p : ℕ × ℕ). p.1) (sym e)) c.map.ensures.cases)

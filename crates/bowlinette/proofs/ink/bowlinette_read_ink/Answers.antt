-- `ink::bowlinette_read_ink` meets its contract.
use Rattle.std.proofs.Common.{ℕ, List, Result, Ok, refl, ap, ◌∙◌, replicate}
use Rattle.cipher.specs.declared.refusal.Refusal.{Refusal}
use Rattle.inkfile.specs.Reading.{Told}
use Rattle.inkfile.specs.ReadingSteps.{ink_told}
use Rattle.inkfile.specs.declared.read.Ink.{Ink}
use Rattle.bowlinette.specs.Into.{into}
use Rattle.bowlinette.specs.Ink.{ink_numbers}
use Rattle.bowlinette.proofs.IntoLaws.{delivered_told, mapped}
use Rattle.bowlinette.proofs.ink.bowlinette_read_ink.Goals as goal

abbrev told : Ink → List ℕ
told x = (ink_numbers (ink_told (Ok x))).1

pub returns : goal.returns
unfolding ink_numbers
returns c =
    c.deliver.ensures
    ∙ delivered_told (λ (r : Result Ink Refusal). ink_numbers (ink_told r)) told (replicate 18 0) (λ x. refl) (λ q. refl) c.read_ink.result c.map.result c.args.ink.now
    (mapped told _ _ _ (λ x y k. k) c.map.ensures.cases)
    ∙ ap (λ (t : Told). into (ink_numbers t) c.args.ink.now) c.read_ink.ensures

-- `bowlinette_round_keys` meets its contract.
use Rattle.std.proofs.Common.{ℕ, List, refl, ap, ◌∙◌}
use Rattle.cipher.specs.Answers.{row_told}
use Rattle.bowlinette.specs.Into.{into}
use Rattle.bowlinette.proofs.IntoLaws.{delivered_told, itself}
use Rattle.bowlinette.proofs.bowlinette_round_keys.Goals as goal

pub returns : goal.returns
returns c =
    c.deliver.ensures
    ∙ delivered_told row_told (λ b. b) _ (λ b. refl) (λ q. refl) c.round_keys.result _ _ (itself _)
    ∙ ap (λ (t : ℕ × List ℕ). into t c.args.row.now) c.round_keys.ensures

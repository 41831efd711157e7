-- `bowlinette_cbc_mac` meets its contract.
use Rattle.std.proofs.Common.{ℕ, List, refl, ap, ◌∙◌}
use Rattle.cipher.specs.Answers.{block_told}
use Rattle.bowlinette.specs.Into.{into}
use Rattle.bowlinette.proofs.IntoLaws.{delivered_told, itself}
use Rattle.bowlinette_test.proofs.bowlinette_cbc_mac.Goals as goal

pub returns : goal.returns
returns c =
    c.deliver.ensures
    ∙ delivered_told block_told (λ b. b) _ (λ b. refl) (λ q. refl) c.cbc_mac.result _ _ (itself _)
    ∙ ap (λ (t : ℕ × List ℕ). into t c.args.out.now) c.cbc_mac.ensures

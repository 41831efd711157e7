-- `bowlinette_encipher` meets its contract.
use Rattle.std.proofs.Common.{ℕ, List, refl, ap, ◌∙◌}
use Rattle.lists.specs.Blocks.{zeros}
use Rattle.cipher.specs.Answers.{block_told}
use Rattle.bowlinette.specs.Into.{into}
use Rattle.bowlinette.proofs.IntoLaws.{delivered_told, itself}
use Rattle.bowlinette.proofs.bowlinette_encipher.Goals as goal

pub returns : goal.returns
returns c =
    c.deliver.ensures
    ∙ delivered_told block_told (λ b. b) zeros (λ b. refl) (λ q. refl) c.encipher.result _ _ (itself _)
    ∙ ap (λ (t : ℕ × List ℕ). into t c.args.out.now) c.encipher.ensures

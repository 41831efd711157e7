-- `deliver_length` meets its contract.
use Rattle.std.proofs.Common.{refl, ◌∙◌, rules}
use Rattle.cipher.specs.Refusal.{written_of}
use Rattle.bowlinette.proofs.IntoLaws.{delivered_told, mapped}
use Rattle.bowlinette.proofs.deliver_length.Goals as goal

pub returns : goal.returns
returns c =
    c.deliver.ensures
    ∙ delivered_told written_of (λ n. n) 0 (λ n. refl) (λ q. refl) c.args.written c.map.result c.args.length.now
    (mapped (λ n. n) _ _ _ (λ x y k. search rules) c.map.ensures.cases)

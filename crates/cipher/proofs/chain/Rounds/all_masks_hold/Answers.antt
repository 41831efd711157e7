-- `chain::Rounds::all_masks_hold` meets its contract.
use Rattle.std.proofs.Common.{ℕ, ◌+◌, ◌-◌, ◌*◌, List, length, take, drop, refl, ap, ◌∙◌, rules, arith}
use borrow.Author.Tests.{tests}
use Rattle.std.proofs.lemmas.Iterator.{YieldsList-from_range}
use Rattle.std.proofs.lemmas.Iterator.Search.{all_from_yields_List}
use Rattle.lists.proofs.EveryLaws.{every_ext}
use Rattle.lists.proofs.PartLaws.{part_end}
use Rattle.lists.proofs.AllLaws.{all_below}
use Rattle.cipher.specs.Chain as C
use Rattle.cipher.proofs.chain.Rounds.all_masks_hold.Goals as goal

pub returns : goal.returns
unfolding C.mask_rule_holds
returns c =
    let ch = c.args.self.now.chain.now in
    let r = c.args.self.now.r in
    let at = λ (l : ℕ). 512 * (r + 2) + 408 * l in
    all_from_yields_List (λ l. C.masks_hold (take (length ch - at l) (drop (at l) ch))) _ _ c.all.result c.all.ensures.ran
    (YieldsList-from_range 0 r r refl (omega arith)) (λ x b q k. search (rules, tests))
    ∙ all_below r _
    ∙ every_ext r _ _ (λ l h. ap (λ (s : List ℕ). C.masks_hold s) (part_end ch (at l)))

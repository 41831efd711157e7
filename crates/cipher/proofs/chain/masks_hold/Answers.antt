-- `chain::masks_hold` meets its contract.
use Rattle.std.proofs.Common.{ltb, refl, ◌∙◌, rules}
use borrow.Author.Tests.{tests}
use Rattle.std.proofs.lemmas.Iterator.{YieldsList-from_range}
use Rattle.std.proofs.lemmas.Iterator.Search.{all_from_yields_List}
use Rattle.lists.proofs.AllLaws.{all_below}
use Rattle.cipher.specs.Chain as C
use Rattle.cipher.proofs.chain.masks_hold.Goals as goal

pub returns : goal.returns
returns c =
    all_from_yields_List (λ k. ltb (C.mask_byte c.args.s.now k) 2) _ _ c.all.result c.all.ensures.ran (YieldsList-from_range 0 24 24 refl refl)
    (λ x b q k. search (rules, tests))
    ∙ all_below 24 _

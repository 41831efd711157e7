-- `chain::are_permutations` meets its contract.
use Rattle.std.proofs.Common.{refl, ◌∙◌, rules, arith}
use borrow.Author.Tests.{tests}
use Rattle.std.proofs.lemmas.Iterator.{YieldsList-from_range}
use Rattle.std.proofs.lemmas.Iterator.Search.{all_from_yields_List}
use Rattle.lists.proofs.AllLaws.{all_below}
use Rattle.cipher.specs.Coding.{coding_at}
use Rattle.cipher.specs.Chain as C
use Rattle.cipher.proofs.chain.are_permutations.Goals as goal

pub returns : goal.returns
unfolding C.are_permutations
returns c =
    let a = c.args in
    all_from_yields_List (λ k. C.is_one_to_one 16 16 (coding_at a.s.now k)) _ _ c.all.result c.all.ensures.ran
    (YieldsList-from_range 0 a.n a.n refl (omega arith)) (λ x b q k. search (rules, tests))
    ∙ all_below a.n _

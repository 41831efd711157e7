-- `padding::ends_with` meets its contract.
use Rattle.std.proofs.Common.{eqb, ◌∙◌, rules, arith}
use borrow.Author.Tests.{tests}
use Rattle.std.proofs.lemmas.Iterator.{YieldsList-from_slice}
use Rattle.std.proofs.lemmas.Iterator.Search.{all_from_yields_List}
use Rattle.archive.proofs.PaddingLaws.{all_last}
use Rattle.archive.proofs.padding.ends_with.Goals as goal

pub returns : goal.returns
returns c =
    let a = c.args in
    all_from_yields_List (λ x. eqb x a.v) _ _ c.all.result c.all.ensures.ran (YieldsList-from_slice _ c.iter.ensures.rest) (λ x b q k. search (rules, tests))
    ∙ all_last a.b a.v (λ x. eqb x a.v) (search rules) (omega arith)

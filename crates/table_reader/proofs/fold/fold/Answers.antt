-- `fold::fold` meets its contract.
use Rattle.std.proofs.Common.{get_or, ◌∙◌, rules}
use Rattle.lists.proofs.FromFnLaws.{tab_from_fn}
use Rattle.table_reader.specs.Reading.{fold_byte}
use Rattle.table_reader.proofs.FoldLaws.{fold_each}
use Rattle.table_reader.proofs.fold.fold.Goals as goal

pub returns : goal.returns
returns c =
    let a = c.args in
    tab_from_fn _ _ _ (λ k. fold_byte a.f.now k (get_or a.x k 0) (get_or a.y k 0)) 16 (λ i y q b w. search rules) c.from_fn.ensures.items
    ∙ fold_each a.f.now a.x a.y

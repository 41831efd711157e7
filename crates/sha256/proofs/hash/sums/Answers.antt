-- `hash::sums` meets its contract.
use Rattle.std.proofs.Common.{get_or, rules}
use Rattle.lists.proofs.FromFnLaws.{tab_from_fn}
use Rattle.words.specs.Word.{add}
use Rattle.sha256.specs.Sha256.{sums}
use Rattle.sha256.proofs.hash.sums.Goals as goal

pub returns : goal.returns
unfolding sums add
returns c =
    let a = c.args in
    tab_from_fn _ _ _ (λ k. add (get_or a.h k 0) (get_or a.s k 0)) 8 (λ i y q b w. search rules) c.from_fn.ensures.items

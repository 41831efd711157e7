-- `word::xor` meets its contract.
use Rattle.std.proofs.Common.{get_or, rules}
use Rattle.lists.specs.Tabulation.{tab}
use Rattle.lists.proofs.FromFnLaws.{tab_from_fn}
use Rattle.words.specs.Word.{xor, xor_words}
use Rattle.words.proofs.word.xor.Goals as goal

pub returns : goal.returns
unfolding tab xor xor_words
returns c =
    let a = c.args in
    tab_from_fn _ _ _ (λ k. xor (get_or a.x k 0) (get_or a.y k 0)) 4 (λ i y q b w. search rules) c.from_fn.ensures.items

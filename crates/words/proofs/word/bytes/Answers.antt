-- `word::bytes` meets its contract.
use Rattle.std.proofs.Common.{◌/◌, ◌%◌, get_or, rules}
use Rattle.lists.specs.Tabulation.{tab}
use Rattle.lists.proofs.FromFnLaws.{tab_from_fn}
use Rattle.words.specs.Word as W
use Rattle.words.proofs.word.bytes.Goals as goal

pub returns : goal.returns
unfolding tab W.bytes W.bytes_of
returns c =
    tab_from_fn _ _ _ (λ k. get_or (W.bytes_of (get_or c.args.x (k / 4) 0)) (k % 4) 0) 16 (λ i y q b w. search rules) c.from_fn.ensures.items

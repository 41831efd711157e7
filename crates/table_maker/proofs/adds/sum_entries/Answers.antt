-- `adds::sum_entries` meets its contract.
use Rattle.std.proofs.Common.{rules}
use Rattle.lists.proofs.FromFnLaws.{tab_from_fn}
use Rattle.cipher.specs.Tables.{add_entry}
use Rattle.table_maker.specs.Made.{sum_entries}
use Rattle.table_maker.proofs.adds.sum_entries.Goals as goal

pub returns : goal.returns
unfolding add_entry
returns c = let a = c.args in tab_from_fn _ _ _ (sum_entries a.round.bytes.now a.p) 32 (λ i y q b w. search rules) c.from_fn.ensures.items

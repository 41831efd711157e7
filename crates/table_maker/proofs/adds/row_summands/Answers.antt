-- `adds::row_summands` meets its contract.
use Rattle.std.proofs.Common.{rules}
use Rattle.lists.proofs.FromFnLaws.{tab_from_fn}
use Rattle.table_maker.specs.Made.{summands}
use Rattle.table_maker.proofs.adds.row_summands.Goals as goal

pub returns : goal.returns
returns c = let a = c.args in tab_from_fn _ _ _ (summands a.s.now a.at a.k a.m) 32 (λ i y q b w. search rules) c.from_fn.ensures.items

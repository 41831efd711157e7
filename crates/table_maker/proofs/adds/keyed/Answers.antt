-- `adds::keyed` meets its contract.
use Rattle.std.proofs.Common.{rules}
use Rattle.lists.proofs.FromFnLaws.{tab_from_fn}
use Rattle.table_maker.specs.Made.{keyed_by}
use Rattle.table_maker.proofs.adds.keyed.Goals as goal

pub returns : goal.returns
returns c = let a = c.args in tab_from_fn _ _ _ (keyed_by a.s.now a.at a.k) 16 (λ i y q b w. search rules) c.from_fn.ensures.items

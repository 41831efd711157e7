-- `subtracts::difference_entries` meets its contract.
use Rattle.std.proofs.Common.{rules}
use Rattle.lists.proofs.FromFnLaws.{tab_from_fn}
use Rattle.cipher.specs.Tables.{add_entry}
use Rattle.reading_book.specs.Made.{difference_entries}
use Rattle.reading_book.proofs.subtracts.difference_entries.Goals as goal

pub returns : goal.returns
unfolding add_entry
returns c =
    let a = c.args in
    tab_from_fn _ _ _ (difference_entries a.round.after.now a.round.middles.bytes.now a.l a.p) 32 (λ i y q b w. search rules) c.from_fn.ensures.items

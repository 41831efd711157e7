-- `build::group` meets its contract.
use Rattle.reading_book.proofs.ReadingWhole.{group_made}
use Rattle.reading_book.proofs.build.group.Goals as goal

pub returns : goal.returns
returns c =
    group_made _ _ _ _ _ _ c.of-s.ensures c.of-u.ensures c.fold_tables.ensures

-- `rounds::round_at` meets its contract.
use Rattle.std.proofs.Common.{ap₂, ◌∙◌}
use Rattle.cipher.specs.KeySize.{rounds}
use Rattle.reading.specs.Book.{reading_part, reading_book_round}
use Rattle.reading_book.proofs.ReadingWhole.{row_back_is}
use Rattle.reading_book.proofs.rounds.round_at.Goals as goal

pub of_chain-round-requires : goal.of_chain-round-requires
of_chain-round-requires c = ((3, 0, c.requires.0), c.requires.1)

pub returns : goal.returns
unfolding reading_book_round
returns c =
    let keys = c.args.keys in
    c.round_tables.ensures
    ∙ ap₂ reading_part c.of_chain-round.ensures (row_back_is (rounds keys.size) c.rounds-r.result c.args.l keys.rows c.rounds-r.ensures)

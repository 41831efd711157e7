-- `rounds::round_at` meets its contract.
use Rattle.std.proofs.Common.{get_or, [], ap, ◌∙◌}
use Rattle.cipher.specs.Tables.{RoundCodings}
use Rattle.cipher.specs.Book.{round_part, book_round}
use Rattle.book.proofs.rounds.round_at.Goals as goal

pub of_chain-round-requires : goal.of_chain-round-requires
of_chain-round-requires c = ((0, 3, c.requires.0), c.requires.1)

pub returns : goal.returns
unfolding book_round
returns c =
    c.round_tables.ensures
    ∙ ap (λ (q : RoundCodings). round_part q (get_or c.args.keys.rows c.args.l [])) c.of_chain-round.ensures

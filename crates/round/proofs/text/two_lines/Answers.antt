-- `text::two_lines` meets its contract.
use Rattle.table_reader.proofs.Typed.{array_block}
use Rattle.round.proofs.TextLaws.{hex_is, two_lines_is}
use Rattle.round.proofs.text.two_lines.Goals as goal

pub returns : goal.returns
returns c =
    let w = c.well_formed in
    two_lines_is c.args.first c.args.last _ _ _ _ _
    (hex_is c.args.first _ (array_block _ _ w.0) c.unwrap-2.ensures c.encode_to_slice-2.ensures.written)
    (hex_is c.args.last _ (array_block _ _ w.1.1.0) c.unwrap.ensures c.encode_to_slice.ensures.written)
    c.digit.ensures c.digit-2.ensures

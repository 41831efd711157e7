-- `text::refused` meets its contract.
use Rattle.std.proofs.Common.{arith}
use Rattle.round.proofs.TextLaws.{decimal_ten, after_word, refused_put}
use Rattle.round.proofs.text.refused.Goals as goal

pub put_decimal-end-requires : goal.put_decimal-end-requires
put_decimal-end-requires c =
    omega (arith, decimal_ten c.args.n c.well_formed.0.1, after_word c.copy_from_slice.new.self c.copy_from_slice.ensures.after)

pub returns : goal.returns
returns c =
    refused_put _ c.copy_from_slice.ensures.after _ _ c.put_decimal-end.new.out c.well_formed.0.1 c.put_decimal-end.ensures

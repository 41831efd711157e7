-- `text::put_decimal` meets its contract. The measure is the number: it falls to its tenth.
use Rattle.round.proofs.TextLaws.{put_low, put_more}
use Rattle.round.proofs.text.+put_decimal.Goals as goal

pub returns-then-n-lt10 : goal.returns-then-n-lt10
returns-then-n-lt10 t c = put_low _ _ c.args.out.now c.if-n-lt10.true c.digit.ensures c.requires

pub returns : goal.returns
returns t c =
    let k = c.put_decimal-k in
    put_more _ _ k.result c.args.out.now k.new.out c.if-n-lt10.false c.digit-2.ensures k.ensures c.requires

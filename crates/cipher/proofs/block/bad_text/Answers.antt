-- `block::bad_text` meets its contract.
use Rattle.std.proofs.Common.{sym}
use Rattle.cipher.proofs.AnswerLaws.{text_empty, text_long, text_left}
use Rattle.cipher.proofs.block.bad_text.Goals as goal

pub returns-then-n-eq0 : goal.returns-then-n-eq0
returns-then-n-eq0 c = sym (text_empty _ c.if-n-eq0.true)

pub returns-then-n-gt-LONGEST_CODE : goal.returns-then-n-gt-LONGEST_CODE
returns-then-n-gt-LONGEST_CODE c = sym (text_long _ c.if-n-eq0.false c.if-n-gt-LONGEST_CODE.true)

pub returns : goal.returns
returns c = sym (text_left _ c.if-n-eq0.false c.if-n-gt-LONGEST_CODE.false)

-- `read::read` meets its contract.
use Rattle.std.proofs.Common.{refl, sym, ap, ◌∙◌, arith}
use Rattle.lists.proofs.TwoParts.{room_length}
use Rattle.cipher.specs.Refusal.{number_of, written_of}
use Rattle.cipher.proofs.PassedLaws.{passed, or_none}
use Rattle.cipher.proofs.AnswerLaws.{text_known}
use Rattle.reader.proofs.AnswerLaws.{book_found, read_6, read_7, read_8, read_9, read_made}
use Rattle.reader.proofs.read.read.Goals as goal

pub returns-in_err-size : goal.returns-in_err-size
returns-in_err-size c =
    let out = c.args.out.now in
    let none = or_none _ _ _ c.in_err-size.ensures.value in
    ap (λ r. (written_of r, out)) (passed c.from_residual.ensures.1)
    ∙ ap (λ q. ((number_of q, 0), out)) none.1
    ∙ sym (read_6 _ _ _ _ (sym c.of_reading_len.ensures ∙ none.0))

pub returns-then-iv-ne-BLOCK : goal.returns-then-iv-ne-BLOCK
returns-then-iv-ne-BLOCK c =
    sym (read_7 _ _ _ _ c.in_ok-size.size (book_found _ _ _ c.of_reading_len.ensures c.in_ok-size.ensures.ok_part) c.if-iv-ne-BLOCK.true)

pub returns-then-bad_text : goal.returns-then-bad_text
returns-then-bad_text c =
    sym (read_8 _ _ _ _ c.in_ok-size.size (book_found _ _ _ c.of_reading_len.ensures c.in_ok-size.ensures.ok_part) c.if-iv-ne-BLOCK.false (sym c.bad_text.ensures ∙ c.if-bad_text.true))

pub returns-then-out-n : goal.returns-then-out-n
returns-then-out-n c =
    sym (read_9 _ _ _ _ c.in_ok-size.size (book_found _ _ _ c.of_reading_len.ensures c.in_ok-size.ensures.ok_part) c.if-iv-ne-BLOCK.false (sym c.bad_text.ensures ∙ c.if-bad_text.false) c.if-out-n.true)

pub read_blocks-requires : goal.read_blocks-requires
read_blocks-requires c =
    let good = text_known _ (sym c.bad_text.ensures ∙ c.if-bad_text.false) in
    (book_found _ _ _ c.of_reading_len.ensures c.in_ok-size.ensures.ok_part, good.2, room_length _ _ c.args.out.now refl (omega (arith, c.if-out-n.false)))

pub returns : goal.returns
returns c =
    let good = sym c.bad_text.ensures ∙ c.if-bad_text.false in
    read_made _ _ _ _ c.in_ok-size.size (book_found _ _ _ c.of_reading_len.ensures c.in_ok-size.ensures.ok_part) c.if-iv-ne-BLOCK.false good (omega (arith, c.if-out-n.false)) _ c.block_at.ensures _ c.read_blocks.ensures

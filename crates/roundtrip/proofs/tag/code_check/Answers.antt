-- `tag::code_check` meets its contract.
use Rattle.std.proofs.Common.{ℕ, List, ◌-◌, sym, ap, ◌∙◌, arith}
use lib.Seq.{length-take-le}
use Rattle.cipher.proofs.PassedLaws.{passed}
use Rattle.archive.specs.Archive.{check_answer, checked_told}
use Rattle.roundtrip.proofs.TagRoundtrip.{tagging_room, tagged_refused, tagged_done}
use Rattle.roundtrip.proofs.tag.code_check.Goals as goal

pub slice_bounds-tag_of-end : goal.slice_bounds-tag_of-end
slice_bounds-tag_of-end c = omega (arith, (tagging_room _ _ _ _ _ c.code_for_tag.ensures _ c.in_ok-code.was).0)

pub tag_of-tag-requires : goal.tag_of-tag-requires
tag_of-tag-requires c =
    let r = tagging_room _ _ _ _ _ c.code_for_tag.ensures _ c.in_ok-code.was in
    omega (arith, r.1, length-take-le (c.in_ok-code.code.length - 0) c.code_for_tag.new.out (omega (arith, r.0)))

pub returns-in_err-code : goal.returns-in_err-code
returns-in_err-code c =
    (λ i. (ap checked_told (passed c.from_residual.ensures.1) i, c.code_for_tag.new.out))
    ∙ tagged_refused _ _ _ _ _ c.code_for_tag.ensures _ _ _ _ _ c.in_err-code.was

pub returns : goal.returns
returns c =
    let p = c.args.parts.now in
    let x = c.code_for_tag.new.out in
    ap (λ (y : ℕ × ℕ). (y, x)) c.check.ensures
    ∙ ap (λ (t : List ℕ). (check_answer p.schedule p.key.now p.set.now c.args.message.now t, x)) c.tag_of-tag.ensures
    ∙ sym (tagged_done _ _ _ _ _ c.code_for_tag.ensures p.schedule p.key.now p.set.now p.book.now _ c.in_ok-code.was)

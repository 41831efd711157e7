-- `tag::tag_roundtrip` meets its contract.
use Rattle.std.proofs.Common.{ℕ, List, sym, ap, ◌∙◌, rules, arith}
use Rattle.cipher.proofs.PassedLaws.{passed}
use Rattle.archive.specs.Archive.{checked_told}
use Rattle.roundtrip.specs.Roundtrips.{key_book, over, tag_roundtrip}
use Rattle.roundtrip.specs.Steps.{coded_checked}
use Rattle.roundtrip.proofs.StartLaws.{way_refused, way_done, held_is, way_built, sets_fit, cut_set, book_fits, cut_book}
use Rattle.roundtrip.proofs.TagRoundtrip.{coded_checked_lem}
use Rattle.roundtrip.proofs.tag.tag_roundtrip.Goals as goal

pub returns-in_err-size : goal.returns-in_err-size
unfolding tag_roundtrip
returns-in_err-size c =
    let a = c.args in
    (λ i. (ap checked_told (passed c.from_residual.ensures.1) i, (c.start.new.book, a.coded.now)))
    ∙ way_refused _ _ _ _ _ _ c.start.ensures (λ b q. ((q, 0), (b, a.coded.now))) _ _ c.in_err-size.was

pub of-parts-requires-clause-chain_fits : goal.of-parts-requires-clause-chain_fits
of-parts-requires-clause-chain_fits c = sets_fit _ _ _ _ _ _ c.start.ensures _ c.in_ok-size.was

pub of-parts-requires-clause-book_fits : goal.of-parts-requires-clause-book_fits
of-parts-requires-clause-book_fits c = omega (arith, book_fits _ _ _ _ _ _ c.start.ensures _ c.in_ok-size.was, c.start.auto.book)

pub returns : goal.returns
unfolding tag_roundtrip
returns c =
    let a = c.args in
    let p = c.of-parts.ensures in
    let e = c.start.ensures in
    let d = c.in_ok-size.was in
    let s = p.set ∙ cut_set _ _ _ _ _ _ e _ d in
    let b = p.book ∙ cut_book _ _ _ _ _ _ e _ d in
    let w : (ℕ × ℕ) × List ℕ → (ℕ × ℕ) × (List ℕ × List ℕ) = λ o. (o.0, (over (key_book a.schedule a.key.now a.chain.now) a.book.now, o.1)) in
    let o = c.code_check.ensures in
    (λ i. ((o i).0, (held_is _ _ _ _ _ _ e _ d i, (o i).1)))
    ∙ (λ i. w (coded_checked (p.schedule i) (p.key i) (p.u i) (s i) (b i) a.message.now a.coded.now))
    ∙ coded_checked_lem _ _ _ _ _ (way_built _ _ _ _ _ _ e _ d) a.message.now a.coded.now (λ k. search rules) w
    ∙ sym (way_done _ _ _ _ _ _ e _ d _ _)

-- `seal::seal_roundtrip` meets its contract.
use Rattle.std.proofs.Common.{ℕ, List, sym, ap, ◌∙◌, rules, arith}
use Rattle.cipher.specs.Refusal.{written_of}
use Rattle.cipher.proofs.PassedLaws.{passed}
use Rattle.roundtrip.specs.Roundtrips.{key_book, over, seal_roundtrip}
use Rattle.roundtrip.specs.Steps.{coded_opened}
use Rattle.roundtrip.proofs.StartLaws.{way_refused, way_done, held_is, way_built, sets_fit, cut_set, book_fits, cut_book}
use Rattle.roundtrip.proofs.SealRoundtrip.{coded_opened_lem}
use Rattle.roundtrip.proofs.seal.seal_roundtrip.Goals as goal

pub returns-in_err-size : goal.returns-in_err-size
unfolding seal_roundtrip
returns-in_err-size c =
    let a = c.args in
    (λ i. (ap written_of (passed c.from_residual.ensures.1) i, (c.start.new.book, a.coded.now, a.sealed.now, a.out.now)))
    ∙ way_refused _ _ _ _ _ _ c.start.ensures (λ b q. ((q, 0), (b, a.coded.now, a.sealed.now, a.out.now))) _ _ c.in_err-size.was

pub of-parts-requires-clause-chain_fits : goal.of-parts-requires-clause-chain_fits
of-parts-requires-clause-chain_fits c = sets_fit _ _ _ _ _ _ c.start.ensures _ c.in_ok-size.was

pub of-parts-requires-clause-book_fits : goal.of-parts-requires-clause-book_fits
of-parts-requires-clause-book_fits c = omega (arith, book_fits _ _ _ _ _ _ c.start.ensures _ c.in_ok-size.was, c.start.auto.book)

pub returns : goal.returns
unfolding seal_roundtrip
returns c =
    let a = c.args in
    let p = c.of-parts.ensures in
    let e = c.start.ensures in
    let d = c.in_ok-size.was in
    let s = p.set ∙ cut_set _ _ _ _ _ _ e _ d in
    let b = p.book ∙ cut_book _ _ _ _ _ _ e _ d in
    let w : (ℕ × ℕ) × (List ℕ × (List ℕ × List ℕ)) → (ℕ × ℕ) × (List ℕ × List ℕ × List ℕ × List ℕ) = λ o.
    (o.0, (over (key_book a.schedule a.key.now a.chain.now) a.book.now, o.1.0, o.1.1.0, o.1.1.1)) in
    let o = c.code_open.ensures in
    (λ i. ((o i).0, (held_is _ _ _ _ _ _ e _ d i, (o i).1.0, (o i).1.1.0, (o i).1.1.1)))
    ∙ (λ i. w (coded_opened (p.schedule i) (p.key i) (p.u i) (s i) (b i) a.iv.now a.message.now a.coded.now a.sealed.now a.out.now))
    ∙ coded_opened_lem _ _ _ _ _ (way_built _ _ _ _ _ _ e _ d) (λ k. search rules) a.iv.now a.message.now a.coded.now a.sealed.now a.out.now (λ k. search rules) w
    ∙ sym (way_done _ _ _ _ _ _ e _ d _ _)

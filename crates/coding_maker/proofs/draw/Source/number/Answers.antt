-- `draw::Source::number` meets its contract. The invariant: the source is as it was, and the byte that is taken is the same from here on.
use Rattle.std.proofs.Common.{◌≡◌, ◌+◌, get_or, length, max, suc, refl, sym, ap, ◌∙◌, arith}
use lib.ListN.{get_or-eq_default}
use native.Mathlib.Nat.{zero-mod}
use Rattle.coding_maker.specs.Draw.{skipped}
use Rattle.coding_maker.specs.Numbers.{stands_for}
use Rattle.coding_maker.specs.Source.{rest}
use Rattle.coding_maker.specs.declared.draw.Source.{Source}
use Rattle.coding_maker.proofs.DrawTurns.{taken_here, taken_later, taken_end, chosen_is}
use Rattle.coding_maker.proofs.NumberLaws.{stands_low, stands_high}
use Rattle.coding_maker.proofs.draw.Source.number.Goals as goal

pub returns-then-number-lt-SKIPPED : goal.returns-then-number-lt-SKIPPED
returns-then-number-lt-SKIPPED c =
    let source = c.args.self.now in
    let s = source.random.now in
    let k = c.args.k in
    let at = c.loop-at.at in
    let e = c.loop-at.invariant.0 in
    let n = c.stands_for-number.ensures ∙ ap (λ (t : Source). stands_for k (get_or t.random.now at 0)) e in
    let low = stands_low k (get_or s at 0) (omega (arith, n, c.if-number-lt-SKIPPED.true)) in
    let z = taken_here s k at c.loop-at-test.true low.0 in
    let p : at ≡ source.at + skipped k (rest source) = omega (arith, z, c.loop-at.invariant.2) in
    let q : at + 1 ≡ source.at + suc (skipped k (rest source)) = omega (arith, p) in (
      c.from.ensures ∙ n ∙ low.1 ∙ chosen_is s k source.at at p (get_or s at 0) refl,
      λ i. record { numbers = (e i).numbers; random = (e i).random; at = q i },
    )

pub loop-at-preserved : goal.loop-at-preserved
loop-at-preserved c =
    let s = c.args.self.now.random.now in
    let k = c.args.k in
    let at = c.loop-at.at in
    let e = c.loop-at.invariant.0 in
    let n = c.stands_for-number.ensures ∙ ap (λ (t : Source). stands_for k (get_or t.random.now at 0)) e in
    let high = stands_high k (get_or s at 0) c.requires.0 (omega (arith, n, c.if-number-lt-SKIPPED.false)) in
    let z = taken_later s k at c.loop-at-test.true high in
    (e, omega arith, omega (arith, z, c.loop-at.invariant.2))

pub returns : goal.returns
returns c =
    let source = c.args.self.now in
    let s = source.random.now in
    let k = c.args.k in
    let at = c.loop-at.at in
    let e = c.loop-at.invariant.0 in
    let z = taken_end s k at c.loop-at-test.false in
    let p : at ≡ source.at + skipped k (rest source) = omega (arith, z, c.loop-at.invariant.2) in
    let m = c.max.ensures ∙ ap (λ (t : Source). max t.at (length t.random.now)) e in
    let q : c.max.result + 1 ≡ source.at + suc (skipped k (rest source)) = omega (arith, p, m, c.loop-at.invariant.1) in (
      sym (zero-mod (k + 1)) ∙ chosen_is s k source.at at p 0 (sym (get_or-eq_default s 0 c.loop-at-test.false)),
      λ i. record { numbers = (e i).numbers; random = (e i).random; at = q i },
    )

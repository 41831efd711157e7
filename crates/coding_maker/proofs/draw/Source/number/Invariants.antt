-- `draw::Source::number` meets its contract. The invariant: the source is as it was, and the byte that is taken is the same from here on.
use Rattle.std.proofs.Common.{◌≡◌, ◌+◌, ◌-◌, ◌≤◌, length, drop}
use Rattle.coding_maker.specs.Draw.{skipped}
use Rattle.coding_maker.specs.Source.{rest}
use Rattle.coding_maker.proofs.draw.Source.number.Given as goal

abbrev pub invariant-loop-at : goal.invariant-loop-at
invariant-loop-at l =
    let source = l.initial.self in
    let s = source.random.now in
    (l.self ≡ source) × (l.at - length s ≤ source.at - length s) × (l.at + skipped l.k (drop l.at s) ≡ source.at + skipped l.k (rest source))

-- `draw::Source::draw_coding` meets its contract. The invariant: what is still drawn makes the same coding, and ends at the same place.
use Rattle.std.proofs.Common.{◌≡◌, ◌-◌, length}
use Rattle.coding_maker.specs.Draw.{shuffled, shuffle_draws, unshuffled}
use Rattle.coding_maker.specs.Source.{rest, past}
use Rattle.coding_maker.proofs.draw.Source.draw_coding.Given as goal

abbrev pub invariant-loop-done : goal.invariant-loop-done
invariant-loop-done l =
    (length l.out ≡ 16) × (past (shuffle_draws (16 - l.done)) l.self ≡ past (shuffle_draws 15) l.initial.self)
    × (shuffled (16 - l.done) l.out (rest l.self) ≡ shuffled 15 unshuffled (rest l.initial.self))

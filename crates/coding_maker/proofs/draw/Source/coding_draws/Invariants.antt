-- `draw::Source::coding_draws` meets its contract. The invariant: what is still drawn ends at the same place.
use Rattle.std.proofs.Common.{◌≡◌, ◌-◌}
use Rattle.coding_maker.specs.Draw.{shuffle_draws}
use Rattle.coding_maker.specs.Source.{past}
use Rattle.coding_maker.proofs.draw.Source.coding_draws.Given as goal

abbrev pub invariant-loop-k : goal.invariant-loop-k
invariant-loop-k l = past (shuffle_draws (l.k - 1)) l.self ≡ past (shuffle_draws 15) l.initial.self

-- `fill::draw_sets` meets its contract. The invariant: k codings are written, and what they draw is behind.
use Rattle.std.proofs.Common.{◌≡◌, ◌*◌, ◌++◌, length, drop}
use Rattle.lists.specs.Tabulation.{chunks}
use Rattle.coding_maker.specs.Parts.{begins}
use Rattle.coding_maker.specs.Source.{rest, past}
use Rattle.maker.specs.Planned.{planned}
use Rattle.maker.specs.MadeChain.{set_use, set_coding}
use Rattle.maker.proofs.fill.draw_sets.Given as goal

abbrev pub invariant-loop-k : goal.invariant-loop-k
invariant-loop-k l =
    (l.source ≡ past (begins (set_use (planned l.plan)) l.k) l.initial.source) × (length l.out ≡ length l.initial.out)
    × (l.out ≡ chunks l.k (set_coding (planned l.plan) (rest l.initial.source)) ++ drop (16 * l.k) l.initial.out)

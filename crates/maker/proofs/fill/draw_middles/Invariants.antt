-- `fill::draw_middles` meets its contract. The invariant: k codings are written, and what they draw is behind.
use Rattle.std.proofs.Common.{◌≡◌, ◌*◌, ◌++◌, length, drop}
use Rattle.lists.specs.Tabulation.{chunks}
use Rattle.coding_maker.specs.Draw.{coding_from}
use Rattle.coding_maker.specs.Parts.{begins, left}
use Rattle.coding_maker.specs.Source.{rest, past}
use Rattle.maker.specs.MadeChain.{middle_use}
use Rattle.maker.proofs.fill.draw_middles.Given as goal

abbrev pub invariant-loop-k : goal.invariant-loop-k
invariant-loop-k l =
    (l.a ≡ l.k * 16) × (l.source ≡ past (begins middle_use l.k) l.initial.source) × (length l.out ≡ length l.initial.out)
    × (l.out ≡ chunks l.k (λ i. coding_from (left middle_use i (rest l.initial.source))) ++ drop l.a l.initial.out)

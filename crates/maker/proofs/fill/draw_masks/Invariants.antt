-- `fill::draw_masks` meets its contract. The invariant: k masks are written, and their bytes are behind.
use Rattle.std.proofs.Common.{◌≡◌, ◌++◌, length, drop}
use Rattle.lists.specs.Tabulation.{tab}
use Rattle.coding_maker.specs.Source.{rest, past}
use Rattle.maker.specs.MadeChain.{mask_from}
use Rattle.maker.proofs.fill.draw_masks.Given as goal

abbrev pub invariant-loop-k : goal.invariant-loop-k
invariant-loop-k l =
    (length l.out ≡ length l.initial.out) × (l.source ≡ past (λ s. l.k) l.initial.source)
    × (l.out ≡ tab l.k (λ i. mask_from i (rest l.initial.source)) ++ drop l.k l.initial.out)

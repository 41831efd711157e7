-- `image::image_row` meets its contract. The invariant: l bytes are written, and the rest is as it was.
use Rattle.std.proofs.Common.{◌≡◌, ◌+◌, ◌-◌, ◌*◌, ◌≤◌, ◌++◌, length, drop}
use Rattle.lists.specs.Tabulation.{tab}
use Rattle.cipher.specs.Coding.{byte_coded}
use Rattle.cipher.proofs.image.image_row.Given as goal

abbrev pub invariant-loop-l : goal.invariant-loop-l
invariant-loop-l l = (l.l ≤ 16) × (length l.out ≡ length l.initial.out) × (l.out ≡ tab l.l (λ i. byte_coded l.set l.k (16 * l.h + i)) ++ drop l.l l.initial.out)

abbrev pub decreases-loop-l : goal.decreases-loop-l
decreases-loop-l l = 16 - l.l

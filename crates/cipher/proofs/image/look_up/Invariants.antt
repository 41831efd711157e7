-- `image::look_up` meets its contract. The invariant: k bytes are written, and the rest is as it was.
use Rattle.std.proofs.Common.{◌≡◌, ◌-◌, ◌≤◌, ◌++◌, length, get_or, drop}
use Rattle.lists.specs.Tabulation.{tab}
use Rattle.cipher.specs.Images.{image_at}
use Rattle.cipher.proofs.image.look_up.Given as goal

abbrev pub invariant-loop-k : goal.invariant-loop-k
invariant-loop-k l = (l.k ≤ 16) × (length l.out ≡ length l.initial.out) × (l.out ≡ tab l.k (λ i. image_at l.images i (get_or l.block i 0)) ++ drop l.k l.initial.out)

abbrev pub decreases-loop-k : goal.decreases-loop-k
decreases-loop-k l = 16 - l.k

-- `invert::invert_one` meets its contract. The invariant: each number below v stands at its image.
use Rattle.std.proofs.Common.{◌≡◌, ℕ, ◌-◌, ◌<◌, ◌≤◌, length, get_or}
use Rattle.cipher.specs.Coding.{coding_at}
use Rattle.cipher.proofs.invert.invert_one.Given as goal

abbrev pub invariant-loop-v : goal.invariant-loop-v
invariant-loop-v l = (l.v ≤ 16) × (length l.out ≡ 16) × ((w : ℕ) → w < l.v → get_or l.out (coding_at l.codings l.k w) 0 ≡ w)

abbrev pub decreases-loop-v : goal.decreases-loop-v
decreases-loop-v l = 16 - l.v

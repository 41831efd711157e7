-- `hash::message_schedule` meets its contract. The invariant: n words are added.
use Rattle.std.proofs.Common.{◌≡◌, ◌+◌, ◌≤◌, ◌++◌, take, drop}
use Rattle.sha256.specs.Sha256.{message_schedule}
use Rattle.sha256.proofs.hash.message_schedule.Given as goal

abbrev pub invariant-loop-n : goal.invariant-loop-n
invariant-loop-n l = (l.n ≤ 48) × (l.w ≡ message_schedule l.n (take 16 l.initial.w) ++ drop (l.n + 16) l.initial.w)

-- `schedule::rows_of` meets its contract. The invariant: so many steps are made, their rows stored, and the queue of δ stands at the next step.
use Rattle.std.proofs.Common.{◌≡◌, ◌++◌, length, drop, replicate}
use Rattle.words.specs.Rows.{blank}
use Rattle.lea_schedule.specs.Steps.{deltas}
use Rattle.lea_schedule.proofs.ScheduleLaws.{Made}
use Rattle.lea_schedule.proofs.schedule.rows_of.Given as goal

abbrev pub invariant-loop-row : goal.invariant-loop-row
invariant-loop-row g l =
    (length l.row-items ≡ l.steps)
    × (l.d ≡ deltas g.row.N l.row-index)
    × Made g.row.N (goal.F-post g l.mix) (goal.G-post g l.show) l.initial.t l.row-index l.t (l.row-items ++ drop l.steps (replicate 32 blank))

-- `schedule::rows_of` meets its contract. The invariant: so many steps are made, their rows stored, and the queue of δ stands at the next step.
use Rattle.std.proofs.Common.{◌≡◌, ℕ, ◌∙◌, ap, arith, take-append-drop, replicate, length-set}
use lib.Seq.{length-take-le}
use Rattle.words.specs.Rows.{blank}
use Rattle.lea_schedule.specs.Schedule.{filled}
use Rattle.lea_schedule.proofs.ScheduleLaws.{deltas_more, made_none, made_more}
use Rattle.lea_schedule.proofs.schedule.rows_of.Goals as goal

pub loop-row-init : goal.loop-row-init
loop-row-init g c = (length-take-le c.args.steps (replicate 32 blank) c.requires.room, c.deltas-d.ensures, made_none _ _ _ _ _ (take-append-drop c.args.steps (replicate 32 blank)))

pub loop-row-preserved : goal.loop-row-preserved
loop-row-preserved g c =
    let h = c.loop-row in (
      length-set h.row-items h.row-index _ ∙ h.invariant.0,
      c.turned-d.ensures ∙ deltas_more g.row.N h.row-index c.requires.size.0 h.d h.invariant.1,
      made_more _ _ _ _ h.row-index h.d h.t _ h.row-items _ _ c.requires.size.0 h.invariant.1 (omega arith) (omega arith) h.invariant.2 c.mix-t.ensures c.show.ensures,
    )

pub returns : goal.returns
returns g c step row order t size begins steps =
    let e : c.loop-row.row-index ≡ c.args.steps = omega arith in
    (c.loop-row.invariant.2 step row order t size begins steps).1 ∙ ap (λ (n : ℕ). filled step row n t) e

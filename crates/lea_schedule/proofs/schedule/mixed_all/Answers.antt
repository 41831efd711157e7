-- `schedule::mixed_all` meets its contract.
use Rattle.std.proofs.Common.{get_or, rules}
use Rattle.lists.proofs.FromFnLaws.{tab_from_fn}
use Rattle.lea_schedule.specs.Schedule.{mixed}
use Rattle.lea_schedule.proofs.schedule.mixed_all.Goals as goal

pub returns : goal.returns
returns g c =
    let a = c.args in
    tab_from_fn _ _ _ (λ m. mixed a.d 0 m (get_or a.t m 0)) g.row.N (λ i y q b w. search rules) c.from_fn.ensures.items

-- `schedule::deltas` meets its contract.
use Rattle.std.proofs.Common.{◌+◌, rules}
use Rattle.lists.proofs.FromFnLaws.{tab_from_fn}
use Rattle.lea_schedule.specs.Steps.{turned_delta}
use Rattle.lea_schedule.proofs.ScheduleLaws.{delta_first}
use Rattle.lea_schedule.proofs.schedule.deltas.Goals as goal

pub returns : goal.returns
returns g c =
    tab_from_fn _ _ _ (λ k. turned_delta g.row.N (0 + k)) g.row.N (λ i y q b w. let e = delta_first g.row.N i c.requires b in search rules) c.from_fn.ensures.items

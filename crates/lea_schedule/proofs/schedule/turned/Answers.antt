-- `schedule::turned` meets its contract.
use Rattle.std.proofs.Common.{ℕ, [], ◌∷◌, ◌++◌, drop, get_or, ap, ◌∙◌, arith, rules}
use Rattle.lists.proofs.FromFnLaws.{tab_from_fn}
use Rattle.lea_schedule.proofs.ScheduleLaws.{queue_at, queue_is}
use Rattle.lea_schedule.proofs.schedule.turned.Goals as goal

pub returns : goal.returns
returns g c =
    let d = c.args.d in
    let n = g.row.N in
    let x = c.rotate_left-last.result in
    tab_from_fn _ _ _ (λ k. get_or (drop 1 d ++ (x ∷ [])) k 0) n (λ k y q b w.
    (search rules, queue_at n x k d (omega arith) y b (λ h. search rules) (λ h. search rules))) c.from_fn.ensures.items
    ∙ queue_is n x d (omega arith) c.requires
    ∙ ap (λ (v : ℕ). drop 1 d ++ (v ∷ [])) c.rotate_left-last.ensures

-- `make::make` meets its contract.
use Rattle.std.proofs.Common.{ℕ, sym, ap, ◌∙◌, arith}
use Rattle.maker.specs.Planned.{planned}
use Rattle.maker.specs.MadeChain.{chain_draws}
use Rattle.maker.proofs.MakeAnswers.{made_room, made_ran_out, made_front}
use Rattle.maker.proofs.make.make.Goals as goal

pub returns-then-out-end : goal.returns-then-out-end
returns-then-out-end c =
    let a = c.args in
    sym (made_room (planned a.plan.now) a.size a.random.now a.out.now (omega (arith, c.chain_len-end.ensures, c.if-out-end.true)))

pub returns-then-random-chain_draws : goal.returns-then-random-chain_draws
returns-then-random-chain_draws c =
    let a = c.args in
    let p = planned a.plan.now in
    let n = c.chain_draws.ensures ∙ ap (λ (k : ℕ). chain_draws p k a.random.now) c.rounds.ensures in
    sym (made_ran_out p a.size a.random.now a.out.now (omega (arith, c.chain_len-end.ensures, c.if-out-end.false)) (omega (arith, n, c.if-random-chain_draws.true)))

pub returns : goal.returns
returns c =
    let a = c.args in
    let p = planned a.plan.now in
    let n = c.chain_draws.ensures ∙ ap (λ (k : ℕ). chain_draws p k a.random.now) c.rounds.ensures in
    made_front p a.size a.random.now a.out.now (omega (arith, c.chain_len-end.ensures, c.if-out-end.false)) (omega (arith, n, c.if-random-chain_draws.false))
    c.chain_len-end.result c.draw_chain.result _ c.chain_len-end.ensures c.draw_chain.ensures.0 c.draw_chain.ensures.1

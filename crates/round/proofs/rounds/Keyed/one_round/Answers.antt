-- `rounds::Keyed::one_round` meets its contract.
use Rattle.std.proofs.Common.{List, ℕ, Result, IsOk, sym, refl, subst, rules}
use Rattle.cipher.specs.declared.refusal.Refusal.{Refusal}
use Rattle.round.proofs.RoundLaws.{built, ran}
use Rattle.round.proofs.rounds.Keyed.one_round.Goals as goal

pub unwrap-requires : goal.unwrap-requires
unwrap-requires c =
    let s = c.args.self.now in
    (built s.size s.key.now s.chain.now s.ready c.args.l c.requires _ _ _ (search rules) c.build_round.ensures).0

pub unwrap-requires-2 : goal.unwrap-requires-2
unwrap-requires-2 c =
    let s = c.args.self.now in
    subst (λ (r : Result (List ℕ) Refusal). IsOk r)
    (sym (ran s.size s.key.now s.chain.now s.ready c.args.l c.requires _ _ _ _ _ (search rules) (search rules) c.build_round.ensures c.run_round.ensures)) refl

pub returns : goal.returns
returns c =
    let s = c.args.self.now in
    let done = ran s.size s.key.now s.chain.now s.ready c.args.l c.requires c.build_round.result c.run_round.result _ c.build_round.new.out c.args.x
    (search rules) (search rules) c.build_round.ensures c.run_round.ensures in
    cc

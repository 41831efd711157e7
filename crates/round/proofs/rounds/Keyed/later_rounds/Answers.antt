-- `rounds::Keyed::later_rounds` meets its contract. The invariant: the rounds below l are run.
use Rattle.std.proofs.Common.{◌≡◌, ℕ, refl, ap, ◌∙◌, arith}
use Rattle.cipher.specs.KeySize.{rounds}
use Rattle.cipher.specs.Tables.{table_rounds}
use Rattle.cipher.proofs.KeySizeLaws.{rounds_more}
use Rattle.round.specs.Round.{later_rounds}
use Rattle.round.proofs.RoundLaws.{later_turn}
use Rattle.round.proofs.rounds.Keyed.later_rounds.Goals as goal

pub loop-l-init : goal.loop-l-init
unfolding table_rounds
loop-l-init c =
    let m = rounds_more c.args.self.now.size in
    (omega arith, omega arith, refl)

pub loop-l-preserved : goal.loop-l-preserved
loop-l-preserved c =
    (omega arith, omega (arith, c.rounds-l-end.ensures), later_turn c.args.self.now.size _ _ _ _ _ c.loop-l.l c.loop-l.invariant.0 c.loop-l.invariant.2 c.one_round-next.ensures)

pub returns : goal.returns
returns c =
    let s = c.args.self.now in
    let d : c.loop-l.l ≡ rounds s.size = omega (arith, c.rounds-l-end.ensures) in
    c.loop-l.invariant.2 ∙ ap (λ (k : ℕ). later_rounds s.size s.key.now s.chain.now k c.args.x) d

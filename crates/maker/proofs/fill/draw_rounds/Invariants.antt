-- `fill::draw_rounds` meets its contract. The invariant: l rounds are written, and what they draw is behind.
use Rattle.std.proofs.Common.{◌≡◌, ◌*◌, ◌++◌, length, drop}
use Rattle.lists.specs.Tabulation.{chunks}
use Rattle.coding_maker.specs.Parts.{begins, left}
use Rattle.coding_maker.specs.Source.{rest, past}
use Rattle.maker.specs.MadeChain.{round_use, round_from}
use Rattle.maker.proofs.fill.draw_rounds.Given as goal

abbrev pub invariant-loop-l : goal.invariant-loop-l
invariant-loop-l l =
    (l.a ≡ l.l * 408) × (l.source ≡ past (begins round_use l.l) l.initial.source) × (length l.out ≡ length l.initial.out)
    × (l.out ≡ chunks l.l (λ i. round_from (left round_use i (rest l.initial.source))) ++ drop l.a l.initial.out)

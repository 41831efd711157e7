-- `plan::Plan::fixes` meets its contract.
use Rattle.std.proofs.Common.{Bool, ◌/◌, ◌%◌, ◌&&◌, sym, ap}
use borrow.Author.Tests.{le-leb}
use lib.Dec.{eqb}
use Rattle.maker.specs.Plan.{fixed_coding}
use Rattle.maker.specs.Planned.{planned}
use Rattle.maker.proofs.Places.{coding_early}
use Rattle.maker.proofs.plan.Plan.fixes.Goals as goal

pub returns-then-k : goal.returns-then-k
returns-then-k c = let a = c.args in sym (coding_early (planned a.self.now) a.k c.if-k.true)

pub returns : goal.returns
unfolding fixed_coding
returns c = let a = c.args in sym (ap (λ (b : Bool). b && eqb (a.k % 32 / 8) a.self.now.to) (le-leb 64 a.k c.if-k.false))

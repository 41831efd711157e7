-- `plan::Plan::gives` meets its contract.
use Rattle.std.proofs.Common.{Bool, ◌-◌, ◌/◌, ◌&&◌, length, sym, ap}
use borrow.Author.Tests.{le-leb, lt-leb}
use lib.Dec.{ltb}
use Rattle.maker.specs.Plan.{given_coding}
use Rattle.maker.proofs.plan.Plan.gives.Goals as goal

pub returns-then-k-lt-SET_CODINGS : goal.returns-then-k-lt-SET_CODINGS
unfolding given_coding
returns-then-k-lt-SET_CODINGS c = let a = c.args in sym (ap (λ (b : Bool). b && ltb (a.k - 32) (length a.self.now.given.now / 16)) (lt-leb 32 a.k c.if-k-lt-SET_CODINGS.true))

pub returns : goal.returns
unfolding given_coding
returns c = let a = c.args in sym (ap (λ (b : Bool). b && ltb (a.k - 32) (length a.self.now.given.now / 16)) (le-leb 32 a.k c.if-k-lt-SET_CODINGS.false))

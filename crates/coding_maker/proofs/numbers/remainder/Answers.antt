-- `numbers::remainder` meets its contract.
use mathlib.Core.Path.{◌∙◌}
use Prim.Native.Nat.{◌+◌, ◌-◌}
use native.Mathlib.Omega.{arith}
use Rattle.coding_maker.proofs.NumberLaws.{remainder_again}
use Rattle.coding_maker.proofs.numbers.remainder.Goals as goal

pub returns : goal.returns
returns c =
    let a = c.args in
    c.requires.3 (a.b - (a.k + 1)) (omega (arith, c.if-b-k.false)) ∙ remainder_again a.k a.b c.if-b-k.false

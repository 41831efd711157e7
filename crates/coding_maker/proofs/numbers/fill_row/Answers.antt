-- `numbers::fill_row` meets its contract. The invariant: b remainders are written, and the rest is as it was.
use mathlib.Core.Path.{◌≡◌, refl, ap, ◌∙◌}
use mathlib.Core.List.{◌++◌}
use Prim.Native.Nat.{ℕ, ◌+◌, ◌-◌, ◌%◌}
use native.Mathlib.Omega.{arith}
use lib.ListN.{drop, length-set}
use Rattle.lists.specs.Tabulation.{tab}
use Rattle.lists.proofs.PartLaws.{tab_turn}
use Rattle.coding_maker.proofs.NumberLaws.{filled_at, filled, row_is}
use Rattle.coding_maker.proofs.numbers.fill_row.Goals as goal

pub loop-b-init : goal.loop-b-init
unfolding tab
loop-b-init c = (omega arith, refl, refl)

pub remainder-r-requires : goal.remainder-r-requires
remainder-r-requires c = (
  c.requires.0,
  omega arith,
  c.loop-b.invariant.1 ∙ c.fill.ensures.len ∙ c.requires.1,
  λ i h. filled_at (λ n. n % (c.args.k + 1)) _ c.loop-b.row c.loop-b.b i c.loop-b.invariant.2 h,
)

pub loop-b-preserved : goal.loop-b-preserved
loop-b-preserved c = (
  omega arith,
  simp length-set c.loop-b.invariant.1,
  tab_turn (λ n. n % (c.args.k + 1)) _ _ _ _ c.loop-b.invariant.2 c.remainder-r.ensures (omega (arith, c.fill.ensures.len, c.requires.1)),
)

pub returns : goal.returns
returns c =
    let k = c.args.k in
    let d : c.loop-b.b ≡ 256 - 256 % (k + 1) = omega arith in
    c.loop-b.invariant.2
    ∙ ap (λ (n : ℕ). tab n (λ i. i % (k + 1)) ++ drop n c.fill.new.self) d
    ∙ row_is k _ (c.fill.ensures.len ∙ c.requires.1) (filled _ _ c.requires.1 c.fill.ensures.clones_before_last (c.fill.ensures.last (omega (arith, c.requires.1))))

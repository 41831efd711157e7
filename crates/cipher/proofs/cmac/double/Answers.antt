-- `cmac::double` meets its contract. The invariant: the first k bytes are those of the double, the others zero.
use Rattle.std.proofs.Common.{List, ℕ, ◌++◌, replicate, refl, ap, arith}
use Rattle.lists.specs.Tabulation.{tab}
use Rattle.lists.proofs.PartLaws.{fill_turn, fill_full}
use Rattle.cipher.proofs.CmacLaws.{rule, double_high, double_low}
use Rattle.cipher.proofs.cmac.double.Goals as goal

pub loop-k-init : goal.loop-k-init
unfolding tab
loop-k-init c = (omega arith, refl)

pub loop-k-preserved : goal.loop-k-preserved
loop-k-preserved c = (omega arith, fill_turn (rule c.args.b) 15 _ _ _ c.loop-k.invariant.1 c.shifted.ensures (omega arith))

pub returns-then-b-ge128 : goal.returns-then-b-ge128
returns-then-b-ge128 c =
    let full = ap (λ (w : List ℕ). w ++ replicate 1 0) (fill_full (rule c.args.b) 15 _ _ c.loop-k.invariant.1 (omega arith)) in
    double_high c.args.b _ full c.shifted-last.result c.shifted-last.ensures (omega arith)

pub returns-else-b-ge128 : goal.returns-else-b-ge128
returns-else-b-ge128 c =
    let full = ap (λ (w : List ℕ). w ++ replicate 1 0) (fill_full (rule c.args.b) 15 _ _ c.loop-k.invariant.1 (omega arith)) in
    double_low c.args.b _ full c.shifted-last.result c.shifted-last.ensures (omega arith)

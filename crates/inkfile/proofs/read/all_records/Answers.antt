-- `read::all_records` meets its contract. The invariant: the walk has come to record k without a fault, and what is told of the records
-- before it is filled in.
use mathlib.Core.Path.{ap, ◌∙◌}
use Prim.Native.Nat.{◌+◌}
use native.Mathlib.Omega.{arith}
use Rattle.std.proofs.lemmas.List.{map-set}
use Rattle.cipher.proofs.PassedLaws.{passed}
use Rattle.inkfile.specs.ReadingSteps.{records_told}
use Rattle.inkfile.specs.Reading.{kind_at, length_at, start_of}
use Rattle.inkfile.proofs.RecordsLaws as L
use Rattle.inkfile.proofs.read.all_records.Goals as goal

pub loop-all-init : goal.loop-all-init
loop-all-init c =
    let file = c.args.file.now in
    (L.begins file, L.none_yet (λ i. kind_at file (start_of file i)), L.none_yet (λ i. start_of file i + 6), L.none_yet (λ i. length_at file (start_of file i)))

pub returns-in_err-head : goal.returns-in_err-head
returns-in_err-head c =
    ap records_told (passed c.from_residual.ensures.1) ∙ L.records_refused _ _ _ c.loop-all.invariant.0 _ c.goes_on.ensures c.loop-all-test.true _ c.in_err-head.ensures

pub bounds-all-count : goal.bounds-all-count
bounds-all-count c =
    let turn = L.turn _ _ _ c.loop-all.invariant.0 _ c.goes_on.ensures c.loop-all-test.true _ _ c.in_ok-head.ensures in
    turn.few

pub overflow_add-at : goal.overflow_add-at
overflow_add-at c =
    let turn = L.turn _ _ _ c.loop-all.invariant.0 _ c.goes_on.ensures c.loop-all-test.true _ _ c.in_ok-head.ensures in
    omega (arith, turn.room, c.well_formed)

pub loop-all-smaller : goal.loop-all-smaller
loop-all-smaller c =
    let turn = L.turn _ _ _ c.loop-all.invariant.0 _ c.goes_on.ensures c.loop-all-test.true _ _ c.in_ok-head.ensures in
    omega (arith, turn.few)

pub loop-all-preserved : goal.loop-all-preserved
loop-all-preserved c =
    let v = c.loop-all.invariant in
    let turn = L.turn _ _ _ v.0 _ c.goes_on.ensures c.loop-all-test.true _ _ c.in_ok-head.ensures in
    (turn.behind, map-set _ _ _ _ ∙ turn.kinds _ v.1, map-set _ _ _ _ ∙ turn.offsets _ v.2, map-set _ _ _ _ ∙ turn.lengths _ v.3)

pub returns : goal.returns
returns c =
    let v = c.loop-all.invariant in
    L.records_done _ _ _ v.0 (L.records_ended _ _ _ v.0 _ c.goes_on.ensures c.loop-all-test.false) _ _ _ v.1 v.2 v.3

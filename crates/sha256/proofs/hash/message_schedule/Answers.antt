-- `hash::message_schedule` meets its contract. The invariant: n words are added.
use Rattle.std.proofs.Common.{sym, arith, take-append-drop}
use Rattle.sha256.specs.Sha256.{message_schedule}
use Rattle.sha256.proofs.HashLaws.{schedule_turn, schedule_full}
use Rattle.sha256.proofs.hash.message_schedule.Goals as goal

pub loop-n-init : goal.loop-n-init
unfolding message_schedule
loop-n-init c = (omega arith, sym (take-append-drop 16 _))

pub loop-n-preserved : goal.loop-n-preserved
loop-n-preserved c =
    let m = c.args.m in
    let turn = schedule_turn m c.loop-n.w c.loop-n.n c.well_formed.0.1.0.1 c.loop-n-test.true c.loop-n.invariant.1 in
    (omega arith, turn c.schedule_word.result c.schedule_word.ensures)

pub returns : goal.returns
returns c =
    schedule_full c.args.m c.loop-n.w c.loop-n.n c.well_formed.0.1.0.1 (omega arith) c.loop-n.invariant.1

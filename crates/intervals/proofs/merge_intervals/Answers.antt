use Rattle.std.proofs.Common.{arith}
use Rattle.intervals.proofs.MergeSteps.{merging_start, merging_touch, merging_gap, merging_room, merging_last_room, merging_end}
use Rattle.intervals.proofs.merge_intervals.Goals as goal
use Rattle.intervals.proofs.merge_intervals.Goals.{After-mark, After-mark-2}

pub loop-taken-init : goal.loop-taken-init
loop-taken-init c = merging_start

pub loop-taken-preserved-then-start-end : goal.loop-taken-preserved-then-start-end
loop-taken-preserved-then-start-end c = merging_touch c.loop-taken.invariant c.pick-next.ensures c.if-start-end.true c.grown-part.ensures

pub push-count-requires-clause-room : goal.push-count-requires-clause-room
push-count-requires-clause-room c =
    (merging_room c.loop-taken.invariant c.pick-next.ensures (c.requires.room, c.requires.marks_room) c.if-start-end.false c.range.ensures).0

pub push-count-requires-clause-marks_room : goal.push-count-requires-clause-marks_room
push-count-requires-clause-marks_room c =
    (merging_room c.loop-taken.invariant c.pick-next.ensures (c.requires.room, c.requires.marks_room) c.if-start-end.false c.range.ensures).1

pub loop-taken-preserved : goal.loop-taken-preserved
loop-taken-preserved c =
    let N = c.push-count.ensures in
    merging_gap c.loop-taken.invariant c.pick-next.ensures c.if-start-end.false c.range.ensures c.mark.ensures
    (merging_room c.loop-taken.invariant c.pick-next.ensures (c.requires.room, c.requires.marks_room) c.if-start-end.false c.range.ensures)
    _ (N.list, N.marks, N.count) N.same

pub push-requires-clause-room : goal.push-requires-clause-room
push-requires-clause-room c =
    (merging_last_room c.loop-taken.invariant (omega (arith, c.loop-taken-test.false)) (c.requires.room, c.requires.marks_room) c.range-2.ensures).0

pub push-requires-clause-marks_room : goal.push-requires-clause-marks_room
push-requires-clause-marks_room c =
    (merging_last_room c.loop-taken.invariant (omega (arith, c.loop-taken-test.false)) (c.requires.room, c.requires.marks_room) c.range-2.ensures).1

pub returns-clause-merged : goal.returns-clause-merged
returns-clause-merged c =
    let N = c.push.ensures in
    merging_end c.loop-taken.invariant (omega (arith, c.loop-taken-test.false)) c.range-2.ensures c.mark-2.ensures c.push.new.self (N.list, N.marks, N.count)

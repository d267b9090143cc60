use Rattle.std.proofs.Common.{sym, ◌∙◌, arith}
use Rattle.join.proofs.SweepSteps.{sweeping_start, sweeping_less, sweeping_index, sweeping_pass, sweeping_grow, sweeping_gap}
use Rattle.join.proofs.SweepSteps.{sweeping_room, sweeping_marks_room, joined_list, joined_marks_are, joined_count}
use Rattle.join.proofs.join_lists.Goals as goal

pub loop-sweep-init : goal.loop-sweep-init
loop-sweep-init c = sweeping_start c.requires

pub marks_at-m-requires : goal.marks_at-m-requires
marks_at-m-requires c = sweeping_index c.loop-sweep.invariant c.requires c.loop-sweep-test.true c.next_piece-piece.ensures

pub loop-sweep-smaller-then-at-end : goal.loop-sweep-smaller-then-at-end
loop-sweep-smaller-then-at-end c =
    omega (arith, sweeping_less c.loop-sweep.invariant c.requires c.loop-sweep-test.true c.next_piece-piece.ensures)

pub loop-sweep-preserved-then-at-end : goal.loop-sweep-preserved-then-at-end
loop-sweep-preserved-then-at-end c =
    sweeping_grow c.loop-sweep.invariant c.requires c.loop-sweep-test.true c.next_piece-piece.ensures
    (sym c.wanted.ensures ∙ c.if-wanted.true) c.marks_at-m.ensures c.if-at-end.true

pub push-count-requires-clause-room : goal.push-count-requires-clause-room
push-count-requires-clause-room c = sweeping_room c.loop-sweep.invariant c.requires

pub push-count-requires-clause-marks_room : goal.push-count-requires-clause-marks_room
push-count-requires-clause-marks_room c = sweeping_marks_room c.loop-sweep.invariant c.requires

pub loop-sweep-smaller-else-at-end : goal.loop-sweep-smaller-else-at-end
loop-sweep-smaller-else-at-end c =
    omega (arith, sweeping_less c.loop-sweep.invariant c.requires c.loop-sweep-test.true c.next_piece-piece.ensures)

pub loop-sweep-preserved-else-at-end : goal.loop-sweep-preserved-else-at-end
loop-sweep-preserved-else-at-end c =
    let N = c.push-count.ensures in
    sweeping_gap c.loop-sweep.invariant c.requires c.loop-sweep-test.true c.next_piece-piece.ensures c.push-count.new.self
    (sym c.wanted.ensures ∙ c.if-wanted.true) c.marks_at-m.ensures c.if-at-end.false N.list N.marks N.count N.same

pub loop-sweep-smaller : goal.loop-sweep-smaller
loop-sweep-smaller c =
    omega (arith, sweeping_less c.loop-sweep.invariant c.requires c.loop-sweep-test.true c.next_piece-piece.ensures)

pub loop-sweep-preserved : goal.loop-sweep-preserved
loop-sweep-preserved c =
    sweeping_pass c.loop-sweep.invariant c.requires c.loop-sweep-test.true c.next_piece-piece.ensures
    (sym c.wanted.ensures ∙ c.if-wanted.false)

pub push-requires-clause-room : goal.push-requires-clause-room
push-requires-clause-room c = sweeping_room c.loop-sweep.invariant c.requires

pub push-requires-clause-marks_room : goal.push-requires-clause-marks_room
push-requires-clause-marks_room c = sweeping_marks_room c.loop-sweep.invariant c.requires

pub returns-clause-list : goal.returns-clause-list
returns-clause-list c =
    let N = c.push.ensures in
    joined_list c.loop-sweep.invariant c.requires N.list N.marks N.count c.loop-sweep-test.false

pub returns-clause-marks : goal.returns-clause-marks
returns-clause-marks c =
    let N = c.push.ensures in
    joined_marks_are c.loop-sweep.invariant c.requires N.list N.marks N.count c.loop-sweep-test.false

pub returns-clause-count : goal.returns-clause-count
returns-clause-count c =
    let N = c.push.ensures in
    joined_count c.loop-sweep.invariant c.requires N.list N.marks N.count c.loop-sweep-test.false

use Rattle.std.proofs.Common.{◌-◌, ◌<◌, arith, length}
use Rattle.scans.proofs.Windows.{long}
use Rattle.search.proofs.Searching.{seeking_start, seeking_end, seeking_kept, fresh_some, fresh_room, seeking_put}
use Rattle.search.proofs.candidates.scan_backward.Goals as goal
use Rattle.search.proofs.candidates.scan_backward.Goals.{Then-seek}

pub loop-seek-init : goal.loop-seek-init
loop-seek-init c =
    let s = c.requires in
    seeking_start _ _ _ _ _ (long s.windowed) _ c.new-seek.ensures s.len_nonzero.1

pub overflow_sub-seek : goal.overflow_sub-seek
overflow_sub-seek c = fresh_some _ _ _ _ _ _ _ c.loop-seek.invariant _ _ c.next-seek.ensures c.next-seek.auto.scan_counts c.if-seek.true

-- there is room for the candidate
room : (c : Then-seek) → c.next-seek.result.noted - 1 < length c.loop-seek.candidates
room c =
    let s = c.requires in
    let g = fresh_some _ _ _ _ _ _ _ c.loop-seek.invariant _ _ c.next-seek.ensures c.next-seek.auto.scan_counts c.if-seek.true in
    let r = fresh_room _ _ _ _ _ _ _ c.loop-seek.invariant _ _ c.next-seek.ensures c.next-seek.auto.scan_counts c.if-seek.true (omega (arith, s.len_nonzero.0, long s.windowed)) in
    omega (arith, g, r, long s.windowed, s.windowed.len_in, s.roomy.candidates_long, c.loop-seek.invariant.same_records)

pub offset_bounds-candidates-seek : goal.offset_bounds-candidates-seek
offset_bounds-candidates-seek c = omega (arith, room (goal.at.offset_bounds-candidates-seek c).Then-seek)

pub bounds-candidates-seek : goal.bounds-candidates-seek
bounds-candidates-seek c = room (goal.at.bounds-candidates-seek c).Then-seek

pub loop-seek-preserved-then-seek : goal.loop-seek-preserved-then-seek
loop-seek-preserved-then-seek c = seeking_put _ _ _ _ _ _ _ c.loop-seek.invariant _ _ c.next-seek.ensures c.next-seek.auto.scan_counts c.if-seek.true (room (goal.at.loop-seek-preserved-then-seek c).Then-seek)

pub loop-seek-preserved : goal.loop-seek-preserved
loop-seek-preserved c = seeking_kept _ _ _ _ _ _ _ c.loop-seek.invariant _ _ c.next-seek.ensures c.next-seek.auto.scan_counts c.if-seek.false

pub returns : goal.returns
returns c = seeking_end _ _ _ _ _ _ _ c.loop-seek.invariant c.loop-seek-test.false

-- A request that was not refused.
use Rattle.std.proofs.Common.{sym, arith}
use Rattle.longdust.proofs.Merging.{mergeable, reverse_inside, merge_at_most}
use Rattle.longdust.proofs.calls.merge_strands.merge_strands.Goals as goal

pub merge_intervals-requires-clause-inside : goal.merge_intervals-requires-clause-inside
merge_intervals-requires-clause-inside c = reverse_inside (mergeable (sym c.in_ok-check.ensures))

pub merge_intervals-requires-clause-room : goal.merge_intervals-requires-clause-room
merge_intervals-requires-clause-room c =
    omega (arith, merge_at_most c.args.n c.args.forward.now c.args.reverse.now, (mergeable (sym c.in_ok-check.ensures)).room)

pub merge_intervals-requires-clause-marks_room : goal.merge_intervals-requires-clause-marks_room
merge_intervals-requires-clause-marks_room c =
    omega (arith, merge_at_most c.args.n c.args.forward.now c.args.reverse.now, (mergeable (sym c.in_ok-check.ensures)).marks_room)

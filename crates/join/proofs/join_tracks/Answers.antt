-- A request that was not refused.
use Rattle.std.proofs.Common.{sym, length, arith}
use Rattle.join.proofs.Refusals.{accepted}
use Rattle.join.proofs.Room.{joined_room}
use Rattle.join.proofs.join_tracks.Goals as goal

pub join_lists-requires : goal.join_lists-requires
join_lists-requires c = (accepted (sym c.in_ok-check.ensures)).ready

pub returns-clause-room : goal.returns-clause-room
returns-clause-room c =
    omega (
      arith,
      c.join_lists.ensures.count,
      joined_room c.args.kind c.args.n c.args.ours.now.list.now c.args.theirs.now,
      (accepted {ms = c.args.ours.now.marks.now} {list = length c.args.out.now.list.now} {marks = length c.args.out.now.marks.now} (sym c.in_ok-check.ensures)).ready.room,
    )

use Rattle.std.proofs.Common.{sym, subst, List}
use Rattle.intervals.specs.declared.Interval.{Interval}
use Rattle.scans.specs.Terms.Run.{as_setup}
use Rattle.step.specs.Step.{intervals_of}
use Rattle.mask.specs.Terms.Both.{Held}
use Rattle.mask.proofs.Strands.{other_inside, merged_room, merged_wrote}
use Rattle.mask.proofs.both_strands.Goals as goal
use Rattle.mask.proofs.both_strands.Goals.{After-reverse_strand-reverse_count}

-- The other strand leaves the sequence's own list.
held : (c : After-reverse_strand-reverse_count) → Held (intervals_of (as_setup c.args.setup.now) c.args.codes.now) c.reverse_strand-reverse_count.new.work.forward_list.now c.forward_strand-forward_count.result
held c = subst (λ (l : List Interval). Held (intervals_of (as_setup c.args.setup.now) c.args.codes.now) l c.forward_strand-forward_count.result) (sym c.reverse_strand-reverse_count.ensures.forward) c.forward_strand-forward_count.ensures.list

pub merge_intervals-requires-clause-inside : goal.merge_intervals-requires-clause-inside
merge_intervals-requires-clause-inside c =
    other_inside (as_setup c.args.setup.now) c.args.forward_only c.args.codes.now c.requires.runs.kmer_some (held (goal.at.merge_intervals-requires-clause-inside c).After-reverse_strand-reverse_count) c.reverse_strand-reverse_count.ensures.list

pub merge_intervals-requires-clause-room : goal.merge_intervals-requires-clause-room
merge_intervals-requires-clause-room c =
    merged_room (as_setup c.args.setup.now) c.args.forward_only c.args.codes.now c.requires.runs.kmer_some (held (goal.at.merge_intervals-requires-clause-room c).After-reverse_strand-reverse_count) c.reverse_strand-reverse_count.ensures.list _ c.requires.room.list

pub merge_intervals-requires-clause-marks_room : goal.merge_intervals-requires-clause-marks_room
merge_intervals-requires-clause-marks_room c =
    merged_room (as_setup c.args.setup.now) c.args.forward_only c.args.codes.now c.requires.runs.kmer_some (held (goal.at.merge_intervals-requires-clause-marks_room c).After-reverse_strand-reverse_count) c.reverse_strand-reverse_count.ensures.list _ c.requires.room.marks

pub returns-clause-mask : goal.returns-clause-mask
returns-clause-mask c =
    merged_wrote (as_setup c.args.setup.now) c.args.forward_only c.args.codes.now c.requires.runs.kmer_some (held (goal.at.returns-clause-mask c).After-reverse_strand-reverse_count) c.reverse_strand-reverse_count.ensures.list c.merge_intervals.ensures.merged

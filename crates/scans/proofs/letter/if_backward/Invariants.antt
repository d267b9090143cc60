use Rattle.std.proofs.Common.{◌≡◌, List, ◌-◌, Float}
use Rattle.scans.specs.Scans.{if_backward_from, if_backward}
use Rattle.scans.specs.Terms.Run.{entries_of}
use Rattle.scans.proofs.BackCheck.{by}
use Rattle.scans.proofs.letter.if_backward.Given as goal

abbrev pub invariant-loop-i : goal.invariant-loop-i
invariant-loop-i l = (f : List Float) → if_backward (by l.setup f) (entries_of l.ring) ≡ if_backward_from (by l.setup f) (entries_of l.ring) (l.i - (l.ring.len - l.steps)) l.i l.s

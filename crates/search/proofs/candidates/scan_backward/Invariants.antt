use Rattle.scans.specs.Terms.Run.{as_setup, entries_of}
use Rattle.search.specs.Terms.Search.{turns}
use Rattle.search.proofs.Searching.{Seeking}
use Rattle.search.proofs.candidates.scan_backward.Given as goal

abbrev pub invariant-loop-seek : goal.invariant-loop-seek
invariant-loop-seek l = Seeking (as_setup l.setup) (entries_of l.ring) l.initial.scan_counts l.initial.candidates l.seek l.scan_counts l.candidates

abbrev pub decreases-loop-seek : goal.decreases-loop-seek
decreases-loop-seek l = turns l.seek

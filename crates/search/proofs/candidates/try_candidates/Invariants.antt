use Rattle.std.proofs.Common.{length}
use Rattle.scans.specs.Terms.Run.{as_setup, entries_of}
use Rattle.search.specs.Terms.Search.{candidates_in}
use Rattle.search.proofs.Trying.{Trying}
use Rattle.search.proofs.candidates.try_candidates.Given as goal

abbrev pub invariant-loop-i : goal.invariant-loop-i
invariant-loop-i l = Trying (as_setup l.setup) (entries_of l.ring) (candidates_in (length l.candidates) l.candidates) (length l.candidates) l.i l.furthest l.scan_counts

use Rattle.std.proofs.Common.{◌-◌}
use Rattle.scans.specs.Terms.Run.{as_setup, entries_of}
use Rattle.search.proofs.FallShort.{Back}
use Rattle.search.proofs.fails.newest_fall_short.Given as goal

abbrev pub invariant-loop-i : goal.invariant-loop-i
invariant-loop-i l = Back (as_setup l.setup) (entries_of l.ring) l.oldest l.newest (l.ring.len - l.i) l.sum l.scan_counts

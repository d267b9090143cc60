use Rattle.scans.specs.Terms.Run.{as_setup, entries_of}
use Rattle.search.proofs.QuickScan.{Going}
use Rattle.search.proofs.quick.scan_quickly.Given as goal

abbrev pub invariant-loop-scan_counts : goal.invariant-loop-scan_counts
invariant-loop-scan_counts l = Going (as_setup l.setup) l.window_counts (entries_of l.ring) l.initial.scan_counts l.st l.scan_counts

abbrev pub decreases-loop-scan_counts : goal.decreases-loop-scan_counts
decreases-loop-scan_counts l = l.st.low

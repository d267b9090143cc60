use Rattle.std.proofs.Common.{◌-◌, ◌≤◌, length}
use Rattle.strand.specs.Terms.Running.{Before}
use Rattle.strand.proofs.until_scan.Given as goal

abbrev pub invariant-loop-st : goal.invariant-loop-st
invariant-loop-st l =
    record {
      inv : Before l.setup.params l.codes l.setup.ln.now l.setup.f.now l.st l.queue l.window_counts l.scan_counts l.list;
      further : l.initial.st.i ≤ l.st.i;
    }

abbrev pub decreases-loop-st : goal.decreases-loop-st
decreases-loop-st l = length l.codes - l.st.i

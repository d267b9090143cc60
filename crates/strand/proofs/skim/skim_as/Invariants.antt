use Rattle.std.proofs.Common.{◌≡◌, false, ◌-◌, length}
use Rattle.strand.specs.Terms.ReadingOn.{Read, Skims}
use Rattle.strand.proofs.skim.skim_as.Given as goal

-- How far the strand is read, and that the scan counts are all 0 where nothing is live.
abbrev pub invariant-loop-st : goal.invariant-loop-st
invariant-loop-st g l =
    record {
      read : Read l.setup.params l.codes l.setup.ln.now l.setup.f.now l.st l.queue l.window_counts l.scan_counts;
      skims : Skims l.setup.params l.codes l.setup.ln.now l.setup.f.now l.initial.st l.st l.initial.queue l.initial.scan_counts l.queue l.scan_counts;
      clear : g.row.LIVE ≡ 0 → l.st.window.live ≡ false;
    }

abbrev pub decreases-loop-st : goal.decreases-loop-st
decreases-loop-st g l = length l.codes - l.st.i

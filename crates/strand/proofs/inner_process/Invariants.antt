use Rattle.std.proofs.Common.{◌-◌, IfSome, length}
use Rattle.scans.specs.Terms.Run.{as_setup}
use Rattle.strand.specs.Terms.LowStarts.{KnownLow}
use Rattle.strand.specs.Terms.Running.{Before}
use Rattle.strand.proofs.inner_process.Given as goal

abbrev pub invariant-loop-setup : goal.invariant-loop-setup
invariant-loop-setup l =
    record {
      inv : Before l.setup.params l.codes l.setup.ln.now l.setup.f.now l.at.state l.queue l.window_counts l.scan_counts l.list;
      known : IfSome l.at.low (KnownLow (as_setup l.setup) l.codes l.at.state.i);
    }

abbrev pub decreases-loop-setup : goal.decreases-loop-setup
decreases-loop-setup l = length l.codes - l.at.state.i

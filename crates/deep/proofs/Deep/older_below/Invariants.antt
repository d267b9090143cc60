use Rattle.std.proofs.Common.{◌-◌}
use Rattle.scans.specs.Terms.Run.{entries_of}
use Rattle.deep.specs.Terms.Found.{Gains, OlderBelow}
use Rattle.deep.proofs.Deep.older_below.Given as goal

abbrev pub invariant-loop-read : goal.invariant-loop-read
invariant-loop-read l =
    record {
      gains : Gains l.scale (entries_of l.ring) (l.read - 1) l.gain;
      older : OlderBelow l.scale (entries_of l.ring) l.lead (l.read - 1);
    }

use Rattle.std.proofs.Common.{◌-◌}
use Rattle.scans.specs.Terms.Run.{entries_of}
use Rattle.deep.specs.Terms.Found.{Gains, Middling}
use Rattle.deep.proofs.Compared.{Highest}
use Rattle.deep.proofs.Deep.holds_steady.Given as goal

abbrev pub invariant-loop-read : goal.invariant-loop-read
invariant-loop-read l =
    record {
      gains : Gains l.scale (entries_of l.ring) (l.read - 1) l.gain;
      middling : Middling l.scale (entries_of l.ring) l.lead (l.read - 1);
      highest : Highest l.scale (entries_of l.ring) l.lead (l.read - 1) l.best_gain l.best_loss;
    }

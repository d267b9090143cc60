use Rattle.std.proofs.Common.{◌-◌}
use Rattle.scans.specs.Terms.Run.{entries_of}
use Rattle.deep.proofs.Falling.{Taken}
use Rattle.deep.proofs.Compared.{EndsTo}
use Rattle.deep.proofs.Deep.ends_best.Given as goal

abbrev pub invariant-loop-read : goal.invariant-loop-read
invariant-loop-read l =
    record {
      taken : Taken l.scale (entries_of l.ring) (l.ring.len - l.size) (l.read - 1) l.sum;
      ends : EndsTo l.scale (entries_of l.ring) (l.ring.len - l.size) l.size (l.read - 1);
    }

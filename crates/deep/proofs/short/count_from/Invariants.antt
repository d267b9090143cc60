use Rattle.std.proofs.Common.{◌-◌, length, take, drop}
use Rattle.scans.specs.Terms.Counted.{Counted}
use Rattle.scans.specs.Terms.Run.{entries_of}
use Rattle.deep.proofs.short.count_from.Given as goal

abbrev pub invariant-loop-i : goal.invariant-loop-i
invariant-loop-i l = Counted (length l.fn.counts) l.counts (take (l.i - l.from) (drop l.from (entries_of l.ring)))

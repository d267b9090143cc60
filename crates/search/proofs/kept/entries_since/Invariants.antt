use Rattle.std.proofs.Common.{◌-◌}
use Rattle.search.specs.Terms.Certified.{NoneFrom}
use Rattle.search.proofs.kept.entries_since.Given as goal

abbrev pub invariant-loop-l : goal.invariant-loop-l
invariant-loop-l l = NoneFrom l.ring.queue.now l.ring.head l.ring.len (l.ring.len - l.l)

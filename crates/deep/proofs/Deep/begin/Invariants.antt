use Rattle.std.proofs.Common.{◌-◌, length}
use Rattle.scans.specs.Terms.Counted.{Counted}
use Rattle.scans.specs.Terms.Window.{window}
use Rattle.deep.specs.Terms.Cells.{Held}
use Rattle.deep.proofs.Deep.begin.Given as goal

abbrev pub invariant-loop-len : goal.invariant-loop-len
invariant-loop-len l =
    Held l.scale l.oldest (window l.ring.queue.now l.ring.head (l.len - 1)) l.self
    × Counted (length l.fn.counts) l.counts (window l.ring.queue.now l.ring.head (l.len - 1))

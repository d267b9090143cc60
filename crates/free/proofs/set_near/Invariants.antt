use Rattle.std.proofs.Common.{take}
use Rattle.free.proofs.Setting.{Set}
use Rattle.free.specs.Free.{near}
use Rattle.free.proofs.set_near.Given as goal

abbrev pub invariant-loop-interval : goal.invariant-loop-interval
invariant-loop-interval l = Set (near l.pad (take l.interval-index l.list)) l.value l.initial.map l.map

-- The newest places of the part were read.
use Rattle.strongest_list.proofs.Rowing.{Reads}
use Rattle.strongest_list.proofs.rows.Row.read.Given as goal

abbrev pub invariant-loop-back : goal.invariant-loop-back
invariant-loop-back l = Reads l.request l.places l.part.count l.self.first l.part.end l.looked l.back l.read

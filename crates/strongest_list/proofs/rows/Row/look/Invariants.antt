-- The blocks down to place `end` were looked at.
use Rattle.strongest_list.proofs.Rowing.{Looks}
use Rattle.strongest_list.proofs.rows.Row.look.Given as goal

abbrev pub invariant-back : goal.invariant-back
invariant-back l = Looks l.request l.places l.count l.self.first l.low l.fn.best l.blocks l.end l.looked

abbrev pub decreases-back : goal.decreases-back
decreases-back l = l.end

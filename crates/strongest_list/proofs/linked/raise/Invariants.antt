-- Places at .. n - 1 are done.
use Rattle.strongest_list.proofs.Counting.{Walk}
use Rattle.strongest_list.proofs.linked.raise.Given as goal

abbrev pub invariant-older : goal.invariant-older
invariant-older l = Walk l.request.window_size l.request.scoring.ln.now l.request.scoring.threshold l.low l.n l.initial.places l.places l.blocks l.at l.order

abbrev pub decreases-older : goal.decreases-older
decreases-older l = l.at

use Rattle.entries.proofs.Adding.{first_none, first_more}
use Rattle.entries.proofs.sums.sums_in.Goals as goal

pub loop-k-init : goal.loop-k-init
loop-k-init c = record { all_is = first_none _ _ c.new-all.ensures }

pub loop-k-preserved : goal.loop-k-preserved
loop-k-preserved c = record { all_is = first_more _ _ _ _ _ c.loop-k.invariant.all_is c.sums_at.ensures c.add-all.ensures }

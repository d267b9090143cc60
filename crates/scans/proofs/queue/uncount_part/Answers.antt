use Rattle.scans.proofs.Walk.{walking_end, lowering_turn}
use Rattle.scans.proofs.queue.uncount_part.Goals as goal

pub loop-entry-preserved : goal.loop-entry-preserved
loop-entry-preserved c = lowering_turn _ _ _ _ c.loop-entry.invariant c.requires c.loop-entry-test.true _ c.lower_entry.ensures

pub returns : goal.returns
returns c = walking_end _ _ _ _ _ c.loop-entry.invariant c.loop-entry-test.false

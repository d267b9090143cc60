use Rattle.scans.proofs.Walk.{walking_end, clearing_turn}
use Rattle.scans.proofs.queue.clear_part.Goals as goal

pub loop-entry-preserved : goal.loop-entry-preserved
loop-entry-preserved c = clearing_turn _ _ _ _ c.loop-entry.invariant c.requires c.loop-entry-test.true

pub returns : goal.returns
returns c = walking_end _ _ _ _ _ c.loop-entry.invariant c.loop-entry-test.false

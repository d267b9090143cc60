-- The first region that ends past the letter ends the loop.
use Rattle.ranking.proofs.Parts.{region_found, region_turn, region_end}
use Rattle.ranking.proofs.lines.region_at.Goals as goal

pub returns-then-x-region : goal.returns-then-x-region
returns-then-x-region c = region_found c.args.regions.now c.args.x c.loop-region.region-index c.loop-region.invariant c.loop-region-test.true c.if-x-region.true

pub loop-region-preserved : goal.loop-region-preserved
loop-region-preserved c = region_turn c.args.regions.now c.args.x c.loop-region.region-index c.loop-region.invariant c.loop-region-test.true c.if-x-region.false

pub returns : goal.returns
returns c = region_end c.args.regions.now c.args.x c.loop-region.region-index c.loop-region.invariant c.loop-region-test.false

-- The first bad region ends the loop.
use Rattle.strongest_list.proofs.Asking.{bad_found, bad_turn, bad_end}
use Rattle.strongest_list.proofs.refusals.any_bad_region.Goals as goal

pub returns-then-bad_region : goal.returns-then-bad_region
returns-then-bad_region c = bad_found c.args.n c.args.regions.now c.loop-region.region-index c.loop-region.invariant c.loop-region-test.true c.if-bad_region.ensures

pub loop-region-preserved : goal.loop-region-preserved
loop-region-preserved c = bad_turn c.args.n c.args.regions.now c.loop-region.region-index c.loop-region.invariant c.loop-region-test.true c.if-bad_region.ensures

pub returns : goal.returns
returns c = bad_end c.args.n c.args.regions.now c.loop-region.region-index c.loop-region.invariant c.loop-region-test.false

-- Each turn opens a region.
use Rattle.std.proofs.Common.{◌∙◌, length}
use Rattle.strongest_list.proofs.Asking.{good_region, rest_turn, rest_end}
use Rattle.strongest_list.proofs.barring.show_regions.Goals as goal

pub open_region-requires-clause-order : goal.open_region-requires-clause-order
open_region-requires-clause-order c =
    (good_region (length c.args.request.now.sequence.now) c.args.request.now.regions.now c.loop-region.region-index c.requires.regions c.loop-region-test.true).0

pub open_region-requires-clause-inside : goal.open_region-requires-clause-inside
open_region-requires-clause-inside c =
    (good_region (length c.args.request.now.sequence.now) c.args.request.now.regions.now c.loop-region.region-index c.requires.regions c.loop-region-test.true).1

pub loop-region-preserved : goal.loop-region-preserved
loop-region-preserved c =
    rest_turn c.args.request.now.sequence.now c.args.request.now.regions.now c.loop-region.region-index c.loop-region.codes c.open_region.new.codes c.loop-region-test.true c.open_region.auto.codes c.loop-region.invariant c.open_region.ensures

pub returns : goal.returns
returns c = rest_end c.args.request.now c.loop-region.region-index c.loop-region.codes (c.loop-region.auto.codes ∙ c.bar_letters.auto.codes ∙ c.requires.long) c.loop-region-test.false c.loop-region.invariant

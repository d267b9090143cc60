use Rattle.std.proofs.Common.{get_or, refl}
use Rattle.intervals.specs.Interval.{interval}
use Rattle.free.proofs.Setting.{set_none, set_more}
use Rattle.free.proofs.set_near.Goals as goal

pub loop-interval-init : goal.loop-interval-init
loop-interval-init c = set_none _ _ _

pub loop-interval-preserved : goal.loop-interval-preserved
loop-interval-preserved c =
    set_more _ _ _ c.loop-interval.interval-index _ c.args.list.now (get_or c.args.list.now c.loop-interval.interval-index (interval 0 0)) (interval 0 0) _ _ _
    c.loop-interval-test.true refl c.saturating_sub-from.ensures c.min-to.ensures c.loop-interval.invariant c.set_range.auto.map c.set_range.ensures

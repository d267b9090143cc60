use Rattle.std.proofs.Common.{rules, arith, ◌∙◌, sym, ap, subst, List, ◌≡◌, true, false}
use Rattle.intervals.specs.declared.Interval.{Interval}
use Rattle.free.specs.Terms.Letters.{at}
use Rattle.free.proofs.Filling.{Filled, filled_none, filled_grow, filled_gap, filled_all}
use Rattle.free.proofs.fill_stretches.Goals as goal
use Rattle.free.proofs.fill_stretches.Goals.{then-end-here+in_ok-push_nonempty, else-end-here}

pub loop-i-init : goal.loop-i-init
loop-i-init c = rw c.clear.ensures.items (filled_none c.args.map.now)

pub loop-i-preserved : goal.loop-i-preserved
loop-i-preserved c =
    let F = c.loop-i.invariant in
    elim c.if-end-here.branch [
      | then-end-here+in_ok-push_nonempty w ↦
          rw (w.list-is, w.start-is) (filled_gap _ _ _ _ _ F _ w.if-end-here.true w.in_ok-push_nonempty.ensures c.if-not-map-i.false)
      | else-end-here w ↦ rw (w.list-is, w.start-is) (filled_grow _ _ _ _ _ F (omega (arith, F.ordered, w.if-end-here.false)) c.if-not-map-i.false)
    ]

pub returns : goal.returns
returns c = filled_all _ _ _ _ _ c.loop-i.invariant _ (search rules) c.in_ok-push_nonempty-2.ensures

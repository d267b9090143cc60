use Rattle.certificates.proofs.LowReading.{add_asks, low_start, low_end, low_near, low_none, low_next, low_stops}
use Rattle.certificates.proofs.low.read_low.Goals as goal

pub loop-l-init : goal.loop-l-init
loop-l-init c =
    let s = c.requires in
    low_start _ _ _ _ _ _ _ s.windowed s.usual _ _ c.new-st.ensures s.f_long.1

pub add_entry-st-requires-clause-in_bounds : goal.add_entry-st-requires-clause-in_bounds
add_entry-st-requires-clause-in_bounds c = (add_asks _ _ _ _ _ _ _ c.requires.windowed _ _ _ c.loop-l.invariant.newest c.loop-l.auto.l c.loop-l-test.true _ c.index-i.ensures).0

pub add_entry-st-requires-clause-bound : goal.add_entry-st-requires-clause-bound
add_entry-st-requires-clause-bound c = (add_asks _ _ _ _ _ _ _ c.requires.windowed _ _ _ c.loop-l.invariant.newest c.loop-l.auto.l c.loop-l-test.true _ c.index-i.ensures).1

pub loop-l-preserved-then-l-le-NEAR : goal.loop-l-preserved-then-l-le-NEAR
loop-l-preserved-then-l-le-NEAR c =
    let s = c.requires in
    low_near _ _ _ _ _ _ _ s.windowed s.usual _ _ _ _ c.loop-l.invariant c.loop-l.auto.l c.loop-l-test.true _ c.index-i.ensures _ _ c.add_entry-st.ensures c.if-l-le-NEAR.true

pub returns-then-not-x : goal.returns-then-not-x
returns-then-not-x c =
    let s = c.requires in
    low_none _ _ _ _ _ _ _ s.windowed s.usual _ _ _ _ c.loop-l.invariant c.loop-l.auto.l c.loop-l-test.true _ c.index-i.ensures _ _ c.add_entry-st.ensures

pub returns-then-y : goal.returns-then-y
returns-then-y c =
    let s = c.requires in
    low_stops _ _ _ _ _ _ _ s.windowed s.usual _ _ _ _ c.loop-l.invariant c.loop-l.auto.l c.loop-l-test.true _ c.index-i.ensures _ _ c.add_entry-st.ensures _ c.larger-score.ensures _ c.larger.ensures _ c.to.ensures

pub loop-l-preserved : goal.loop-l-preserved
loop-l-preserved c =
    let s = c.requires in
    low_next _ _ _ _ _ _ _ s.windowed s.usual _ _ _ _ c.loop-l.invariant c.loop-l.auto.l c.loop-l-test.true _ c.index-i.ensures _ _ c.add_entry-st.ensures _ c.larger-score.ensures

pub returns : goal.returns
returns c =
    let s = c.requires in
    low_end _ _ _ _ _ _ _ s.windowed s.usual _ _ _ _ c.loop-l.invariant c.loop-l-test.false _ c.to-2.ensures

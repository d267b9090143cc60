use Rattle.std.proofs.Common.{◌+◌, ◌<◌, arith}
use Rattle.certificates.specs.Terms.Low.{near_starts}
use Rattle.certificates.proofs.LowReading.{add_asks, near_start, near_end, near_stops, near_high, near_next, near_moved}
use Rattle.certificates.proofs.low.read_near.Goals as goal
use Rattle.certificates.proofs.low.read_near.Goals.{In-loop-l}

pub loop-l-init : goal.loop-l-init
loop-l-init c =
    let s = c.requires in
    near_start _ _ _ _ _ _ _ s.windowed _ _ s.f_long.2 s.low_bounds _ _ c.new-st.ensures s.f_long.1

-- not all near entries are read
more : (c : In-loop-l) → c.loop-l.l < c.args.age + near_starts + 1
more c = omega (arith, c.loop-l-test.true)

-- the next entry is one of the window
within : (c : In-loop-l) → c.loop-l.l < c.args.ring.now.len + 1
within c = omega (arith, c.loop-l-test.true, c.requires.f_long.2)

pub add_entry-st-requires-clause-in_bounds : goal.add_entry-st-requires-clause-in_bounds
add_entry-st-requires-clause-in_bounds c = (add_asks _ _ _ _ _ _ _ c.requires.windowed _ _ _ c.loop-l.invariant.newest c.loop-l.auto.l (within (goal.at.add_entry-st-requires-clause-in_bounds c).In-loop-l) _ c.index-i.ensures).0

pub add_entry-st-requires-clause-bound : goal.add_entry-st-requires-clause-bound
add_entry-st-requires-clause-bound c = (add_asks _ _ _ _ _ _ _ c.requires.windowed _ _ _ c.loop-l.invariant.newest c.loop-l.auto.l (within (goal.at.add_entry-st-requires-clause-bound c).In-loop-l) _ c.index-i.ensures).1

pub returns-then-y : goal.returns-then-y
returns-then-y c =
    let s = c.requires in
    near_stops _ _ _ _ _ _ _ s.windowed _ _ s.f_long.2 s.low_bounds _ _ _ _ c.loop-l.invariant c.loop-l.auto.l (more (goal.at.returns-then-y c).In-loop-l) _ c.index-i.ensures _ _ c.add_entry-st.ensures c.if-y.true

pub returns-then-not-st-fl : goal.returns-then-not-st-fl
returns-then-not-st-fl c =
    let s = c.requires in
    near_high _ _ _ _ _ _ _ s.windowed _ _ s.f_long.2 s.low_bounds _ _ _ _ c.loop-l.invariant c.loop-l.auto.l (more (goal.at.returns-then-not-st-fl c).In-loop-l) _ c.index-i.ensures _ _ c.add_entry-st.ensures

pub loop-l-preserved-then-l-age : goal.loop-l-preserved-then-l-age
loop-l-preserved-then-l-age c =
    let s = c.requires in
    near_next _ _ _ _ _ _ _ s.windowed _ _ s.f_long.2 s.low_bounds _ _ _ _ c.loop-l.invariant c.loop-l.auto.l (more (goal.at.loop-l-preserved-then-l-age c).In-loop-l) _ c.index-i.ensures _ _ c.add_entry-st.ensures c.if-not-st-fl.false c.if-l-age.true

pub loop-l-preserved : goal.loop-l-preserved
loop-l-preserved c =
    let s = c.requires in
    near_moved _ _ _ _ _ _ _ s.windowed _ _ s.f_long.2 s.low_bounds _ _ _ _ c.loop-l.invariant c.loop-l.auto.l (more (goal.at.loop-l-preserved c).In-loop-l) _ c.index-i.ensures _ _ c.add_entry-st.ensures c.if-not-st-fl.false c.if-l-age.false

pub returns : goal.returns
returns c =
    let s = c.requires in
    near_end _ _ _ _ _ _ _ s.windowed _ _ s.f_long.2 s.low_bounds _ _ _ _ c.loop-l.invariant (omega (arith, c.loop-l-test.false))

use Rattle.std.proofs.Common.{◌+◌, ◌-◌, length, arith}
use Rattle.scans.proofs.BackwardScan.{add_ready}
use Rattle.scans.proofs.BackwardLow.{low_start, low_whole, low_end, low_ended, low_raised, low_paused, low_fallen}
use Rattle.scans.proofs.backward.backward_low.Goals as goal

pub loop-i-init : goal.loop-i-init
loop-i-init c =
    let s = c.requires in
    low_start _ _ _ _ _ _ _ _ (omega arith) s.part_before.room s.none_best

pub add_entry-st-requires-clause-bound : goal.add_entry-st-requires-clause-bound
add_entry-st-requires-clause-bound c =
    let s = c.requires.part_before in
    (add_ready _ _ _ _ _ _ _ _ _ _ _ (low_whole _ _ _ _ _ _ _ _ _ _ c.loop-i.invariant) s.coded (c.loop-i.i - 1) (c.args.state.low - length c.args.part.now + (c.loop-i.i - 1)) (omega (arith, c.loop-i-test.true)) (omega arith) _ s.small s.ln_long s.counts_long s.room.at_most).1

pub returns-then-st-fl : goal.returns-then-st-fl
returns-then-st-fl c =
    let s = c.requires.part_before in
    low_ended _ _ _ _ _ _ _ _ _ _ c.loop-i.invariant s.coded s.inside (c.loop-i.i - 1) (c.args.state.low - length c.args.part.now + (c.loop-i.i - 1)) (omega (arith, c.loop-i-test.true)) (omega arith) _ _ c.add_entry-st.ensures _ c.resting.ensures c.if-st-fl.true

pub returns-then-sl : goal.returns-then-sl
returns-then-sl c =
    let s = c.requires.part_before in
    low_raised _ _ _ _ _ _ _ _ _ _ c.loop-i.invariant s.coded s.inside (c.loop-i.i - 1) (c.args.state.low - length c.args.part.now + (c.loop-i.i - 1)) (omega (arith, c.loop-i-test.true)) (omega arith) _ _ c.add_entry-st.ensures c.if-st-fl.false c.if-sl.true _ c.raised.ensures _ c.resting-then-sl.ensures

pub returns-then-quick-st : goal.returns-then-quick-st
returns-then-quick-st c =
    let s = c.requires.part_before in
    low_paused _ _ _ _ _ _ _ _ _ _ c.loop-i.invariant s.coded s.inside (c.loop-i.i - 1) (c.args.state.low - length c.args.part.now + (c.loop-i.i - 1)) (omega (arith, c.loop-i-test.true)) (omega arith) _ _ c.add_entry-st.ensures c.if-st-fl.false c.if-sl.false _ c.fallen.ensures c.if-quick-st.true _ c.resting-then-quick-st.ensures

pub loop-i-preserved : goal.loop-i-preserved
loop-i-preserved c =
    let s = c.requires.part_before in
    (low_fallen _ _ _ _ _ _ _ _ _ _ c.loop-i.invariant s.coded s.inside (c.loop-i.i - 1) (c.args.state.low - length c.args.part.now + (c.loop-i.i - 1)) (omega (arith, c.loop-i-test.true)) (omega arith) _ _ c.add_entry-st.ensures c.if-st-fl.false c.if-sl.false _ c.fallen-st.ensures c.if-quick-st.false)

pub returns : goal.returns
returns c = low_end _ _ _ _ _ _ _ _ _ _ c.loop-i.invariant c.requires.part_before.some (omega (arith, c.loop-i-test.false)) _ c.resting-2.ensures

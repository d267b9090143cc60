use Rattle.std.proofs.Common.{sym, ◌∙◌, ◌+◌, ◌-◌, length, arith}
use Rattle.scans.proofs.BackwardScan.{scanning_start, scanning_end, add_ready, scanning_ended, scanning_raised, scanning_paused, scanning_stopped, scanning_fallen}
use Rattle.scans.proofs.backward.backward_part.Goals as goal

pub loop-i-init : goal.loop-i-init
loop-i-init c =
    let s = c.requires in
    scanning_start _ _ _ _ _ _ _ _ _ (omega arith) s.room

pub add_entry-st-requires-clause-bound : goal.add_entry-st-requires-clause-bound
add_entry-st-requires-clause-bound c =
    let s = c.requires in
    (add_ready _ _ _ _ _ _ _ _ _ _ _ c.loop-i.invariant s.coded (c.loop-i.i - 1) (c.args.state.low - length c.args.part.now + (c.loop-i.i - 1)) (omega (arith, c.loop-i-test.true)) (omega arith) _ s.small s.ln_long s.counts_long s.room.at_most).1

pub returns-then-st-fl : goal.returns-then-st-fl
returns-then-st-fl c = scanning_ended _ _ _ _ _ _ _ _ _ _ _ c.loop-i.invariant c.requires.coded (c.loop-i.i - 1) (c.args.state.low - length c.args.part.now + (c.loop-i.i - 1)) (omega (arith, c.loop-i-test.true)) (omega arith) _ _ c.add_entry-st.ensures _ c.resting.ensures c.if-st-fl.true

pub loop-i-preserved-then-sl-st : goal.loop-i-preserved-then-sl-st
loop-i-preserved-then-sl-st c = (scanning_raised _ _ _ _ _ _ _ _ _ _ _ c.loop-i.invariant c.requires.coded (c.loop-i.i - 1) (c.args.state.low - length c.args.part.now + (c.loop-i.i - 1)) (omega (arith, c.loop-i-test.true)) (omega arith) _ _ c.add_entry-st.ensures c.if-st-fl.false c.if-sl-st.true _ c.raised-st.ensures)

pub returns-then-pauses : goal.returns-then-pauses
returns-then-pauses c = scanning_paused _ _ _ _ _ _ _ _ _ _ _ c.loop-i.invariant c.requires.coded (c.loop-i.i - 1) (c.args.state.low - length c.args.part.now + (c.loop-i.i - 1)) (omega (arith, c.loop-i-test.true)) (omega arith) _ _ c.add_entry-st.ensures c.if-st-fl.false c.if-sl-st.false _ c.fallen.ensures (sym c.pauses.ensures ∙ c.if-pauses.true) _ c.too_low-low.ensures _ c.resting-then-pauses.ensures

pub returns-then-too_low : goal.returns-then-too_low
returns-then-too_low c = scanning_stopped _ _ _ _ _ _ _ _ _ _ _ c.loop-i.invariant c.requires.coded (c.loop-i.i - 1) (c.args.state.low - length c.args.part.now + (c.loop-i.i - 1)) (omega (arith, c.loop-i-test.true)) (omega arith) _ _ c.add_entry-st.ensures c.if-st-fl.false c.if-sl-st.false _ c.fallen-then-too_low.ensures (sym c.pauses.ensures ∙ c.if-pauses.false) (sym c.too_low.ensures ∙ c.if-too_low.true) _ c.resting-then-too_low.ensures

pub loop-i-preserved : goal.loop-i-preserved
loop-i-preserved c = (scanning_fallen _ _ _ _ _ _ _ _ _ _ _ c.loop-i.invariant c.requires.coded (c.loop-i.i - 1) (c.args.state.low - length c.args.part.now + (c.loop-i.i - 1)) (omega (arith, c.loop-i-test.true)) (omega arith) _ _ c.add_entry-st.ensures c.if-st-fl.false c.if-sl-st.false _ c.fallen-st.ensures (sym c.pauses.ensures ∙ c.if-pauses.false) (sym c.too_low.ensures ∙ c.if-too_low.false))

pub returns : goal.returns
returns c = scanning_end _ _ _ _ _ _ _ _ _ _ _ c.loop-i.invariant (omega (arith, c.loop-i-test.false)) _ c.resting-2.ensures

use Rattle.std.proofs.Common.{◌≡◌, sym, ap, ◌∙◌, ℕ, ◌-◌, ◌^◌, arith, length, replicate}
use lib.ListN.{length-replicate}
use Rattle.scans.proofs.Rings.{entries_long}
use Rattle.search.proofs.Slices.{candidates_at}
use Rattle.search.proofs.Trying.{tried_touched, trying_start, trying_end, trying_skip, trying_found, trying_approx, trying_on}
use Rattle.search.proofs.candidates.try_candidates.Goals as goal
use Rattle.search.proofs.candidates.try_candidates.Goals.{After-clear_from}

-- the counts are cleared again
cleared : (c : After-clear_from) → c.clear_from.new.scan_counts ≡ replicate (4 ^ c.args.setup.now.params.kmer) 0
cleared c = c.clear_from.ensures ∙ ap (λ (n : ℕ). replicate n 0) (c.dust_forward-st.auto.scan_counts ∙ ap length c.loop-i.invariant.clear ∙ length-replicate (4 ^ c.args.setup.now.params.kmer) 0)

pub loop-i-init : goal.loop-i-init
loop-i-init c = trying_start _ _ _ _ _ c.requires.scan_counts_value

pub loop-i-preserved-then-place-furthest : goal.loop-i-preserved-then-place-furthest
loop-i-preserved-then-place-furthest c = trying_skip _ _ _ _ _ _ _ _ c.loop-i.invariant (omega (arith, c.loop-i-test.true)) _ (candidates_at _ _ _ (omega (arith, c.loop-i-test.true, c.loop-i.auto.i))) c.if-place-furthest.true

pub clear_from-requires-clause-from_le_len : goal.clear_from-requires-clause-from_le_len
clear_from-requires-clause-from_le_len c = (omega (arith, c.requires.holds_candidates.inside (c.loop-i.i - 1) (omega (arith, c.loop-i-test.true, c.loop-i.auto.i))), tried_touched _ _ _ _ _ _ c.dust_forward-st.ensures)

pub returns-then-st-ring : goal.returns-then-st-ring
returns-then-st-ring c = trying_found _ _ _ _ _ _ _ _ c.loop-i.invariant (omega (arith, c.loop-i-test.true)) _ (candidates_at _ _ _ (omega (arith, c.loop-i-test.true, c.loop-i.auto.i))) c.if-place-furthest.false _ _ c.dust_forward-st.ensures (omega (arith, c.requires.holds_candidates.inside (c.loop-i.i - 1) (omega (arith, c.loop-i-test.true, c.loop-i.auto.i)), entries_long c.args.ring.now)) (c.if-st-ring.true ∙ sym (entries_long c.args.ring.now)) _ c.begun.ensures

pub returns-then-setup : goal.returns-then-setup
returns-then-setup c = trying_approx _ _ _ _ _ _ _ _ c.loop-i.invariant (omega (arith, c.loop-i-test.true)) _ (candidates_at _ _ _ (omega (arith, c.loop-i-test.true, c.loop-i.auto.i))) c.if-place-furthest.false _ _ c.dust_forward-st.ensures (λ e. c.if-st-ring.false (e ∙ entries_long c.args.ring.now)) _ (cleared (goal.at.returns-then-setup c).After-clear_from) c.if-setup.true _ c.nothing.ensures

pub loop-i-preserved : goal.loop-i-preserved
loop-i-preserved c = trying_on _ _ _ _ _ _ _ _ c.loop-i.invariant (omega (arith, c.loop-i-test.true)) _ (candidates_at _ _ _ (omega (arith, c.loop-i-test.true, c.loop-i.auto.i))) c.if-place-furthest.false _ _ c.dust_forward-st.ensures (λ e. c.if-st-ring.false (e ∙ entries_long c.args.ring.now)) _ (cleared (goal.at.loop-i-preserved c).After-clear_from) c.if-setup.false _ c.max-furthest.ensures

pub returns : goal.returns
returns c = trying_end _ _ _ _ _ _ _ c.loop-i.invariant (omega (arith, c.loop-i-test.false)) _ c.nothing-2.ensures

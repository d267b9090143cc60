use Rattle.std.proofs.Common.{refl, sym, ◌∙◌, ◌+◌, arith}
use Rattle.step.specs.Terms.Entering.{Enters}
use Rattle.step.specs.Terms.Finding.{PassedOn}
use Rattle.step.proofs.KnownCounts.{known_off}
use Rattle.step.proofs.Searching.{passing, passes_off}
use Rattle.strand.proofs.ReadingOn.{small, read_on, skims_on}
use Rattle.strand.proofs.skim.skim_as.Given.{Over}
use Rattle.strand.proofs.skim.skim_as.Goals as goal
use Rattle.strand.proofs.skim.skim_as.Goals.{After-enter-st}

enters : (g : Over) (c : After-enter-st g) → let s = c.args.setup.now in Enters s.params c.args.codes.now s.ln.now s.f.now c.loop-st.st c.enter-st.result c.loop-st.queue c.loop-st.scan_counts c.enter-st.new.queue c.enter-st.new.window_counts c.enter-st.new.scan_counts
enters g c = c.enter-st.ensures c.args.setup.now.f.now c.loop-st.invariant.read.known

pub is_searched-requires : goal.is_searched-requires
is_searched-requires g c =
    let n = enters g (goal.at.is_searched-requires g c).After-enter-st in
    (small n c.requires.kmer_bound.0, omega (arith, n.entered.below, n.entered.windowed.counts_long))

pub passed-st-requires-clause-passing : goal.passed-st-requires-clause-passing
passed-st-requires-clause-passing g c =
    passing (enters g (goal.at.passed-st-requires-clause-passing g c).After-enter-st).entered (c.enter-st.auto.scan_counts ∙ c.loop-st.auto.scan_counts ∙ c.requires.kmer_bound.3) c.requires.kmer_bound.2

pub loop-st-preserved-then-this-ne0 : goal.loop-st-preserved-then-this-ne0
loop-st-preserved-then-this-ne0 g c =
    let n = enters g (goal.at.loop-st-preserved-then-this-ne0 g c).After-enter-st in
    let not = sym c.is_searched.ensures ∙ c.if-is_searched.false in
    record { read = read_on c.loop-st-test.true n not c.passed-st.ensures; skims = skims_on c.loop-st-test.true n not c.passed-st.ensures c.loop-st.invariant.skims; clear = λ z. absurd (c.if-this-ne0.true z) }

-- No scan is carried, so the letter leaves everything but i as it is.
pub loop-st-preserved : goal.loop-st-preserved
loop-st-preserved g c =
    let s = c.args.setup.now in
    let st = c.enter-st.result in
    let n = enters g (goal.at.loop-st-preserved g c).After-enter-st in
    let not = sym c.is_searched.ensures ∙ c.if-is_searched.false in
    let clear = n.live_is ∙ c.loop-st.invariant.clear c.if-this-ne0.false in
    let passed : PassedOn s.params s.ln.now s.f.now c.enter-st.new.queue st (record { kmer = st.kmer; i = st.i + 1; window = st.window; hand = st.hand }) c.enter-st.new.scan_counts c.enter-st.new.scan_counts =
    record { kmer_is = refl; i_is = refl; hand_is = refl; passes = passes_off (known_off n.entered.known clear) } in
    record { read = read_on c.loop-st-test.true n not passed; skims = skims_on c.loop-st-test.true n not passed c.loop-st.invariant.skims; clear = λ _. clear }

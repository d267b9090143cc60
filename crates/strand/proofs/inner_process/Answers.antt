use Rattle.std.proofs.Common.{arith}
use Rattle.scans.specs.Terms.Run.{as_setup}
use Rattle.strand.proofs.KnownLow.{known_on, answers_same}
use Rattle.strand.proofs.Running.{inv_start, last_saved}
use Rattle.strand.proofs.inner_process.Goals as goal

pub loop-setup-init : goal.loop-setup-init
loop-setup-init c = record { inv = inv_start c.requires.lent c.begin.ensures; known = tt }

pub returns-then-st-codes : goal.returns-then-st-codes
returns-then-st-codes c = last_saved (c.until_scan-st.ensures.ended c.if-st-codes.true) c.close.ensures.0 c.close.ensures.1

pub answered-at-requires-clause-i_bound : goal.answered-at-requires-clause-i_bound
answered-at-requires-clause-i_bound c =
    let l = c.requires.lent.part in
    let d = c.until_scan-st.ensures.due c.if-st-codes.false in
    let g = c.ring-ring.ensures in
    (omega (arith, c.if-st-codes.false, l.letters_in), omega (arith, d.windowed.len_in, d.windowed.small), d.within _ _ (rw (g.0, g.1, g.2) at c.dust_backward-r.ensures), l.kmer_small)

pub loop-setup-preserved : goal.loop-setup-preserved
loop-setup-preserved c =
    let w = c.renewed-at in
    let h = c.loop-setup.invariant in
    let r = c.until_scan-st.ensures in
    let d = r.due c.if-st-codes.false in
    let g = c.ring-ring.ensures in
    record {
      inv = d.leads _ _ _ _ (answers_same w.ensures.counts_are (rw (g.0, g.1, g.2) at c.dust_backward-r.ensures)) c.answered-at.ensures.0 c.answered-at.ensures.1;
      known = rw c.answered-at.ensures.0.i_is (w.ensures.known c.args.codes.now (rw (g.0, g.1, g.2) d.window_is) (known_on (as_setup c.args.setup.now) c.args.codes.now c.loop-setup.at.low r.further h.known));
    }

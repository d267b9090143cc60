use Rattle.std.proofs.Common.{sym, ◌∙◌}
use Rattle.scans.proofs.Windows.{long}
use Rattle.scans.proofs.BackwardScan.{window_counts_are}
use Rattle.search.proofs.QuickScan.{going_start, going_end}
use Rattle.search.proofs.quick.scan_quickly.Goals as goal

pub loop-scan_counts-init : goal.loop-scan_counts-init
loop-scan_counts-init c =
    let s = c.requires in
    going_start _ _ _ _ _ _ (long s.windowed) c.new-st.ensures s.len_nonzero.2

pub returns : goal.returns
returns c = going_end _ _ _ _ _ _ c.loop-scan_counts.invariant (sym c.goes_on.ensures ∙ c.loop-scan_counts-test.false) (window_counts_are c.requires.windowed)

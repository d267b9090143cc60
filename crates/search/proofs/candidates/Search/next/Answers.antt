use Rattle.std.proofs.Common.{sym, ◌∙◌, arith}
use Rattle.scans.proofs.Windows.{long}
use Rattle.scans.proofs.BackwardScan.{window_counts_are, window_below_lem}
use Rattle.search.proofs.Searching.{next_finished, next_on}
use Rattle.search.proofs.candidates.Search.next.Goals as goal

pub finished-requires : goal.finished-requires
finished-requires c =
    let s = c.requires in
    let w = s.windowed in
    (omega (arith, s.searches.scan.found_in, long w, w.len_in, w.small), omega (arith, s.searches.few, long w, w.len_in, w.small))

pub returns-then-ended : goal.returns-then-ended
returns-then-ended c = next_finished _ _ _ _ c.requires.searches (sym c.ended.ensures ∙ c.if-ended.true) _ c.finished.ensures

pub gone_on-requires : goal.gone_on-requires
gone_on-requires c =
    let s = c.requires in
    let w = s.windowed in
    (omega (arith, c.backward_on-on.ensures.less, s.searches.scan.low_in, long w, w.len_in, w.small), omega (arith, s.searches.few, long w, w.len_in, w.small))

pub returns : goal.returns
returns c =
    let s = c.requires in
    next_on _ _ _ _ s.searches (sym c.ended.ensures ∙ c.if-ended.false) _ _ (window_counts_are s.windowed) (window_below_lem s.windowed) c.backward_on-on.ensures _ c.gone_on.ensures

use Rattle.std.proofs.Common.{sym, ◌≤◌, arith, length, take, length-take-le}
use Rattle.scans.proofs.Windows.{long}
use Rattle.search.specs.Terms.Search.{HoldsCandidates}
use Rattle.search.proofs.Slices.{candidates_length, candidates_front}
use Rattle.search.proofs.BackwardOutcome.{all_held, answers_tried}
use Rattle.search.proofs.dust.dust_backward.Goals as goal
use Rattle.search.proofs.dust.dust_backward.Goals.{Else-none_ends}

-- The candidates that are noted stand in the slice, and can be tried.
held : (c : Else-none_ends) → (c.scan_backward-searched.result.noted ≤ length c.scan_backward-searched.new.candidates)
    × HoldsCandidates c.args.ring.now.len (take c.scan_backward-searched.result.noted c.scan_backward-searched.new.candidates)
held c =
    let s = c.requires in
    all_held _ _ _ _ _ _ _ c.scan_backward-searched.ensures (long s.windowed) s.len_nonzero.0 (omega (arith, s.windowed.len_in, s.roomy.candidates_long, c.scan_backward-searched.auto.candidates))

pub slice_bounds-to_try-end : goal.slice_bounds-to_try-end
slice_bounds-to_try-end c = (held c).0

pub slice_bounds-to_try-end-2 : goal.slice_bounds-to_try-end-2
slice_bounds-to_try-end-2 c = sym (length-take-le _ _ (held c).0)

pub try_candidates-tried-requires-clause-holds_candidates : goal.try_candidates-tried-requires-clause-holds_candidates
try_candidates-tried-requires-clause-holds_candidates c = (held (goal.at.try_candidates-tried-requires-clause-holds_candidates c).Else-none_ends).1

pub returns : goal.returns
returns c =
    let n = c.scan_backward-searched.result.noted in
    let records = c.scan_backward-searched.new.candidates in
    answers_tried _ _ _ _ _ _ c.scan_backward-searched.ensures (candidates_length _ _) _ _
    (rw (length-take-le n records (held (goal.at.returns c).Else-none_ends).0, candidates_front n n records (omega arith)) at c.try_candidates-tried.ensures)

use Rattle.std.proofs.Common.{◌≡◌, sym, ap, ◌∙◌, subst, ℕ, ◌<◌, ◌≤◌, ◌≢◌, arith, length, drop, replicate}
use Rattle.scans.specs.Terms.Counted.{Counted}
use Rattle.scans.specs.Terms.Window.{window}
use Rattle.scans.proofs.Rings.{entries_long}
use Rattle.scans.proofs.Touched.{counted_touched}
use Rattle.search.proofs.Untried.{searched_within, tells_empty, tells_short}
use Rattle.search.proofs.fails.none_ends.Goals as goal
use Rattle.search.proofs.fails.none_ends.Goals.{After-newest_fall_short-told, Then-setup}

-- the candidates stand in the window
within : (c : Then-setup) → (c.args.searched.oldest ≤ c.args.searched.newest) × (c.args.searched.newest < c.args.ring.now.len)
within c =
    let n : c.args.searched.noted ≢ 0 = c.if-searched-eq0.false in
    let w = searched_within _ _ _ _ c.requires.searched_all (omega (arith, entries_long c.args.ring.now, c.requires.len_nonzero.0)) (omega arith) in
    (w.0, omega (arith, w.1, entries_long c.args.ring.now))

pub clear_from-requires-clause-from_le_len : goal.clear_from-requires-clause-from_le_len
clear_from-requires-clause-from_le_len c = (omega (arith, c.requires.searched_all.low_in, entries_long c.args.ring.now), counted_touched _ _ _ c.requires.searched_all.counted)

pub returns-then-searched-eq0 : goal.returns-then-searched-eq0
returns-then-searched-eq0 c =
    let a = c.requires.searched_all in
    tells_empty _ _ _ _ a _ c.if-searched-eq0.true (c.clear_from.ensures ∙ ap (λ (n : ℕ). replicate n 0) a.counted.long)

pub uncount-requires-clause-from_le_to : goal.uncount-requires-clause-from_le_to
uncount-requires-clause-from_le_to c =
    let a = c.requires.searched_all in
    let n : c.args.searched.noted ≢ 0 = c.if-searched-eq0.false in
    (a.oldest_read (omega arith), omega (arith, (within (goal.at.uncount-requires-clause-from_le_to c).Then-setup).0, (within (goal.at.uncount-requires-clause-from_le_to c).Then-setup).1), subst (λ (m : ℕ). Counted m c.args.scan_counts.now (drop c.args.searched.low (window c.args.ring.now.queue.now c.args.ring.now.head c.args.ring.now.len))) (sym a.counted.long) a.counted)

pub newest_fall_short-told-requires-clause-len_bound : goal.newest_fall_short-told-requires-clause-len_bound
newest_fall_short-told-requires-clause-len_bound c =
    let w = within (goal.at.newest_fall_short-told-requires-clause-len_bound c).Then-setup in
    (c.requires.len_nonzero.1, w.0, w.1)

-- as many counts as at first
same : (c : After-newest_fall_short-told) → length c.newest_fall_short-told.new.scan_counts ≡ length c.args.scan_counts.now
same c = c.newest_fall_short-told.auto.scan_counts ∙ c.uncount.auto.scan_counts

pub clear_from-requires-then-setup-clause-from_le_len : goal.clear_from-requires-then-setup-clause-from_le_len
clear_from-requires-then-setup-clause-from_le_len c =
    let w = within (goal.at.clear_from-requires-then-setup-clause-from_le_len c).Then-setup in
    (omega (arith, w.0, w.1), c.newest_fall_short-told.ensures.touched)

pub returns-then-setup : goal.returns-then-setup
returns-then-setup c =
    let a = c.requires.searched_all in
    tells_short _ _ _ _ a _ _ _ c.if-searched-eq0.false c.newest_fall_short-told.ensures (c.clear_from-then-setup.ensures ∙ ap (λ (n : ℕ). replicate n 0) (same (goal.at.returns-then-setup c).After-newest_fall_short-told ∙ a.counted.long))

pub clear_from-requires-2-clause-from_le_len : goal.clear_from-requires-2-clause-from_le_len
clear_from-requires-2-clause-from_le_len c = (omega (arith, c.requires.searched_all.low_in, entries_long c.args.ring.now), counted_touched _ _ _ c.requires.searched_all.counted)

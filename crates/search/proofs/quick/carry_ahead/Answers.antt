use Rattle.std.proofs.Common.{sym, subst, ℕ, ◌<◌, ◌≤◌, arith, drop}
use Rattle.scans.specs.Terms.Counted.{Counted}
use Rattle.scans.specs.Terms.Window.{window}
use Rattle.search.proofs.CarriedFind.{start_in, low_in, newest_in_lem, count_in, carries_ahead}
use Rattle.search.proofs.quick.carry_ahead.Goals as goal
use Rattle.search.proofs.quick.carry_ahead.Goals.{Else-carry-st}

-- the best place lies in the window, and was read
best_in : (c : Else-carry-st) → (c.args.start < c.args.ring.now.len) × (c.args.st.low ≤ c.args.start)
best_in c =
    let p = c.args.setup.now.params in
    let ln = c.args.setup.now.ln.now in
    let f = c.args.setup.now.f.now in
    let n = c.requires.len_nonzero in
    (start_in p _ _ _ ln f _ c.requires.tables_reach n.0 n.2 _ c.requires.scans_quick c.if-st.false c.if-found-eq0.false _ c.if-found-start.false, low_in p _ _ _ ln f _ c.requires.tables_reach n.0 n.2 _ c.requires.scans_quick c.if-st.false c.if-found-eq0.false _ c.if-found-start.false)

pub uncount-requires-clause-from_le_to : goal.uncount-requires-clause-from_le_to
uncount-requires-clause-from_le_to c = ((best_in (goal.at.uncount-requires-clause-from_le_to c).Else-carry-st).1, omega (arith, (best_in (goal.at.uncount-requires-clause-from_le_to c).Else-carry-st).0), subst (λ (m : ℕ). Counted m c.args.scan_counts.now (drop c.args.st.low (window c.args.ring.now.queue.now c.args.ring.now.head c.args.ring.now.len))) (sym c.requires.len_nonzero.2) c.requires.scans_quick.here.counted)

pub overflow_sub-ring : goal.overflow_sub-ring
overflow_sub-ring c = omega (arith, (best_in (goal.at.overflow_sub-ring c).Else-carry-st).0)

pub ahead-requires : goal.ahead-requires
ahead-requires c =
    let p = c.args.setup.now.params in
    let ln = c.args.setup.now.ln.now in
    let f = c.args.setup.now.f.now in
    let n = c.requires.len_nonzero in
    let entry = newest_in_lem p _ _ _ ln f _ c.requires.tables_reach n.0 n.2 _ c.requires.scans_quick c.if-st.false c.if-found-eq0.false _ c.if-found-start.false _ c.newest.ensures in
    let counted = count_in p _ _ _ ln f _ c.requires.tables_reach n.0 n.2 _ c.requires.scans_quick c.if-st.false c.if-found-eq0.false _ c.if-found-start.false _ c.newest.ensures _ c.uncount.ensures in
    (omega (arith, entry, c.uncount.auto.scan_counts), counted _, omega (arith, c.requires.tables_reach.queued.len_in, c.requires.tables_reach.f_long))

pub returns : goal.returns
returns c =
    let n = c.requires.len_nonzero in
    carries_ahead c.args.setup.now.params _ _ _ c.args.setup.now.ln.now c.args.setup.now.f.now _ c.requires.tables_reach n.0 n.2 _ c.requires.scans_quick c.if-st.false c.if-found-eq0.false _ c.if-found-start.false _ c.newest.ensures _ c.uncount.ensures c.args.carry _ n.1 c.requires.carried c.if-carry-st.false c.ahead.ensures

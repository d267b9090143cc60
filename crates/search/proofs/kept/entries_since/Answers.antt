use Rattle.std.proofs.Common.{◌≡◌, sym, ◌∙◌, ◌-◌, arith, get_or}
use Rattle.scans.specs.Terms.Window.{queue}
use Rattle.scans.proofs.Rings.{queue_at, index_at}
use Rattle.search.proofs.Newest.{since_turn}
use Rattle.search.proofs.kept.entries_since.Goals as goal
use Rattle.search.proofs.kept.entries_since.Goals.{After-index}

-- the entry that is looked at
entry : (c : After-index) → get_or (queue c.args.ring.now.queue.now c.args.ring.now.head c.args.ring.now.len) (c.args.ring.now.len - 1 - c.loop-l.l) 0 ≡ get_or c.args.ring.now.queue.now c.index.result 0
entry c =
    let r = c.args.ring.now in
    queue_at _ _ _ _ _ r.head_in r.len_in (omega (arith, c.requires, c.loop-l-test.true)) (index_at _ _ _ _ r.head_in (omega (arith, r.len_in)) c.index.ensures)

pub loop-l-preserved : goal.loop-l-preserved
loop-l-preserved c = since_turn _ _ _ _ (omega (arith, c.requires, c.loop-l-test.true)) c.loop-l.invariant (λ s. c.if-ring-index.false (sym (entry (goal.at.loop-l-preserved c).After-index) ∙ s ∙ sym c.newest-newest.ensures))

use Rattle.std.proofs.Common.{refl, arith}
use Rattle.search.proofs.CertificateRing.{window_asks, next_still, next_fresh, next_repeated}
use Rattle.search.proofs.Certificate.next.Goals as goal

pub window_value-w-requires : goal.window_value-w-requires
window_value-w-requires c =
    let a = c.args in
    window_asks a.setup.now.params a.ring.now.queue.now a.ring.now.head a.ring.now.len a.window_counts.now a.setup.now.ln.now a.scan_counts.now c.requires _ c.newest-entry.ensures

pub returns-then-v : goal.returns-then-v
returns-then-v c =
    let a = c.args in
    next_still a.setup.now.params a.ring.now.queue.now a.ring.now.head a.ring.now.len a.window_counts.now a.setup.now.ln.now a.scan_counts.now c.requires a.self c.if-not-self-ring.false _ c.newest-entry.ensures _ _ c.raised_value-v.ensures c.window_value-w.ensures c.if-v.true c.stepped.ensures

pub returns-in-None : goal.returns-in-None
returns-in-None c =
    let a = c.args in
    next_fresh a.setup.now.params a.ring.now.queue.now a.ring.now.head a.ring.now.len a.window_counts.now a.setup.now.ln.now a.scan_counts.now c.requires a.self c.if-not-self-ring.false _ c.newest-entry.ensures _ _ c.raised_value-v.ensures c.window_value-w.ensures _ c.in-None.ensures.since refl c.stepped-in-None.ensures

pub returns-then-h-n : goal.returns-then-h-n
returns-then-h-n c =
    let a = c.args in
    next_repeated a.setup.now.params a.ring.now.queue.now a.ring.now.head a.ring.now.len a.window_counts.now a.setup.now.ln.now a.scan_counts.now c.requires a.self c.if-not-self-ring.false _ c.newest-entry.ensures _ _ c.raised_value-v.ensures c.window_value-w.ensures _ c.in-Some.ensures.since (λ z. let some = c.in-Some.ensures.some in omega arith) c.if-h-n.true c.stepped-then-h-n.ensures

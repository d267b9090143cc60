use Rattle.std.proofs.Common.{true, false}
use Rattle.scans.specs.Terms.Run.{as_setup, entries_of}
use Rattle.search.specs.Terms.Certified.{CertifiesOn}
use Rattle.search.proofs.CertificateRing.{carries_on}
use Rattle.search.proofs.Carry.next.Goals as goal
use Rattle.search.proofs.Carry.next.Goals.{Joined-self, in-Some, in-None}

-- The certificate goes on, if there is one.
certified : (c : Joined-self) → CertifiesOn (as_setup c.args.setup.now) (entries_of c.args.ring.now) c.args.self.certificate c.match-self.self c.args.scan_counts.now
certified c =
    elim c.match-self.branch [
      | in-Some w ↦ rw (w.self-is, w.in-Some.is) (w.next-self.ensures c.args.setup.now.f.now)
      | in-None w ↦ rw (w.self-is, w.in-None.is) (record { keeps = λ q₀ e j joins n k. tt })
    ]

pub returns-then-self-sl : goal.returns-then-self-sl
returns-then-self-sl c =
    let a = c.args in
    carries_on a.setup.now.params a.ring.now.queue.now a.ring.now.head a.ring.now.len a.window_counts.now a.setup.now.ln.now a.scan_counts.now c.requires.joining _ c.newest.ensures a.setup.now.f.now a.start c.requires.start_lt_len.0 a.self _ (certified (goal.at.returns-then-self-sl c).Joined-self) _ _ c.count_entry-v.ensures true c.if-self-sl.true

pub returns-else-self-sl : goal.returns-else-self-sl
returns-else-self-sl c =
    let a = c.args in
    carries_on a.setup.now.params a.ring.now.queue.now a.ring.now.head a.ring.now.len a.window_counts.now a.setup.now.ln.now a.scan_counts.now c.requires.joining _ c.newest.ensures a.setup.now.f.now a.start c.requires.start_lt_len.0 a.self _ (certified (goal.at.returns-else-self-sl c).Joined-self) _ _ c.count_entry-v.ensures false c.if-self-sl.false

use Rattle.scans.specs.Terms.Run.{entries_of}
use Rattle.certificates.proofs.Certifying.{OlderRead}
use Rattle.certificates.proofs.certify.read_older.Given as goal

abbrev pub invariant-loop-i : goal.invariant-loop-i
invariant-loop-i l = OlderRead l.setup.params (entries_of l.ring) l.setup.ln.now l.setup.f.now l.start l.s l.top l.i l.a l.scan_counts

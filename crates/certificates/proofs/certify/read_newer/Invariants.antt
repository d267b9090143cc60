use Rattle.scans.specs.Terms.Run.{entries_of}
use Rattle.certificates.proofs.Certifying.{NewerRead}
use Rattle.certificates.proofs.certify.read_newer.Given as goal

abbrev pub invariant-loop-i : goal.invariant-loop-i
invariant-loop-i l = NewerRead l.setup.params (entries_of l.ring) l.setup.ln.now l.setup.f.now l.start l.m l.reach l.i l.a l.b l.scan_counts

use Rattle.std.proofs.Common.{arith}
use Rattle.certificates.proofs.Certifying.{older_start, older_end, older_next, older_stop}
use Rattle.certificates.proofs.certify.read_older.Goals as goal

pub loop-i-init : goal.loop-i-init
loop-i-init c =
    let s = c.requires in
    older_start _ _ _ _ _ _ _ s.making _ s.start_lt_len.0 _ s.start_lt_len.1 _ s.start_lt_len.2

pub returns-then-a : goal.returns-then-a
returns-then-a c =
    let s = c.requires in
    older_stop _ _ _ _ _ _ _ s.making _ s.start_lt_len.0 _ s.start_lt_len.1 _ _ _ _ c.loop-i.invariant c.loop-i-test.true _ _ c.read_entry-v.ensures _ c.read-a.ensures c.if-a.true

pub loop-i-preserved : goal.loop-i-preserved
loop-i-preserved c =
    let s = c.requires in
    older_next _ _ _ _ _ _ _ s.making _ s.start_lt_len.0 _ s.start_lt_len.1 _ _ _ _ c.loop-i.invariant c.loop-i-test.true _ _ c.read_entry-v.ensures _ c.read-a.ensures

pub returns : goal.returns
returns c =
    let s = c.requires in
    older_end _ _ _ _ _ _ _ s.making _ s.start_lt_len.0 _ s.start_lt_len.1 _ _ _ _ c.loop-i.invariant (omega (arith, c.loop-i-test.false))

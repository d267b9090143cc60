use Rattle.std.proofs.Common.{refl}
use Rattle.certificates.proofs.Certifying.{newer_start, newer_end, newer_next, newer_stop}
use Rattle.certificates.proofs.certify.read_newer.Goals as goal

pub loop-i-init : goal.loop-i-init
loop-i-init c =
    let s = c.requires in
    newer_start _ _ _ _ _ _ _ s.making _ _ s.start_lt_len.0 s.start_lt_len.1 _ refl s.start_lt_len.2 _ c.new-a.ensures _ c.new-b.ensures

pub loop-i-preserved : goal.loop-i-preserved
loop-i-preserved c =
    let s = c.requires in
    newer_next _ _ _ _ _ _ _ s.making _ _ s.start_lt_len.0 s.start_lt_len.1 _ _ _ _ _ c.loop-i.invariant c.loop-i-test.true _ _ c.read_entry-v.ensures _ c.read-a.ensures _ c.read.ensures _ c.in-Some.is

pub returns-in-None : goal.returns-in-None
returns-in-None c =
    let s = c.requires in
    newer_stop _ _ _ _ _ _ _ s.making _ _ s.start_lt_len.0 s.start_lt_len.1 _ _ _ _ _ c.loop-i.invariant c.loop-i-test.true _ _ c.read_entry-v.ensures _ c.read-a.ensures _ c.read.ensures

pub returns : goal.returns
returns c =
    let s = c.requires in
    newer_end _ _ _ _ _ _ _ s.making _ _ s.start_lt_len.0 s.start_lt_len.1 _ _ _ _ _ c.loop-i.invariant c.loop-i-test.false

use Rattle.certificates.proofs.Certifying.{older_begins, near_in, attempt_start, attempt_made}
use Rattle.certificates.proofs.certify.make_certificate.Goals as goal

pub read_older-older-requires-clause-start_lt_len : goal.read_older-older-requires-clause-start_lt_len
read_older-older-requires-clause-start_lt_len c =
    let s = c.requires in
    (older_begins _ _ _ _ _ _ _ s.making _ _ s.start_lt_len.0 s.start_lt_len.1 _ _ c.read_newer-newer.ensures _ c.in-Some.is _ _ c.read_entry-v.ensures).1

pub certificate-requires : goal.certificate-requires
certificate-requires c =
    let s = c.requires in
    near_in _ _ _ _ _ _ _ s.making _ _ s.start_lt_len.0 s.start_lt_len.1 _ _ c.read_newer-newer.ensures _ c.in-Some.is

pub returns-then-b-s : goal.returns-then-b-s
returns-then-b-s c =
    let s = c.requires in
    attempt_made _ _ _ _ _ _ _ s.making _ _ s.start_lt_len.0 s.start_lt_len.1 _ _ c.read_newer-newer.ensures _ c.in-Some.is _ _ c.read_entry-v.ensures c.if-b-s.true _ _ c.read_older-older.ensures _ c.certificate.ensures

pub returns : goal.returns
returns c =
    let s = c.requires in
    attempt_start _ _ _ _ _ _ _ s.making _ _ s.start_lt_len.0 s.start_lt_len.1 _ _ c.read_newer-newer.ensures _ c.in-Some.is _ _ c.read_entry-v.ensures

use Rattle.certificates.proofs.Certifying.{making_begins, clear_asks}
use Rattle.certificates.proofs.certify.certify.Goals as goal

pub make_certificate-a-requires-clause-making : goal.make_certificate-a-requires-clause-making
make_certificate-a-requires-clause-making c =
    let s = c.requires in
    making_begins _ _ _ _ _ _ _ s.tables_reach s.queue_len.0 _ s.queue_len.1 s.queue_len.2 s.shaped _ c.is_able.ensures c.if-not-is_able.false

pub clear_from-requires-clause-from_le_len : goal.clear_from-requires-clause-from_le_len
clear_from-requires-clause-from_le_len c =
    let s = c.requires in
    (clear_asks _ _ _ _ _ _ _ s.tables_reach s.queue_len.0 _ s.queue_len.1 s.queue_len.2 s.shaped _ _ c.make_certificate-a.ensures).1

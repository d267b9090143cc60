use Rattle.strand.proofs.Foretelling.{asks, told_none, none_carried}
use Rattle.strand.proofs.known.certain.Goals as goal

pub returns-then-not-w-clause-untold : goal.returns-then-not-w-clause-untold
returns-then-not-w-clause-untold c = none_carried c.requires.asking

pub find_certain-requires-clause-start_lt_len : goal.find_certain-requires-clause-start_lt_len
find_certain-requires-clause-start_lt_len c =
    let r = c.ring-ring.ensures in
    rw (r.0, r.1, r.2) (asks c.requires.asking c.if-not-w.false c.last_q_index-from.ensures)

pub returns-clause-untold : goal.returns-clause-untold
returns-clause-untold c =
    let r = c.ring-ring.ensures in
    told_none c.requires.asking c.if-not-w.false c.last_q_index-from.ensures c.find_certain.new.scan_counts c.find_certain.result (rw (r.0, r.1, r.2) at c.find_certain.ensures.untold)

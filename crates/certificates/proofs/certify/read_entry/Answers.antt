use Rattle.std.proofs.Common.{◌/◌, arith, get_or}
use Rattle.certificates.proofs.Certifying.{entry_below, entry_count, entry_counts}
use Rattle.certificates.proofs.certify.read_entry.Goals as goal

pub count_entry-requires : goal.count_entry-requires
count_entry-requires c =
    let r = c.requires.queued in
    let n = entry_count _ _ _ _ r.0 _ r.2 _ c.index-at.ensures _ c.requires.counted (get_or c.args.ring.now.queue.now c.index-at.result 0 / 2) in
    (entry_below _ _ _ _ r.0 _ r.2 _ c.index-at.ensures, omega (arith, n, r.0.len_in, r.0.small), omega (arith, n, r.0.len_in, r.1))

pub returns : goal.returns
returns c =
    let r = c.requires.queued in
    entry_counts _ _ _ _ r.0 _ r.2 _ c.index-at.ensures _ _ _ _ c.count_entry.ensures

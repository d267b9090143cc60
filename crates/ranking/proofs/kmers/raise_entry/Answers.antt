use Rattle.std.proofs.Common.{arith}
use Rattle.letters.proofs.Entries.{plain_even}
use Rattle.ranking.proofs.kmers.raise_entry.Goals as goal

pub overflow_add-count : goal.overflow_add-count
overflow_add-count c =
    let e = c.in-Some.ensures in
    let r = c.requires.room (plain_even c.args.entry c.in-Some.kmer e.place) in
    rw e.kmer (omega (arith, r))

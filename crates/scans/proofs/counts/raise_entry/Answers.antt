use Rattle.std.proofs.Common.{arith}
use Rattle.letters.proofs.Entries.{plain_even}
use Rattle.scans.proofs.counts.raise_entry.Goals as goal

pub overflow_add-c : goal.overflow_add-c
overflow_add-c c =
    let k = c.in_ok-kmer.ensures in
    rw k.kmer (omega (arith, c.requires.1 (plain_even c.args.entry c.in_ok-kmer.kmer k.place)))

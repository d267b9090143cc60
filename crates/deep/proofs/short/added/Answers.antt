use Rattle.std.proofs.Common.{ap, ◌∙◌, arith, get_or, ℕ}
use Rattle.letters.specs.Terms.Entry.{place_of}
use Rattle.letters.proofs.Entries.{plain_even}
use Rattle.deep.proofs.short.added.Goals as goal

pub bounds-counts-kmer : goal.bounds-counts-kmer
bounds-counts-kmer c =
    let even = plain_even c.args.cell.entry c.in-Some.kmer (c.kmer_of.ensures.place ∙ ap place_of c.in-Some.is) in
    omega (arith, c.in-Some.ensures.kmer, c.requires.kmer_counted even)

pub overflow_sub-result : goal.overflow_sub-result
overflow_sub-result c =
    let even = plain_even c.args.cell.entry c.in-Some.kmer (c.kmer_of.ensures.place ∙ ap place_of c.in-Some.is) in
    omega (arith, ap (λ (x : ℕ). get_or c.args.counts.now x 0) c.in-Some.ensures.kmer, (c.requires.within even).1)

pub bounds-scale-counts : goal.bounds-scale-counts
bounds-scale-counts c =
    let even = plain_even c.args.cell.entry c.in-Some.kmer (c.kmer_of.ensures.place ∙ ap place_of c.in-Some.is) in
    omega (arith, ap (λ (x : ℕ). get_or c.args.counts.now x 0) c.in-Some.ensures.kmer, (c.requires.within even).0, c.requires.few, c.requires.narrow.reach)

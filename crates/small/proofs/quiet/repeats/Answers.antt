use Rattle.std.proofs.Common.{rules, arith}
use Rattle.letters.proofs.Rolling.{run_few}
use Rattle.small.proofs.Repeating.{counting_start, counting_end, next_small, next_counted, counting_turn}
use Rattle.small.proofs.quiet.repeats.Goals as goal

pub loop-code-init : goal.loop-code-init
loop-code-init c = rw c.new-newest.ensures (counting_start _ _ _ c.requires.least_bound)

pub next-newest-requires : goal.next-newest-requires
next-newest-requires c = (c.requires.k_bound, omega (arith, run_few _ _ _ _ c.loop-code.invariant.kmer_is, c.loop-code.invariant.inside, c.requires.few))

pub entry-requires : goal.entry-requires
entry-requires c = next_small _ _ _ c.loop-code.invariant c.loop-code-test.true _ c.next-newest.ensures c.requires.k_bound

pub raise_entry-raised-requires : goal.raise_entry-raised-requires
raise_entry-raised-requires c = next_counted _ _ _ c.loop-code.invariant c.loop-code-test.true _ c.next-newest.ensures c.requires.kmers_bound _ c.entry.ensures c.requires.few

pub loop-code-preserved : goal.loop-code-preserved
loop-code-preserved c =
    let E = c.raise_entry-raised.ensures in
    counting_turn _ _ _ c.loop-code.invariant c.loop-code-test.true _ c.next-newest.ensures c.requires.kmers_bound _ c.entry.ensures _ E.counts_after _ E.raised (search rules)

pub returns : goal.returns
returns c = λ e. counting_end _ _ _ c.loop-code.invariant (omega (arith, c.loop-code-test.false))

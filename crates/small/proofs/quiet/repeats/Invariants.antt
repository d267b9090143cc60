use Rattle.small.specs.Terms.Quiet.{Counting}
use Rattle.small.proofs.quiet.repeats.Given as goal

abbrev pub invariant-loop-code : goal.invariant-loop-code
invariant-loop-code l = Counting l.k l.least l.codes l.code-index l.newest l.counts

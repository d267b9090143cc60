use Rattle.std.proofs.Common.{◌≡◌, ◌+◌, ◌∙◌, ap, arith}
use Rattle.letters.specs.Terms.Rolling.{kmer_after}
use Rattle.letters.specs.Terms.Entry.{decode}
use Rattle.letters.proofs.Rolling.{kmer_none, kmer_next, run_few, value_small, entry_below, entry_place}
use Rattle.ranking.specs.Terms.Counting.{cleared_at}
use Rattle.ranking.proofs.Counting.{cleared_none, cleared_more, cleared_known}
use Rattle.ranking.proofs.kmers.clear_counts.Goals as goal
use Rattle.ranking.proofs.kmers.clear_counts.Goals.{After-next-state}

pub loop-i-init : goal.loop-i-init
loop-i-init c =
    record {
      state_is = c.new-state.ensures ∙ kmer_none c.args.k c.args.codes.now;
      cleared = cleared_none c.args.k c.args.codes.now c.args.counts.now c.requires.long;
    }

pub next-state-requires : goal.next-state-requires
next-state-requires c =
    (c.requires.bounds.0, omega (arith, run_few c.args.k c.args.codes.now c.loop-i.i c.loop-i.state c.loop-i.invariant.state_is, c.requires.bounds.1, c.loop-i-test.true))

after : (c : After-next-state) → c.next-state.result ≡ kmer_after c.args.k c.args.codes.now (c.loop-i.i + 1)
after c = kmer_next c.args.k c.args.codes.now c.loop-i.i c.loop-i.state c.loop-i.invariant.state_is c.next-state.result c.loop-i-test.true c.next-state.ensures

pub entry-requires : goal.entry-requires
entry-requires c = value_small c.args.k c.args.codes.now (c.loop-i.i + 1) c.next-state.result (after (goal.at.entry-requires c).After-next-state) c.requires.bounds.0

pub clear_entry-requires : goal.clear_entry-requires
clear_entry-requires c =
    let b = entry_below c.args.k c.args.codes.now (c.loop-i.i + 1) c.next-state.result (after (goal.at.clear_entry-requires c).After-next-state) in
    rw c.entry.ensures (omega (arith, b, c.loop-i.invariant.cleared.long))

pub loop-i-preserved : goal.loop-i-preserved
loop-i-preserved c =
    let s = after (goal.at.loop-i-preserved c).After-next-state in
    record {
      state_is = s;
      cleared = cleared_more c.args.k c.args.codes.now c.loop-i.i c.loop-i.counts c.clear_entry.new.counts c.loop-i.invariant.cleared
          (c.clear_entry.ensures ∙ ap (cleared_at c.loop-i.counts) (ap decode c.entry.ensures ∙ entry_place c.args.k c.args.codes.now c.loop-i.i c.next-state.result s));
    }

pub returns : goal.returns
returns c = cleared_known c.args.k c.args.codes.now c.loop-i.i c.loop-i.counts c.loop-i.invariant.cleared c.loop-i-test.false

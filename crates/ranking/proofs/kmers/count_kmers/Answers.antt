use Rattle.std.proofs.Common.{◌≡◌, ◌+◌, ◌∙◌, ap, max, arith, rules}
use Rattle.letters.specs.Terms.Rolling.{kmer_after}
use Rattle.letters.specs.Terms.Entry.{decode}
use Rattle.letters.specs.Place.{place_at}
use Rattle.letters.proofs.Rolling.{kmer_none, kmer_next, run_few, value_small, entry_below, entry_place}
use Rattle.scans.specs.Counts.{raise}
use Rattle.ranking.specs.Terms.Counting.{raised}
use Rattle.ranking.proofs.Counting.{room, known_more, largest_none, largest_more, largest_end}
use Rattle.ranking.proofs.kmers.count_kmers.Goals as goal
use Rattle.ranking.proofs.kmers.count_kmers.Goals.{After-next-state, After-entry}

pub loop-i-init : goal.loop-i-init
loop-i-init c = record { state_is = c.new-state.ensures ∙ kmer_none c.args.k c.args.codes.now; known = c.requires.known; most_is = largest_none _ }

pub next-state-requires : goal.next-state-requires
next-state-requires c =
    (c.requires.bounds.0, omega (arith, run_few c.args.k c.args.codes.now c.loop-i.i c.loop-i.state c.loop-i.invariant.state_is, c.requires.bounds.1, c.loop-i-test.true))

after : (c : After-next-state) → c.next-state.result ≡ kmer_after c.args.k c.args.codes.now (c.loop-i.i + 1)
after c = kmer_next c.args.k c.args.codes.now c.loop-i.i c.loop-i.state c.loop-i.invariant.state_is c.next-state.result c.loop-i-test.true c.next-state.ensures

pub entry-requires : goal.entry-requires
entry-requires c = value_small c.args.k c.args.codes.now (c.loop-i.i + 1) c.next-state.result (after (goal.at.entry-requires c).After-next-state) c.requires.bounds.0

place : (c : After-entry) → decode c.entry.result ≡ place_at c.args.k c.args.codes.now c.loop-i.i
place c = ap decode c.entry.ensures ∙ entry_place c.args.k c.args.codes.now c.loop-i.i c.next-state.result (after (goal.at.After-entry c).After-next-state)

pub raise_entry-requires-clause-long : goal.raise_entry-requires-clause-long
raise_entry-requires-clause-long c =
    let b = entry_below c.args.k c.args.codes.now (c.loop-i.i + 1) c.next-state.result (after (goal.at.raise_entry-requires-clause-long c).After-next-state) in
    rw c.entry.ensures (omega (arith, b, c.loop-i.invariant.known.long))

pub raise_entry-requires-clause-room : goal.raise_entry-requires-clause-room
raise_entry-requires-clause-room c =
    room c.args.k c.args.codes.now c.loop-i.i c.loop-i-test.true c.loop-i.counts c.loop-i.invariant.known c.entry.result c.requires.bounds.1
    (place (goal.at.raise_entry-requires-clause-room c).After-entry)

pub loop-i-preserved : goal.loop-i-preserved
loop-i-preserved c =
    let k = c.args.k in
    let cs = c.args.codes.now in
    let i = c.loop-i.i in
    let K = c.loop-i.invariant.known in
    let p = place (goal.at.loop-i-preserved c).After-entry in
    let e = c.raise_entry.ensures in
    let m : c.max-most.result ≡ max c.loop-i.most c.raise_entry.result = search rules in
    record {
      state_is = after (goal.at.loop-i-preserved c).After-next-state;
      known = known_more k cs i c.loop-i-test.true c.loop-i.counts K c.raise_entry.new.counts (e.counts_after ∙ ap (raise c.loop-i.counts) p);
      most_is = largest_more k cs i c.loop-i-test.true c.loop-i.counts K c.loop-i.most c.max-most.result c.loop-i.invariant.most_is
          (m ∙ ap (max c.loop-i.most) (e.raised ∙ ap (raised c.loop-i.counts) p));
    }

pub returns : goal.returns
returns c = largest_end c.args.k c.args.codes.now c.loop-i.i c.loop-i.most c.loop-i.invariant.most_is c.loop-i-test.false

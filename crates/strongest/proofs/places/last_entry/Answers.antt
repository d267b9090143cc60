-- After the last letter the state's entry is the last place.
use Rattle.std.proofs.Common.{arith}
use Rattle.strongest.proofs.Backward.{last_place}
use Rattle.strongest.proofs.places.last_entry.Goals as goal

pub returns : goal.returns
returns c =
    let g = c.loop-letter in
    let x = last_place c.args.kmer c.args.letters.now g.letter-index g.state g.auto.letter-index-end c.loop-letter-test.false (omega arith) g.invariant in
    record { place = rw c.entry.ensures x.0; below = rw c.entry.ensures x.1 }

use Rattle.std.proofs.Common.{◌≡◌, subst, ℕ, suc, ◌+◌, ◌-◌, ◌≤◌, ◌<◌, arith, length}
use Rattle.scans.specs.Terms.Run.{entries_of}
use Rattle.scans.proofs.Rings.{entries_long}
use Rattle.scans.proofs.Walk.{queued_below}
use Rattle.deep.proofs.Falling.{Taken, none_taken, all_short}
use Rattle.deep.proofs.Backwards.{entry_counted, few, within, taken}
use Rattle.deep.proofs.Deep.newest_short.Goals as goal
use Rattle.deep.proofs.Deep.newest_short.Goals.{At-loop-read}

inside : (c : At-loop-read) → c.loop-read.read < c.args.middle.low + 1 → c.args.middle.from + c.loop-read.read ≤ c.args.ring.now.len
inside c more = omega (arith, c.requires.inside)

pub loop-read-init : goal.loop-read-init
loop-read-init c = none_taken c.args.scale.now c.requires.narrow.none c.requires.narrow.ln_small (entries_of c.args.ring.now) (length c.args.counts.now) (queued_below c.requires.kmers_counted) c.args.middle.from

pub added-sum-requires-clause-kmer_counted : goal.added-sum-requires-clause-kmer_counted
added-sum-requires-clause-kmer_counted c =
    let r = c.requires in
    entry_counted c.args.scale.now r.narrow c.args.oldest c.args.ring.now c.args.self.now r.held r.window_small c.args.counts.now r.kmers_counted c.args.middle.from r.counted c.loop-read.read c.loop-read.auto.read
    (inside (goal.at.added-sum-requires-clause-kmer_counted c).At-loop-read c.loop-read-test.true)

pub added-sum-requires-clause-few : goal.added-sum-requires-clause-few
added-sum-requires-clause-few c =
    let r = c.requires in
    few c.args.scale.now r.narrow c.args.oldest c.args.ring.now c.args.self.now r.held r.window_small c.args.counts.now r.kmers_counted c.args.middle.from r.counted c.loop-read.read c.loop-read.auto.read
    (inside (goal.at.added-sum-requires-clause-few c).At-loop-read c.loop-read-test.true)

pub added-sum-requires-clause-within : goal.added-sum-requires-clause-within
added-sum-requires-clause-within c =
    let r = c.requires in
    within c.args.scale.now r.narrow c.args.oldest c.args.ring.now c.args.self.now r.held r.window_small c.args.counts.now r.kmers_counted c.args.middle.from r.counted c.loop-read.read c.loop-read.auto.read
    (inside (goal.at.added-sum-requires-clause-within c).At-loop-read c.loop-read-test.true)

pub returns-then-sum-scale : goal.returns-then-sum-scale
returns-then-sum-scale c t =
    let r = c.requires in
    let l = c.loop-read in
    let from = l.auto.read in
    let more = c.loop-read-test.true in
    let same : suc (l.read - 1) ≡ l.read = omega arith in
    let T = taken c.args.scale.now r.narrow c.args.oldest c.args.ring.now c.args.self.now r.held r.window_small c.args.counts.now r.kmers_counted c.args.middle.from r.counted l.read from
    (inside (goal.at.returns-then-sum-scale c).At-loop-read more) l.sum c.added-sum.result l.invariant c.added-sum.ensures in
    all_short c.args.scale.now (entries_of c.args.ring.now) c.args.middle l.read (l.sum + c.added-sum.result)
    (subst (λ (k : ℕ). Taken c.args.scale.now (entries_of c.args.ring.now) c.args.middle.from k (l.sum + c.added-sum.result)) same T) (omega arith) (omega arith) (omega (arith, entries_long c.args.ring.now, r.inside)) c.if-sum-scale.true

pub loop-read-preserved : goal.loop-read-preserved
loop-read-preserved c =
    let r = c.requires in
    let l = c.loop-read in
    let from = l.auto.read in
    let same : suc (l.read - 1) ≡ l.read + 1 - 1 = omega arith in
    subst (λ (k : ℕ). Taken c.args.scale.now (entries_of c.args.ring.now) c.args.middle.from k (l.sum + c.added-sum.result)) same
    (taken c.args.scale.now r.narrow c.args.oldest c.args.ring.now c.args.self.now r.held r.window_small c.args.counts.now r.kmers_counted c.args.middle.from r.counted l.read from
    (inside (goal.at.loop-read-preserved c).At-loop-read c.loop-read-test.true) l.sum c.added-sum.result l.invariant c.added-sum.ensures)

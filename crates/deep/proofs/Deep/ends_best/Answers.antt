use Rattle.std.proofs.Common.{◌≡◌, ap, subst, ℕ, suc, ◌+◌, ◌-◌, ◌≤◌, ◌<◌, arith, length}
use Rattle.scans.specs.Terms.Run.{entries_of}
use Rattle.scans.proofs.Rings.{entries_long}
use Rattle.scans.proofs.Walk.{queued_below}
use Rattle.deep.specs.Scores.{loss}
use Rattle.deep.proofs.Falling.{Taken, none_taken}
use Rattle.deep.proofs.Compared.{EndsTo, ends_none, ends_on, ends_best}
use Rattle.deep.proofs.Backwards.{entry_counted, few, within, taken}
use Rattle.deep.proofs.Deep.ends_best.Goals as goal
use Rattle.deep.proofs.Deep.ends_best.Goals.{Start, At-loop-read}

inside : (c : At-loop-read) → c.loop-read.read < c.args.size → c.args.ring.now.len - c.args.size + c.loop-read.read ≤ c.args.ring.now.len
inside c more = omega (arith, c.requires.inside.1)

at : (c : Start) → c.args.ring.now.len - c.args.size + c.args.size ≡ length (entries_of c.args.ring.now)
at c = omega (arith, c.requires.inside.1, entries_long c.args.ring.now)

pub loop-read-init : goal.loop-read-init
loop-read-init c =
    record {
      taken = none_taken c.args.scale.now c.requires.narrow.none c.requires.narrow.ln_small (entries_of c.args.ring.now) (length c.args.counts.now) (queued_below c.requires.kmers_counted) (c.args.ring.now.len - c.args.size);
      ends = ends_none c.args.scale.now (entries_of c.args.ring.now) (c.args.ring.now.len - c.args.size) c.args.size (at (goal.at.loop-read-init c).Start);
    }

pub added-sum-requires-clause-kmer_counted : goal.added-sum-requires-clause-kmer_counted
added-sum-requires-clause-kmer_counted c =
    let r = c.requires in
    entry_counted c.args.scale.now r.narrow c.args.oldest c.args.ring.now c.args.self.now r.held r.window_small c.args.counts.now r.kmers_counted (c.args.ring.now.len - c.args.size) r.counted c.loop-read.read c.loop-read.auto.read
    (inside (goal.at.added-sum-requires-clause-kmer_counted c).At-loop-read c.loop-read-test.true)

pub added-sum-requires-clause-few : goal.added-sum-requires-clause-few
added-sum-requires-clause-few c =
    let r = c.requires in
    few c.args.scale.now r.narrow c.args.oldest c.args.ring.now c.args.self.now r.held r.window_small c.args.counts.now r.kmers_counted (c.args.ring.now.len - c.args.size) r.counted c.loop-read.read c.loop-read.auto.read
    (inside (goal.at.added-sum-requires-clause-few c).At-loop-read c.loop-read-test.true)

pub added-sum-requires-clause-within : goal.added-sum-requires-clause-within
added-sum-requires-clause-within c =
    let r = c.requires in
    within c.args.scale.now r.narrow c.args.oldest c.args.ring.now c.args.self.now r.held r.window_small c.args.counts.now r.kmers_counted (c.args.ring.now.len - c.args.size) r.counted c.loop-read.read c.loop-read.auto.read
    (inside (goal.at.added-sum-requires-clause-within c).At-loop-read c.loop-read-test.true)

pub loop-read-preserved : goal.loop-read-preserved
loop-read-preserved c =
    let r = c.requires in
    let l = c.loop-read in
    let s = c.args.scale.now in
    let q = entries_of c.args.ring.now in
    let j = c.args.ring.now.len - c.args.size in
    let from = l.auto.read in
    let more = c.loop-read-test.true in
    let here : l.read ≡ suc (l.read - 1) = omega arith in
    let left : c.args.size - l.read ≡ c.args.size - suc (l.read - 1) = omega arith in
    let same : suc (l.read - 1) ≡ l.read + 1 - 1 = omega arith in
    let sum = l.sum + c.added-sum.result in
    let T = taken s r.narrow c.args.oldest c.args.ring.now c.args.self.now r.held r.window_small c.args.counts.now r.kmers_counted j r.counted l.read from (inside (goal.at.loop-read-preserved c).At-loop-read more) l.sum c.added-sum.result l.invariant.taken c.added-sum.ensures in
    let E = ends_on s q j c.args.size (at (goal.at.loop-read-preserved c).Start) (l.read - 1) sum l.invariant.ends T (omega arith)
    (omega (arith, c.if-least-sum.false, c.loss_of-least.ensures.is, c.loss_of.ensures.is, ap (loss s.threshold s.f.now) left)) in
    record { taken = subst (λ (k : ℕ). Taken s q j k sum) same T; ends = subst (λ (k : ℕ). EndsTo s q j c.args.size k) same E }

pub returns : goal.returns
returns c t =
    let l = c.loop-read in
    let s = c.args.scale.now in
    let q = entries_of c.args.ring.now in
    let j = c.args.ring.now.len - c.args.size in
    let test = c.loop-read-test.false in
    let end = l.auto.read-end (omega (arith, c.requires.inside.0)) in
    let all : l.read - 1 ≡ c.args.size - 1 = omega arith in
    ends_best s q j c.args.size (at (goal.at.returns c).Start) (subst (λ (k : ℕ). EndsTo s q j c.args.size k) all l.invariant.ends)

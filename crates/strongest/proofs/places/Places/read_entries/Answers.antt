-- After l turns the last l places are read.
use Rattle.std.proofs.Common.{ℕ, suc, ◌≡◌, ◌+◌, ◌*◌, ◌<◌, ◌≤◌, get_or, refl, subst, arith}
use Rattle.strongest.specs.Terms.Reading.{Reads}
use Rattle.strongest.specs.Terms.Places.{Known}
use Rattle.strongest.proofs.Largest.{largest_at}
use Rattle.strongest.proofs.Reading.{product_small, reads_more}
use Rattle.strongest.proofs.places.Places.read_entries.Goals as goal
use Rattle.strongest.proofs.places.Places.read_entries.Goals.{After-count_back-value}

pub loop-j-init : goal.loop-j-init
loop-j-init c =
    let a = c.args in
    let same : a.start ≡ a.start + 0 = omega arith in
    record {
      known = subst (λ (n : ℕ). Known a.self.now n a.counts.now) same c.requires.known;
      reads = subst (λ (n : ℕ). Reads a.self.now.kmer a.scoring.now.threshold a.scoring.now.ln.now a.scoring.now.f.now a.self.now.letters.now n a.before) same c.requires.reads;
    }

-- T for each place, and with f.
cost : (c : After-count_back-value) → let a = c.args in let n = c.args.start + c.loop-j.j + 1 in
    (n * a.scoring.now.threshold ≤ 4503530907893760) × (n * a.scoring.now.threshold + get_or a.scoring.now.f.now n 0 < 9007199254740992)
cost c =
    let a = c.args in
    let n = c.args.start + c.loop-j.j + 1 in
    let w = c.requires.narrow in
    let p = product_small n a.scoring.now.threshold (omega arith) w.t_small in
    (p, omega (arith, largest_at a.scoring.now.f.now a.self.now.steps n (omega arith) (omega arith), w.f_small))

pub overflow_add-loss : goal.overflow_add-loss
overflow_add-loss c = omega (arith, cost (goal.at.overflow_add-loss c).After-count_back-value)

pub judged-reading-requires-clause-gain_small : goal.judged-reading-requires-clause-gain_small
judged-reading-requires-clause-gain_small c = omega (arith, c.loop-j.invariant.reads.gain_small)

pub judged-reading-requires-clause-value_small : goal.judged-reading-requires-clause-value_small
judged-reading-requires-clause-value_small c = omega (arith, c.count_back-value.ensures.value_small, c.requires.narrow.ln_small)

pub judged-reading-requires-clause-loss_small : goal.judged-reading-requires-clause-loss_small
judged-reading-requires-clause-loss_small c = (cost (goal.at.judged-reading-requires-clause-loss_small c).After-count_back-value).1

pub judged-reading-requires-clause-best_gain_small : goal.judged-reading-requires-clause-best_gain_small
judged-reading-requires-clause-best_gain_small c = omega (arith, c.loop-j.invariant.reads.best_small)

pub judged-reading-requires-clause-best_loss_small : goal.judged-reading-requires-clause-best_loss_small
judged-reading-requires-clause-best_loss_small c = c.loop-j.invariant.reads.loss_small

pub loop-j-preserved : goal.loop-j-preserved
loop-j-preserved c =
    let x = (goal.at.loop-j-preserved c).After-count_back-value in
    let a = c.args in
    let g = c.loop-j in
    let k = c.count_back-value.ensures in
    let l : ℕ = a.start + g.j in
    record {
      known = subst (λ (n : ℕ). Known a.self.now n c.count_back-value.new.counts) (let z : suc l ≡ a.start + (g.j + 1) = omega arith in z) k.counts_are;
      reads = subst (λ (n : ℕ). Reads a.self.now.kmer a.scoring.now.threshold a.scoring.now.ln.now a.scoring.now.f.now a.self.now.letters.now n c.judged-reading.result)
          (let z : a.start + g.j + 1 ≡ a.start + (g.j + 1) = omega arith in z)
          (rw c.judged-reading.ensures
          (reads_more a.self.now.kmer a.scoring.now.threshold a.scoring.now.ln.now a.scoring.now.f.now a.self.now.letters.now l (a.start + g.j + 1) c.count_back-value.result _ g.reading refl g.invariant.reads
          k.value_is (omega (arith, k.value_small, c.requires.narrow.ln_small)) refl (cost x).1));
    }

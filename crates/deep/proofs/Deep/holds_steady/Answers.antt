use Rattle.std.proofs.Common.{◌≡◌, sym, ap, ◌∙◌, subst, ℕ, suc, ◌+◌, ◌-◌, ◌%◌, arith, get_or}
use Rattle.scans.specs.Terms.Run.{entries_of}
use Rattle.scans.proofs.Rings.{entries_long}
use Rattle.deep.specs.Scores.{loss}
use Rattle.deep.specs.Terms.Blocks.{no_cell, worth}
use Rattle.deep.specs.Terms.Found.{Gains, Middling}
use Rattle.deep.proofs.Compared.{Highest, gains_on, highest_none, highest_kept, highest_raised, middling_none, middling_on}
use Rattle.deep.proofs.Deep.holds_steady.Goals as goal
use Rattle.deep.proofs.Deep.holds_steady.Goals.{then-best_gain-loss-2, else-best_gain-loss-2}

pub loop-read-init : goal.loop-read-init
loop-read-init c =
    let s = c.args.scale.now in
    let q = entries_of c.args.ring.now in
    let v = c.args.lead in
    let same : v.low ≡ v.low + 1 - 1 = omega arith in
    record {
      gains = subst (λ (m : ℕ). Gains s q m c.args.newest) same c.requires.newest;
      middling = subst (λ (m : ℕ). Middling s q v m) same (middling_none s q v);
      highest = subst (λ (m : ℕ). Highest s q v m 0 1152921504606846976) same (highest_none s q v);
    }

pub loop-read-preserved : goal.loop-read-preserved
loop-read-preserved c =
    let r = c.requires in
    let l = c.loop-read in
    let s = c.args.scale.now in
    let q = entries_of c.args.ring.now in
    let v = c.args.lead in
    let long = entries_long c.args.ring.now in
    let test = c.loop-read-test.true in
    let from = l.auto.read in
    let inside = r.inside.1 in
    let next : suc (l.read - 1) ≡ l.read + 1 - 1 = omega arith in
    let here : l.read ≡ suc (l.read - 1) = omega arith in
    let slot : c.args.oldest + c.args.ring.now.len - l.read ≡ c.args.oldest + (c.args.ring.now.len - l.read) = omega arith in
    let is = c.gain_of-gain.ensures ∙ ap (λ (i : ℕ). worth s (get_or c.args.self.now.cells.now (i % 8192) no_cell)) slot in
    let g = l.gain + c.gain_of-gain.result in
    let N : Gains s q (suc (l.read - 1)) g =
    subst (λ (x : ℕ). Gains s q (suc (l.read - 1)) (l.gain + x)) (sym is)
    (gains_on s r.narrow c.args.oldest q c.args.self.now.cells.now r.held.ordered (l.read - 1) l.gain (c.args.ring.now.len - l.read) l.invariant.gains (omega arith)) in
    let lost : c.loss_of-loss.result ≡ loss s.threshold s.f.now (suc (l.read - 1)) = c.loss_of-loss.ensures.is ∙ ap (loss s.threshold s.f.now) here in
    let M = middling_on s q v (l.read - 1) g N l.best_gain l.best_loss l.invariant.highest l.invariant.middling (omega (arith, c.if-gain-least.false, c.loss_of-least.ensures.is, lost)) (omega (arith, c.if-best_gain-loss.false, lost)) in
    let H : Highest s q v (suc (l.read - 1)) c.if-best_gain-loss-2.best_gain c.if-best_gain-loss-2.best_loss =
    elim c.if-best_gain-loss-2.branch [
      | then-best_gain-loss-2 w ↦
          rw (w.best_gain-is, w.best_loss-is)
          (subst (λ (x : ℕ). Highest s q v (suc (l.read - 1)) g x) (sym lost)
          (highest_raised s q v (l.read - 1) g N l.best_gain l.best_loss l.invariant.highest (omega (arith, w.if-best_gain-loss-2, lost)) (omega (arith, c.loss_of-loss.ensures.small, lost))))
      | else-best_gain-loss-2 w ↦
          rw (w.best_gain-is, w.best_loss-is)
          (highest_kept s q v (l.read - 1) g N l.best_gain l.best_loss l.invariant.highest (omega (arith, w.if-best_gain-loss-2, lost)))
    ] in
    record {
      gains = subst (λ (m : ℕ). Gains s q m g) next N;
      middling = subst (λ (m : ℕ). Middling s q v m) next M;
      highest = subst (λ (m : ℕ). Highest s q v m c.if-best_gain-loss-2.best_gain c.if-best_gain-loss-2.best_loss) next H;
    }

pub returns : goal.returns
returns c =
    let l = c.loop-read in
    let s = c.args.scale.now in
    let q = entries_of c.args.ring.now in
    let test = c.loop-read-test.false in
    let inside = c.requires.inside.0 in
    let end = l.auto.read-end (omega arith) in
    let all : l.read - 1 ≡ c.args.lead.size - 1 = omega arith in
    (subst (λ (m : ℕ). Gains s q m l.gain) all l.invariant.gains, subst (λ (m : ℕ). Middling s q c.args.lead m) all l.invariant.middling)

use Rattle.std.proofs.Common.{◌≡◌, sym, ap, ◌∙◌, subst, ℕ, suc, ◌+◌, ◌-◌, ◌%◌, arith, get_or}
use Rattle.scans.specs.Terms.Run.{entries_of}
use Rattle.scans.proofs.Rings.{entries_long}
use Rattle.deep.specs.Scores.{loss}
use Rattle.deep.specs.Terms.Blocks.{no_cell, worth}
use Rattle.deep.specs.Terms.Found.{Gains, OlderBelow}
use Rattle.deep.proofs.Compared.{gains_on, older_on, older_none}
use Rattle.deep.proofs.Deep.older_below.Goals as goal

pub loop-read-init : goal.loop-read-init
loop-read-init c =
    let s = c.args.scale.now in
    let q = entries_of c.args.ring.now in
    let same : c.args.lead.size ≡ c.args.lead.size + 1 - 1 = omega arith in
    record {
      gains = subst (λ (m : ℕ). Gains s q m c.args.lead.gain) same c.requires.lead;
      older = subst (λ (m : ℕ). OlderBelow s q c.args.lead m) same (older_none s q c.args.lead);
    }

pub loop-read-preserved : goal.loop-read-preserved
loop-read-preserved c =
    let r = c.requires in
    let l = c.loop-read in
    let s = c.args.scale.now in
    let q = entries_of c.args.ring.now in
    let long = entries_long c.args.ring.now in
    let test = c.loop-read-test.true in
    let from = l.auto.read in
    let next : suc (l.read - 1) ≡ l.read + 1 - 1 = omega arith in
    let here : l.read ≡ suc (l.read - 1) = omega arith in
    let slot : c.args.oldest + c.args.ring.now.len - l.read ≡ c.args.oldest + (c.args.ring.now.len - l.read) = omega arith in
    let is = c.gain_of-gain.ensures ∙ ap (λ (i : ℕ). worth s (get_or c.args.self.now.cells.now (i % 8192) no_cell)) slot in
    let g = l.gain + c.gain_of-gain.result in
    let N : Gains s q (suc (l.read - 1)) g =
    subst (λ (v : ℕ). Gains s q (suc (l.read - 1)) (l.gain + v)) (sym is)
    (gains_on s r.narrow c.args.oldest q c.args.self.now.cells.now r.held.ordered (l.read - 1) l.gain (c.args.ring.now.len - l.read) l.invariant.gains (omega arith)) in
    let O = older_on s q c.args.lead (l.read - 1) g N l.invariant.older (omega (arith, c.if-gain-least.false, c.loss_of-least.ensures.is, c.loss_of.ensures.is, ap (loss s.threshold s.f.now) here)) in
    record {
      gains = subst (λ (m : ℕ). Gains s q m g) next N;
      older = subst (λ (m : ℕ). OlderBelow s q c.args.lead m) next O;
    }

pub returns : goal.returns
returns c t =
    let l = c.loop-read in
    let test = c.loop-read-test.false in
    let end = l.auto.read-end (omega (arith, c.requires.inside)) in
    let all : l.read - 1 ≡ c.args.ring.now.len = omega arith in
    subst (λ (m : ℕ). OlderBelow c.args.scale.now (entries_of c.args.ring.now) c.args.lead m) all l.invariant.older

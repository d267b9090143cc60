use Rattle.std.proofs.Common.{◌≡◌, sym, ap, ◌∙◌, subst, ℕ, suc, ◌+◌, ◌-◌, ◌%◌, arith, get_or}
use Rattle.scans.specs.Terms.Run.{entries_of}
use Rattle.scans.proofs.Rings.{entries_long}
use Rattle.deep.specs.Terms.Blocks.{no_cell, worth}
use Rattle.deep.specs.Terms.Found.{Gains, OlderBelow}
use Rattle.deep.proofs.Compared.{gains_on, leads_at}
use Rattle.deep.proofs.Deep.leads.Goals as goal
use Rattle.deep.proofs.Deep.leads.Goals.{Else-gain-loss_of}

lead : (c : Else-gain-loss_of) → Gains c.args.scale.now (entries_of c.args.ring.now) c.args.lead.size c.args.lead.gain
lead c =
    let r = c.requires in
    let s = c.args.scale.now in
    let q = entries_of c.args.ring.now in
    let v = c.args.lead in
    let long = entries_long c.args.ring.now in
    let low = r.inside.0 in
    let inside = r.inside.1 in
    let here : suc (v.size - 1) ≡ v.size = omega arith in
    let slot : c.args.oldest + c.args.ring.now.len - v.size ≡ c.args.oldest + (c.args.ring.now.len - v.size) = omega arith in
    let is = c.gain_of.ensures ∙ ap (λ (i : ℕ). worth s (get_or c.args.self.now.cells.now (i % 8192) no_cell)) slot in
    let N = gains_on s r.narrow c.args.oldest q c.args.self.now.cells.now r.held.ordered (v.size - 1) c.in-Some-holds_steady.newer (c.args.ring.now.len - v.size) c.in-Some-holds_steady.ensures.0 (omega arith) in
    subst (λ (m : ℕ). Gains s q m v.gain) here (subst (λ (x : ℕ). Gains s q (suc (v.size - 1)) x) (ap (λ (x : ℕ). c.in-Some-holds_steady.newer + x) (sym is) ∙ c.if-gain-lead.false) N)

pub older_below-requires-clause-lead : goal.older_below-requires-clause-lead
older_below-requires-clause-lead c = lead (goal.at.older_below-requires-clause-lead c).Else-gain-loss_of

pub returns : goal.returns
returns c t =
    let r = c.requires in
    let s = c.args.scale.now in
    let q = entries_of c.args.ring.now in
    let v = c.args.lead in
    let long = entries_long c.args.ring.now in
    let low = r.inside.0 in
    let inside = r.inside.1 in
    leads_at s q v (c.args.ring.now.len - v.size) (omega arith) low c.in-Some.ensures.1 c.in-Some-holds_steady.ensures.1
    (lead (goal.at.returns c).Else-gain-loss_of)
    (omega (arith, c.loss_of.ensures.is)) (subst (λ (m : ℕ). OlderBelow s q v m) (sym long) (c.older_below.ensures t))

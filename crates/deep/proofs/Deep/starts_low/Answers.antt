use Rattle.std.proofs.Common.{◌≡◌, ap, ◌∙◌, subst, ℕ, suc, ◌+◌, ◌-◌, ◌%◌, ◌≤◌, arith, get_or}
use Rattle.scans.specs.Terms.Run.{entries_of}
use Rattle.scans.proofs.Rings.{entries_long}
use Rattle.deep.specs.Scores.{loss, mu}
use Rattle.deep.specs.Terms.Blocks.{no_cell, worth}
use Rattle.deep.proofs.Starts.{Newest, low_on}
use Rattle.deep.proofs.Compared.{gains_of}
use Rattle.deep.proofs.Deep.starts_low.Goals as goal

pub loop-read-preserved : goal.loop-read-preserved
loop-read-preserved c =
    let r = c.requires in
    let l = c.loop-read in
    let long = entries_long c.args.ring.now in
    let test = c.loop-read-test.true in
    let from = l.auto.read in
    let next : suc (l.read - 1) ≡ l.read + 1 - 1 = omega arith in
    let here : l.read ≡ suc (l.read - 1) = omega arith in
    let slot : c.args.oldest + c.args.ring.now.len - l.read ≡ c.args.oldest + (c.args.ring.now.len - l.read) = omega (arith, r.inside) in
    let is = c.gain_of-gain.ensures ∙ ap (λ (i : ℕ). worth c.args.scale.now (get_or c.args.self.now.cells.now (i % 8192) no_cell)) slot in
    let low = c.is_low.ensures c.if-not-is_low.false in
    subst (λ (m : ℕ). Newest c.args.scale.now (entries_of c.args.ring.now) m (l.gain + c.gain_of-gain.result)) next
    (low_on c.args.scale.now r.narrow c.args.oldest (entries_of c.args.ring.now) c.args.self.now.cells.now r.held.ordered (l.read - 1) l.gain (c.args.ring.now.len - l.read) l.invariant (omega (arith, r.inside))
    (l.gain + c.gain_of-gain.result) (ap (λ (v : ℕ). l.gain + v) is)
    (subst (λ (m : ℕ). l.gain + c.gain_of-gain.result + mu ≤ loss c.args.scale.now.threshold c.args.scale.now.f.now m) here low))

pub returns : goal.returns
returns c =
    let l = c.loop-read in
    let test = c.loop-read-test.false in
    let end = l.auto.read-end (omega arith) in
    let all : l.read - 1 ≡ c.args.low = omega arith in
    let N : Newest c.args.scale.now (entries_of c.args.ring.now) c.args.low l.gain = subst (λ (m : ℕ). Newest c.args.scale.now (entries_of c.args.ring.now) m l.gain) all l.invariant in
    (gains_of c.args.scale.now (entries_of c.args.ring.now) c.args.low l.gain N, N.low)

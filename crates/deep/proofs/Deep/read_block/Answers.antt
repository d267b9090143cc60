use Rattle.std.proofs.Common.{◌≡◌, ap, ◌∙◌, subst, ℕ, suc, ◌+◌, ◌*◌, ◌-◌, arith, get_or}
use Rattle.deep.specs.Terms.Blocks.{no_cell, worth}
use Rattle.deep.proofs.Bounds.{ReadTo, read_none, read_on, room}
use Rattle.deep.proofs.Deep.read_block.Goals as goal

pub loop-read-init : goal.loop-read-init
loop-read-init c = read_none c.args.scale.now c.args.self.now.cells.now (c.args.k * 64 + 64) (c.args.scale.now.threshold + c.args.phi)

pub next-reading-requires-clause-sum_small : goal.next-reading-requires-clause-sum_small
next-reading-requires-clause-sum_small c =
    let r = c.requires in
    let t = c.loop-read-test.true in
    (room c.args.scale.now r.narrow c.args.self.now.cells.now (c.args.k * 64 + 64) (c.args.scale.now.threshold + c.args.phi) c.loop-read.read c.loop-read.reading.sum c.loop-read.reading.line c.loop-read.reading.top
    c.loop-read.invariant (omega arith) (omega arith) (omega (arith, r.narrow.t_small, r.phi_small))).0

pub next-reading-requires-clause-gain_small : goal.next-reading-requires-clause-gain_small
next-reading-requires-clause-gain_small c =
    omega (arith, c.gain_of.ensures, c.requires.narrow.ln_small (get_or c.args.self.now.cells.now (c.args.k * 64 + (63 - c.loop-read.read)) no_cell).count)

pub next-reading-requires-clause-line_small : goal.next-reading-requires-clause-line_small
next-reading-requires-clause-line_small c =
    let r = c.requires in
    let t = c.loop-read-test.true in
    (room c.args.scale.now r.narrow c.args.self.now.cells.now (c.args.k * 64 + 64) (c.args.scale.now.threshold + c.args.phi) c.loop-read.read c.loop-read.reading.sum c.loop-read.reading.line c.loop-read.reading.top
    c.loop-read.invariant (omega arith) (omega arith) (omega (arith, r.narrow.t_small, r.phi_small))).1

pub loop-read-preserved : goal.loop-read-preserved
loop-read-preserved c =
    let r = c.requires in
    let t = c.loop-read-test.true in
    let n = c.next-reading.ensures in
    let z : c.args.k * 64 + (63 - c.loop-read.read) ≡ c.args.k * 64 + 64 - suc c.loop-read.read = omega arith in
    let next : suc c.loop-read.read ≡ c.loop-read.read + 1 = omega arith in
    subst (λ (m : ℕ). ReadTo c.args.scale.now c.args.self.now.cells.now (c.args.k * 64 + 64) (c.args.scale.now.threshold + c.args.phi) m c.next-reading.result.sum c.next-reading.result.line c.next-reading.result.top) next
    (read_on c.args.scale.now r.narrow c.args.self.now.cells.now (c.args.k * 64 + 64) (c.args.scale.now.threshold + c.args.phi) c.loop-read.read c.loop-read.reading.sum c.loop-read.reading.line c.loop-read.reading.top
    c.loop-read.invariant (omega arith) (omega arith) (omega (arith, r.narrow.t_small, r.phi_small)) _ _ _
    (n.sum ∙ ap (λ (v : ℕ). c.loop-read.reading.sum + v) (c.gain_of.ensures ∙ ap (λ (i : ℕ). worth c.args.scale.now (get_or c.args.self.now.cells.now i no_cell)) z))
    n.line n.top)

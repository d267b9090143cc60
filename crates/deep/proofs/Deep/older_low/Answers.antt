use Rattle.std.proofs.Common.{◌≡◌, ap, ℕ, ◌+◌, ◌-◌, ◌/◌, ◌%◌, arith, length}
use Rattle.scans.specs.Terms.Run.{entries_of}
use Rattle.scans.proofs.Rings.{entries_long}
use Rattle.deep.proofs.Leaving.{held_refined}
use Rattle.deep.proofs.Starts.{low_more, read_more, low_all}
use Rattle.deep.proofs.Deep.older_low.Goals as goal

pub tells_low-requires-clause-gain_small : goal.tells_low-requires-clause-gain_small
tells_low-requires-clause-gain_small c = let t = c.loop-part-test.true in let g = c.loop-part.invariant.0.gain_small in omega (arith, c.requires.window_small)

pub loop-part-preserved : goal.loop-part-preserved
loop-part-preserved c =
    let r = c.requires in
    let p = c.loop-part.part in
    let i = c.loop-part.invariant in
    let test = c.loop-part-test.true in
    let long = entries_long c.args.ring.now in
    let k : ℕ = (c.args.oldest + c.args.ring.now.len - p.read - 1) / 64 % 128 in
    let z : c.args.oldest + c.args.ring.now.len - p.read - 1 ≡ c.args.oldest + (length (entries_of c.args.ring.now) - p.read) - 1 = omega arith in
    let k_is = ap (λ (j : ℕ). j / 64 % 128) z in
    let t = c.tells_low in
    let h = held_refined c.args.scale.now c.args.oldest (entries_of c.args.ring.now) c.loop-part.self t.new.self i.2 t.ensures.cells t.ensures.heads t.ensures.blocked in (
      read_more c.args.scale.now r.narrow c.args.oldest (entries_of c.args.ring.now) t.new.self.cells.now t.new.self.blocks.now h.ordered h.blocked p i.0 (omega arith) k k_is,
      λ d.
          low_more c.args.scale.now r.narrow c.args.oldest (entries_of c.args.ring.now) t.new.self.cells.now t.new.self.blocks.now h.ordered h.blocked p i.0 (omega arith) k k_is
          t.result t.ensures.low c.if-not-tells_low.false d (i.1 d),
      h,
    )

pub returns-clause-low : goal.returns-clause-low
returns-clause-low c =
    let t = c.loop-part-test.false in
    let long = entries_long c.args.ring.now in
    record { told = λ _ d. low_all c.args.scale.now (entries_of c.args.ring.now) c.loop-part.part.read (omega arith) (c.loop-part.invariant.1 d) }

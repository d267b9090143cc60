-- Each letter ends a place, whose entry is written if it is asked for.
use Rattle.std.proofs.Common.{ℕ, List, ◌≡◌, ◌+◌, ◌-◌, ◌≤◌, min, length, set, refl, sym, ap, ◌∙◌, subst, arith}
use Rattle.letters.proofs.Rolling.{kmer_next, value_small}
use Rattle.strongest.proofs.Backward.{part, Written, written_none, written_one, written_other}
use Rattle.strongest.proofs.places.Places.entries_back.Goals as goal
use Rattle.strongest.proofs.places.Places.entries_back.Goals.{then-n-y, else-n-y}

pub loop-y-init : goal.loop-y-init
loop-y-init c =
    let a = c.args in
    written_none a.self.now.kmer a.self.now.letters.now a.i (length a.entries.now) _ a.self.now.kmer_nonzero (omega (arith, c.requires, a.self.now.steps_inside)) (omega (arith, c.min.ensures)) _ _ refl c.new-state.ensures

pub entry-requires : goal.entry-requires
entry-requires c =
    let g = c.loop-y in
    value_small c.args.self.now.kmer _ (g.y + 1) c.next-state.result (kmer_next c.args.self.now.kmer _ g.y g.state g.invariant.state_is c.next-state.result c.loop-y-test.true c.next-state.ensures) c.args.self.now.kmer_small

pub loop-y-preserved : goal.loop-y-preserved
loop-y-preserved c =
    let a = c.args in
    let g = c.loop-y in
    let k = a.self.now.kmer in
    let cs = a.self.now.letters.now in
    let m = length a.entries.now in
    let from : ℕ = length cs - a.i - m - c.min.result in
    let needed : List ℕ = part cs from (length cs - a.i - from) in
    let fits : a.i + m ≤ length cs = omega (arith, c.requires, a.self.now.steps_inside) in
    let from_is : from ≡ length cs - a.i - m - min (k - 1) (length cs - a.i - m) = omega (arith, c.min.ensures) in
    elim c.if-n-y.branch [
      | then-n-y w ↦ subst (λ (l : List ℕ). Written k cs a.i m needed (g.y + 1) c.next-state.result l) (sym (w.entries-is ∙ ap (λ (x : ℕ). set g.entries (length needed - 1 - g.y) x) w.entry.ensures))
          (written_one k cs a.i m from a.self.now.kmer_nonzero fits from_is g.y g.state c.next-state.result g.entries g.invariant c.loop-y-test.true c.next-state.ensures (omega (arith, w.if-n-y.true, g.invariant.long)))
      | else-n-y w ↦ subst (λ (l : List ℕ). Written k cs a.i m needed (g.y + 1) c.next-state.result l) (sym w.entries-is)
          (written_other k cs a.i m from a.self.now.kmer_nonzero fits from_is g.y g.state c.next-state.result g.entries g.invariant c.loop-y-test.true c.next-state.ensures (omega (arith, w.if-n-y.false, g.invariant.long)))
    ]

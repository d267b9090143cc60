-- A tile whose best beats the highest so far takes its place.
use Rattle.std.proofs.Common.{ℕ, ◌<◌, ◌+◌, length, get_or, refl, sym, subst, ◌∙◌, arith}
use Rattle.strongest_list.specs.Terms.Tiles.{Top, no_tile}
use Rattle.strongest_list.proofs.Tiling.{tile_test, top_new, top_keep}
use Rattle.strongest_list.proofs.tiles.top.Goals as goal
use Rattle.strongest_list.proofs.tiles.top.Goals.{then-beats, else-beats}

pub loop-t-preserved : goal.loop-t-preserved
loop-t-preserved c =
    let q = c.args.request.now in
    let ts = c.args.tiles.now in
    let t = c.loop-t.t in
    let r = c.loop-t.best in
    let T = c.loop-t.invariant in
    let z : 0 < (get_or ts t no_tile).size = omega (arith, c.if-tiles-t-eq0.false) in
    let s = T.some c.if-best-n.false in
    let e = tile_test q (get_or ts t no_tile) (get_or ts r no_tile) (c.requires.at t c.loop-t-test.true z) (c.requires.at r (omega (arith, s.0, c.loop-t-test.true)) s.1) in
    elim c.if-beats.branch [
      | then-beats w ↦ subst (λ (n : ℕ). Top q ts (t + 1) (length ts) n) (sym w.best-is) (top_new q ts (length ts) t (t + 1) r refl c.loop-t-test.true z c.if-best-n.false (e ∙ sym c.beats.ensures ∙ w.if-beats.true) T)
      | else-beats w ↦ subst (λ (n : ℕ). Top q ts (t + 1) (length ts) n) (sym w.best-is) (top_keep q ts (length ts) t (t + 1) r refl c.if-best-n.false (e ∙ sym c.beats.ensures ∙ w.if-beats.false) T)
    ]

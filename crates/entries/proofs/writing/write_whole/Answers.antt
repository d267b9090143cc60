use Rattle.std.proofs.Common.{◌≡◌, ℕ, ◌+◌, ◌-◌, List, ◌++◌, length, take, drop, arith, sym, ap, ◌∙◌, subst, take-add, take_all, length-drop, length-take}
use Rattle.std.specs.Io.KnownBytes.{Appends}
use Rattle.std.proofs.KnownBytes.{Appends-trans, Appends-kept}
use Rattle.entries.proofs.writing.write_whole.Goals as goal
use Rattle.entries.proofs.writing.write_whole.Goals.{in-Ok+else-n-eq0, in-Err+else-ne}

-- The first a bytes, and n of those after them.
joined : (a n : ℕ) (xs : List ℕ) → take a xs ++ take n (take (length xs - a) (drop a xs)) ≡ take (a + n) xs
joined a n xs =
    let all : take (length xs - a) (drop a xs) ≡ drop a xs = take_all (length xs - a) (drop a xs) (omega (arith, length-drop a xs)) in
    ap (λ (l : List ℕ). take a xs ++ take n l) all ∙ sym (take-add a n xs)

pub loop-preserved : goal.loop-preserved
loop-preserved g c =
    let I = c.loop.invariant in
    elim c.match-write.branch [
      | in-Ok+else-n-eq0 w ↦ record { within = omega (arith, w.in-Ok.ensures.bound, length-take {A = ℕ}, length-drop {A = ℕ}); front = subst (λ (l : List ℕ). Appends (g.W.Write.contents c.args.out.now) (g.W.Write.contents c.write.new.self) l) (joined c.loop.at w.in-Ok.n c.args.bytes.now ∙ ap (λ (n : ℕ). take n c.args.bytes.now) (sym w.at-is)) (Appends-trans _ _ _ _ _ I.front w.in-Ok.ensures.bytes) }
      | in-Err+else-ne w ↦ record { within = omega arith; front = rw w.at-is (Appends-kept _ _ _ _ I.front w.in-Err.ensures.bytes) }
    ]

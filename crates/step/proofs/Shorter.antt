-- Tables in range: a stretch that a run finds by a scan has no better shorter one from the same first place.
use Rattle.std.proofs.Common.{◌≡◌, sym, ap, ◌∙◌, subst, ℕ, suc, ◌+◌, ◌-◌, pos, arith, Bool, true, false, cond, not, ◌&&◌, List, ◌∷◌, length, drop, length-drop, T}
use Rattle.letters.specs.Place.{Place, plain, Below}
use Rattle.scans.specs.Setup.{Setup, kmers}
use Rattle.scans.specs.Counts.{raise}
use Rattle.scans.specs.Score.{stretch, NoBetterShorter}
use Rattle.scans.specs.Scans.{none, at, Outcome, extends, if_backward, dust_backward}
use Rattle.scans.proofs.Gain.{InRange}
use Rattle.scans.proofs.Shorter.{scan_no_better_shorter}
use Rattle.step.specs.Step.{Run, extend_tried, search, first_letter, run}
use Rattle.step.specs.ScanFind.{looked_from, FoundByScan}
use Rattle.step.proofs.Shape.{first_is}
use Rattle.step.proofs.Placing.{Placed, placed_below, placed_stretch, joined_placed, run_placed}

-- A find without an extension is the backward scan's.
by_scan : (S : Setup) (i : ℕ) (a : Run) (x j : ℕ) → T (not (extend_tried S i a && extends S a.counts (length a.window) x)) → (search S i a x).find ≡ at j → (dust_backward S a.window).find ≡ at j
unfolding search
by_scan S i a x j t e =
    go (extend_tried S i a && extends S a.counts (length a.window) x) (if_backward S a.window) (record { find = at 0; counts = raise a.counts (plain x) }) (dust_backward S a.window) t e
  where
    go : (extended back : Bool) (o r : Outcome) → T (not extended) → (cond extended o (cond back r (record { find = none; counts = a.counts }))).find ≡ at j → r.find ≡ at j
    go true back o r t e = absurd t
    go false true o r t e = e
    go false false o r t e = let z : ◌≡◌ {A = ℕ} 0 1 = cc in absurd (omega arith)

-- The run takes its letters from first - (k - 1) on, or from 0.
pub found_start : (S : Setup) (ps : List Place) (first size : ℕ) (f : FoundByScan S ps first size)
    → first_letter S.kmer (length f.before) (length f.state.window) f.index ≡ pos (first + 1 - S.kmer)
found_start S ps first size f =
    first_is S.kmer (length f.before) (length f.state.window) f.index ∙ ap pos (omega (arith, f.size_is, f.first_is))

pub found_no_better_shorter : (S : Setup) → InRange S → (ps : List Place) → Below (kmers S) ps → (first size : ℕ) → FoundByScan S ps first size → NoBetterShorter S (stretch ps first size)
unfolding looked_from
found_no_better_shorter S R ps B first size f =
    let a : Run = f.state in
    let e : Place = plain f.kmer in
    let q : List Place = a.window in
    let d : List Place = drop f.index q in
    let p : Placed ps (suc S.window_size) (length f.before + 1) q f.after =
    subst (λ (b : Run). Placed ps (suc S.window_size) (length f.before + 1) b.window f.after) (sym f.state_is)
    (joined_placed S R.window_some ps (length f.before) (run S f.before) e f.after (run_placed S R.window_some ps f.before (e ∷ f.after) f.strand)) in
    let ld = length-drop f.index q in
    let from : length p.past + f.index ≡ first = omega (arith, p.placed, f.size_is, f.first_is) in
    let long : length d ≡ size = omega (arith, f.size_is) in
    let cut : stretch ps first size ≡ d = subst (λ (n : ℕ). stretch ps n size ≡ d) from (subst (λ (n : ℕ). stretch ps (length p.past + f.index) n ≡ d) long (placed_stretch q f.after p f.index (omega (arith, f.size_is)))) in
    rw cut (scan_no_better_shorter S R q (placed_below q f.after p (kmers S) B).0 (omega (arith, p.short)) f.index (by_scan S (length f.before) a f.kmer f.index f.not_extended f.found))

-- A strand on which every k-mer stands at fewer than min_start_cnt places is searched from nowhere, and has no interval.
use Rattle.std.proofs.Common.{◌≡◌, refl, sym, ap, ◌∙◌, ℕ, ◌≤◌, ◌<◌, arith, List, [], ◌∷◌, ◌++◌, append-nil, length, leb, negsuc}
use lib.Seq.{append_snoc}
use borrow.Author.Tests.{lt-leb}
use Rattle.letters.specs.Place.{Place, ambiguous, plain}
use Rattle.scans.specs.Setup.{Setup}
use Rattle.scans.specs.Counts.{count}
use Rattle.scans.proofs.Test.{by_test}
use Rattle.scans.proofs.Counting.{count_append}
use Rattle.step.specs.Step.{Run, begin, without_oldest, leave, join, look, run_from, run, intervals_of_places}
use Rattle.step.specs.ScanFind.{looked_from}
use Rattle.step.proofs.Placing.{Placed, joined_placed, run_placed, run_looks}

-- No interval is begun.
record Unfound (a : Run) : Type 0 where
  start : a.start ≡ negsuc 0
  saved : a.saved ≡ []

oldest_unfound : (S : Setup) (a : Run) (q : List Place) → Unfound a → Unfound (without_oldest S a q)
oldest_unfound S a [] u = u
oldest_unfound S a (e ∷ q) u = record { start = u.start; saved = u.saved }

joined_unfound : (S : Setup) (a : Run) (e : Place) → Unfound a → Unfound (join S (leave S a) e)
unfolding join leave
joined_unfound S a e u =
    let left = by_test (λ (b : Run). Unfound b) (leb S.window_size (length a.window)) (without_oldest S a a.window) a (λ _. oldest_unfound S a a.window u) (λ _. u) in
    record { start = left.start; saved = left.saved }

module _ (S : Setup) (some : 0 < S.window_size) (ps : List Place) (few : (x : ℕ) → count x ps < S.min_start_cnt) where
  -- A window stands at no more places of a k-mer than the strand.
  window_few : {i : ℕ} {m : ℕ} (q rest : List Place) → Placed ps m i q rest → (x : ℕ) → count x q ≤ count x ps
  window_few q rest p x =
      omega (arith, ap (λ (l : List Place). count x l) p.parts, count_append x p.past (q ++ rest), count_append x q rest)

  look_passes : (i : ℕ) (a : Run) (e : Place) → ((x : ℕ) → count x a.window ≤ count x ps) → look S i a e ≡ a
  unfolding look
  look_passes i a ambiguous w = refl
  look_passes i a (plain x) w = rw (lt-leb S.min_start_cnt (count x a.window) (omega (arith, w x, few x)))

  run_unfound : (before es : List Place) → before ++ es ≡ ps → Unfound (run S before) → Unfound (run S ps)
  unfolding run_from looked_from
  run_unfound before [] e u = let z : before ≡ ps = sym (append-nil before) ∙ e in rw (← z) u
  run_unfound before (p ∷ es) e u =
      let a : Run = run S before in
      let c : Run = join S (leave S a) p in
      let joined = joined_placed S some ps (length before) a p es (run_placed S some ps before (p ∷ es) e) in
      let same : run S (before ++ p ∷ []) ≡ c = run_looks S before p [] ∙ look_passes (length before) c p (window_few c.window es joined) in
      run_unfound (before ++ p ∷ []) es (append_snoc before p es ∙ e) (rw same (joined_unfound S a p u))

  pub quiet_intervals : intervals_of_places S ps ≡ []
  unfolding intervals_of_places run run_from begin
  quiet_intervals =
      let u = run_unfound [] ps refl (record { start = refl; saved = refl }) in
      rw (u.start, u.saved)

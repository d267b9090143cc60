-- Where no find begins below zero, the run is that of the paper's own rule, which drops an interval that starts there.
use Rattle.std.proofs.Common.{◌≡◌, refl, sym, ap, ◌∙◌, subst, ℕ, ◌+◌, arith, cond, List, [], ◌∷◌, length, T, leb, ℤ, pos, negsuc}
use lib.Signed.{lt_z, le_z}
use lib.Ieee.Fits.{and_l, and_r}
use borrow.Author.Tests.{le-ltb}
use Rattle.letters.specs.Place.{Place, places}
use Rattle.scans.specs.Setup.{Setup}
use Rattle.scans.specs.Scans.{Find, none, at}
use Rattle.scans.proofs.Test.{by_test}
use Rattle.step.specs.Step.{Run, begin, without_oldest, leave, join, st2, whole, start_after, save_from, saved_after, found_by, step, run_from, run, intervals_of_places, intervals_of}
use Rattle.step.specs.Dropping.{start_dropping, found_dropping, step_dropping, run_dropping, intervals_dropping, not_below, none_below_from, none_below, look_by}
use Rattle.step.proofs.Letter.{look_is}

-- There is an end only once there is a start.
abbrev Begun : ℤ → ℤ → Type 0
Begun (pos s) end = Unit {0}
Begun (negsuc s) (pos e) = ⊥
Begun (negsuc s) (negsuc e) = Unit {0}

-- ---- A find.
start_same : (start end : ℤ) (s : ℕ) → Begun start end → start_dropping start end (pos s) ≡ start_after start end (pos s)
start_same (pos a) end s b = rw (le-ltb a 0 (omega arith))
start_same (negsuc a) (pos e) s b = absurd b
start_same (negsuc a) (negsuc e) s b = refl

begun_after : (start end : ℤ) (s n : ℕ) → Begun start end → Begun (start_after start end (pos s)) (pos n)
begun_after (pos a) end s n b =
    by_test (λ (z : ℤ). Begun z (pos n)) (lt_z (pos s) end) (cond (lt_z (pos s) (pos a)) (pos s) (pos a)) (pos s)
    (λ _. by_test (λ (z : ℤ). Begun z (pos n)) (lt_z (pos s) (pos a)) (pos s) (pos a) (λ _. tt) (λ _. tt)) (λ _. tt)
begun_after (negsuc a) (pos e) s n b = absurd b
begun_after (negsuc a) (negsuc e) s n b = tt

raised_same : (z : ℤ) → T (le_z (pos 0) z) → z ≡ pos (whole z)
raised_same (pos s) t = refl
raised_same (negsuc s) t = absurd t

module _ (S : Setup) where
  abbrev BegunAt : Run → Type 0
  BegunAt a = Begun a.start a.end

  module _ (i : ℕ) (a : Run) (counts : List ℕ) where
    by_first : ℕ → ℤ → ℤ → Run
    by_first j start s =
        record { window = a.window; sum = a.sum; counts = counts; start = start; end = pos (i + 1); last_q = pos j; saved = saved_after a.saved a.start a.end s }

    found_same : (f : Find) → BegunAt a → T (not_below S i a f) → found_dropping S i a counts f ≡ found_by S i a counts f
    unfolding found_dropping found_by by_first
    found_same none b t = refl
    found_same (at j) b t =
        let z : ℤ = st2 S.kmer i (length a.window) j in
        ap (λ (s : ℤ). by_first j (start_dropping a.start a.end s) s) (raised_same z t)
        ∙ ap (λ (start : ℤ). by_first j start (pos (whole z))) (start_same a.start a.end (whole z) b)

    found_begun : (f : Find) → BegunAt a → BegunAt (found_by S i a counts f)
    unfolding found_by
    found_begun none b = b
    found_begun (at j) b = begun_after a.start a.end (whole (st2 S.kmer i (length a.window) j)) (i + 1) b

  -- ---- The letters, one by one.
  without_begun : (a : Run) (q : List Place) → BegunAt a → BegunAt (without_oldest S a q)
  without_begun a [] b = b
  without_begun a (e ∷ q) b = b

  entered_begun : (a : Run) (e : Place) → BegunAt a → BegunAt (join S (leave S a) e)
  unfolding leave join
  entered_begun a e b =
      by_test (λ (z : Run). BegunAt z) (leb S.window_size (length a.window)) (without_oldest S a a.window) a (λ _. without_begun a a.window b) (λ _. b)

  module _ (i : ℕ) (a : Run) (e : Place) (b : BegunAt a) where
    abbrev entered : Run
    entered = join S (leave S a) e

    step_is : step S i a e ≡ found_by S i entered (look_by S i entered e).counts (look_by S i entered e).find
    unfolding step
    step_is = look_is S i entered e

    step_same : T (not_below S i entered (look_by S i entered e).find) → step_dropping S i a e ≡ step S i a e
    unfolding step_dropping
    step_same t = found_same i entered (look_by S i entered e).counts (look_by S i entered e).find (entered_begun a e b) t ∙ sym step_is

    step_begun : BegunAt (step S i a e)
    step_begun = subst (λ (z : Run). BegunAt z) (sym step_is) (found_begun i entered (look_by S i entered e).counts (look_by S i entered e).find (entered_begun a e b))

  run_same : (i : ℕ) (a : Run) (es : List Place) → BegunAt a → T (none_below_from S i a es) → run_dropping S i a es ≡ run_from S i a es
  unfolding run_dropping run_from none_below_from
  run_same i a [] b t = refl
  run_same i a (e ∷ es) b t =
      let c : Run = join S (leave S a) e in
      let same = step_same i a e b (and_l (not_below S i c (look_by S i c e).find) (none_below_from S (i + 1) (step_dropping S i a e) es) t) in
      let rest : T (none_below_from S (i + 1) (step S i a e) es) =
      subst (λ (z : Run). T (none_below_from S (i + 1) z es)) same (and_r (not_below S i c (look_by S i c e).find) (none_below_from S (i + 1) (step_dropping S i a e) es) t) in
      ap (λ (z : Run). run_dropping S (i + 1) z es) same ∙ run_same (i + 1) (step S i a e) es (step_begun i a e b) rest

  begin_begun : BegunAt (begin S)
  unfolding begin
  begin_begun = tt

  -- A run in which no find begins below zero has the same intervals by the paper's own rule.
  pub same_by_dropping : (codes : List ℕ) → T (none_below S codes) → intervals_of S codes ≡ intervals_dropping S codes
  unfolding intervals_of intervals_of_places run intervals_dropping none_below
  same_by_dropping codes t = ap (λ (a : Run). save_from a.saved a.start a.end) (sym (run_same 0 (begin S) (places S.kmer codes) begin_begun t))

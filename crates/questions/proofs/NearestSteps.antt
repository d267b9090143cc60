-- The steps of `nearest_interval`: each of its answers, read off a slice.
use Rattle.std.proofs.Common.{ℕ, ◌+◌, ◌-◌, ◌≤◌, ◌<◌, ◌≡◌, refl, sym, ap, ◌∙◌, List, [], ◌∷◌, arith, length, get_or}
use Rattle.intervals.specs.declared.Interval.{Interval}
use Rattle.intervals.specs.Interval.{interval}
use Rattle.questions.specs.Answers.{answer, none, nearest}
use Rattle.questions.specs.Usual.{UsualKind}
use Rattle.questions.specs.Promised.{distance}
use Rattle.questions.specs.Terms.Found.{first_past, IsFirstPast}
use Rattle.questions.proofs.Searching.{of_test, past_yes}
use Rattle.questions.proofs.Nearest.{left_distance, right_distance, nearest_is, left_nearest, right_nearest}

pub no_interval : (ps : List Interval) (x : ℕ) → length ps ≡ 0 → none ≡ nearest x ps
unfolding nearest
no_interval [] x h = refl
no_interval (p ∷ ps) x h = absurd (let b : ⊥ = omega arith in b)

module _ (ps : List Interval) (x : ℕ) (u : UsualKind ps) {j : ℕ} (f : IsFirstPast ps x j) where
  abbrev start_at : ℕ → ℕ
  start_at k = (get_or ps k (interval 0 0)).start

  abbrev end_at : ℕ → ℕ
  end_at k = (get_or ps k (interval 0 0)).end

  -- The interval at j, and the one before it.
  pub end_before : 0 < j → end_at (j - 1) ≤ x
  end_before h =
      let e = f.index in
      past_yes ps x u (j - 1) (omega arith)

  distance_before : 0 < j → distance x ps (j - 1) ≡ x - end_at (j - 1)
  distance_before h =
      left_distance ps x u (j - 1) (omega (arith, f.index)) (omega (arith, f.index, f.inside))

  distance_at : j < length ps → distance x ps j ≡ start_at j - (x + 1)
  distance_at h =
      right_distance ps x u j (omega (arith, f.index)) (omega (arith))

  before : 0 < j → (first_past ps x < length ps → distance x ps (j - 1) ≤ distance x ps (first_past ps x))
      → answer (j - 1) (x - end_at (j - 1)) ≡ nearest x ps
  before h l =
      sym
      (nearest_is x ps (j - 1) (left_nearest ps x u (j - 1) (omega (arith, f.index)) l)
      ∙ ap (λ (d : ℕ). answer (j - 1) d) (distance_before h))

  -- The one before is answered where it is the last, or no further than the one at j.
  pub nearest_last : 0 < j → j ≡ length ps → answer (j - 1) (x - end_at (j - 1)) ≡ nearest x ps
  nearest_last h l = before h (λ m. absurd (omega (arith, f.index)))

  pub nearest_left : 0 < j → j < length ps → {g : ℕ} → g ≡ start_at j - (x + 1) → x - end_at (j - 1) ≤ g
      → answer (j - 1) (x - end_at (j - 1)) ≡ nearest x ps
  nearest_left h m e l = before h (λ _. rw (sym f.index) (omega (arith, distance_before h, distance_at m)))

  pub nearest_right : j < length ps → {g : ℕ} → g ≡ start_at j - (x + 1) → (0 < j → g < x - end_at (j - 1)) → answer j g ≡ nearest x ps
  nearest_right h {g} e l =
      sym
      (nearest_is x ps j
      (rw f.index (right_nearest ps x u (omega (arith, f.index))
      (λ k q. rw (sym f.index) (let p : 0 < j = omega (arith, f.index) in let k' : k ≡ j - 1 = omega (arith, f.index) in rw k' (omega (arith, distance_before p, distance_at h, l p))))))
      ∙ ap (λ (d : ℕ). answer j d) (distance_at h ∙ sym e))

  pub nearest_first : j ≡ 0 → 0 < length ps → {g : ℕ} → g ≡ start_at 0 - (x + 1) → answer 0 g ≡ nearest x ps
  nearest_first z h {g} e =
      ap (λ (k : ℕ). answer k g) (sym z)
      ∙ nearest_right (omega arith) (e ∙ ap (λ (k : ℕ). start_at k - (x + 1)) (sym z)) (λ l. absurd (omega arith))

pub ruleset of_nearest = (of_test, no_interval, end_before, nearest_first, nearest_last, nearest_left, nearest_right)

-- The indices of the intervals that pass a test, where those that pass stand together.
use Rattle.std.proofs.Common.{ℕ, zero, suc, ◌+◌, ◌≤◌, ◌<◌, ◌≡◌, refl, sym, ap, ap₂, ◌∙◌, Bool, true, false, cond, List, [], ◌∷◌, ◌++◌, ◌⊎◌, inl, inr, ⊎_elim, ◌↔◌, arith, length, take, drop, take-append-drop, length-drop, length-take-le, get_or-take, get_or-drop}
use Rattle.buffers.specs.Fill.{tabulate_from}
use Rattle.intervals.specs.declared.Interval.{Interval}
use Rattle.intervals.specs.Interval.{interval}
use Rattle.questions.specs.Answers.{indices}
use Rattle.questions.specs.Promised.{consecutive}
use Rattle.questions.proofs.Ordered.{at}

module _ (p : Interval → Bool) where
  -- The tests passed are those at f, f + 1 .. f + m - 1.
  abbrev pub Passed : List Interval → ℕ → ℕ → Type 0
  Passed is f m = (k : ℕ) → k < length is → (p (at is k) ≡ true) ↔ ((f ≤ k) × (k < f + m))

  yes : (j : ℕ) (i : Interval) (is : List Interval) → p i ≡ true → indices p j (i ∷ is) ≡ j ∷ indices p (suc j) is
  unfolding indices
  yes j i is e = rw e

  no : (j : ℕ) (i : Interval) (is : List Interval) → (p i ≡ true → ⊥) → indices p j (i ∷ is) ≡ indices p (suc j) is
  unfolding indices
  no j i is e = go (p i) e
    where
      go : (b : Bool) → (b ≡ true → ⊥) → cond b (j ∷ indices p (suc j) is) (indices p (suc j) is) ≡ indices p (suc j) is
      go true h = absurd (h refl)
      go false h = refl

  indices_run : (is : List Interval) (j f m : ℕ) → f + m ≤ length is → Passed is f m → indices p j is ≡ consecutive (j + f) m
  unfolding tabulate_from indices
  indices_run [] j f zero h g = refl
  indices_run [] j f (suc m) h g = absurd (let b : ⊥ = omega arith in b)
  indices_run (i ∷ is) j zero zero h g =
      no j i is (λ e. let z = (g 0 (omega arith)).0 e in let b : ⊥ = omega arith in b)
      ∙ indices_run is (suc j) 0 0 (omega arith) (λ k l. (
        (λ e. let z = (g (suc k) (omega arith)).0 e in absurd (let b : ⊥ = omega arith in b)),
        (λ e. absurd (let b : ⊥ = omega arith in b)),
      ))
  indices_run (i ∷ is) j zero (suc m) h g =
      yes j i is ((g 0 (omega arith)).1 (omega arith))
      ∙ ap₂ (λ (x : ℕ) (l : List ℕ). x ∷ l) (let e : j ≡ j + 0 = omega arith in e)
      (indices_run is (suc j) 0 m (omega arith) (λ k l. (
        (λ e. let z = (g (suc k) (omega arith)).0 e in (omega arith, omega arith)),
        (λ e. (g (suc k) (omega arith)).1 (omega arith, omega arith)),
      ))
      ∙ ap (λ (x : ℕ). consecutive x m) (let e : suc j + 0 ≡ suc (j + 0) = omega arith in e))
  indices_run (i ∷ is) j (suc f) m h g =
      no j i is (λ e. let z = (g 0 (omega arith)).0 e in let b : ⊥ = omega arith in b)
      ∙ indices_run is (suc j) f m (omega arith) (λ k l. (
        (λ e. let z = (g (suc k) (omega arith)).0 e in (omega arith, omega arith)),
        (λ e. (g (suc k) (omega arith)).1 (omega arith, omega arith)),
      ))
      ∙ ap (λ (x : ℕ). consecutive x m) (let e : suc j + f ≡ j + suc f = omega arith in e)

  -- First index and how many name them all.
  pub indices_are : (is : List Interval) (f m : ℕ) → f + m ≤ length is → Passed is f m → indices p 0 is ≡ consecutive f m
  indices_are is f m h g = indices_run is 0 f m h g ∙ ap (λ (x : ℕ). consecutive x m) (let e : 0 + f ≡ f = omega arith in e)

  indices_append : (is js : List Interval) (j : ℕ) → indices p j (is ++ js) ≡ indices p j is ++ indices p (j + length is) js
  unfolding indices
  indices_append [] js j = ap (λ (k : ℕ). indices p k js) (let e : j ≡ j + 0 = omega arith in e)
  indices_append (i ∷ is) js j =
      go (p i) (indices_append is js (suc j) ∙ ap (λ (k : ℕ). indices p (suc j) is ++ indices p k js) (let e : suc j + length is ≡ j + suc (length is) = omega arith in e))
    where
      go : (b : Bool) → indices p (suc j) (is ++ js) ≡ indices p (suc j) is ++ indices p (j + suc (length is)) js
          → cond b (j ∷ indices p (suc j) (is ++ js)) (indices p (suc j) (is ++ js))
          ≡ cond b (j ∷ indices p (suc j) is) (indices p (suc j) is) ++ indices p (j + suc (length is)) js
      go true e = ap (λ (l : List ℕ). j ∷ l) e
      go false e = e

  -- One at f and one at g.
  pub indices_two : (is : List Interval) (f g : ℕ) → f < g → g < length is
      → ((k : ℕ) → k < length is → (p (at is k) ≡ true) ↔ ((k ≡ f) ⊎ (k ≡ g))) → indices p 0 is ≡ f ∷ g ∷ []
  unfolding tabulate_from
  indices_two is f g h l t =
      ap (λ (js : List Interval). indices p 0 js) (sym (take-append-drop g is))
      ∙ indices_append (take g is) (drop g is) 0
      ∙ ap₂ (λ (js ks : List ℕ). js ++ ks)
      (indices_run (take g is) 0 f 1 (omega (arith, long)) front)
      (indices_run (drop g is) (0 + length (take g is)) 0 1 (omega (arith, length-drop g is)) back)
      ∙ ap₂ (λ (x y : ℕ). x ∷ y ∷ []) (let e : 0 + f ≡ f = omega arith in e)
      (let e : (0 + length (take g is)) + 0 ≡ g = omega (arith, long) in e)
    where
      long : length (take g is) ≡ g
      long = length-take-le g is (omega arith)

      front : Passed (take g is) f 1
      front k m =
          rw (get_or-take g is k (interval 0 0) (let e = long in omega arith))
          (let v = t k (omega (arith, long)) in (
            (λ e. ⊎_elim (λ q. (omega arith, omega arith)) (λ q. absurd (let z = long in omega arith)) (v.0 e)),
            (λ e. v.1 (inl (omega arith))),
          ))

      back : Passed (drop g is) 0 1
      back k m =
          rw (get_or-drop g is k (interval 0 0))
          (let v = t (g + k) (omega (arith, length-drop g is)) in (
            (λ e. ⊎_elim (λ q. absurd (omega arith)) (λ q. (omega arith, omega arith)) (v.0 e)),
            (λ e. v.1 (inr (omega arith))),
          ))

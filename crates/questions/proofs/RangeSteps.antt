-- The steps of `first_from`, `intervals_within` and `intervals_partly`: each of their answers.
use Rattle.std.proofs.Common.{ℕ, ◌-◌, ◌≤◌, ◌<◌, ◌≡◌, sym, ap, ap₂, ◌∙◌, List, [], ◌∷◌, inl, inr, arith}
use Rattle.intervals.specs.declared.Interval.{Interval}
use Rattle.questions.specs.Answers.{answer, none, first_and_count, all_that, within, partly}
use Rattle.questions.specs.Usual.{UsualKind}
use Rattle.questions.specs.Promised.{consecutive}
use Rattle.questions.specs.Terms.Found.{first_past, first_from}
use Rattle.questions.proofs.Searching.{of_test}
use Rattle.questions.proofs.Ranges.{within_run, partly_left, partly_right, partly_none, partly_two, run_some, run_none}

module _ (ps : List Interval) (u : UsualKind ps) where
  abbrev is : List Interval
  is = ps

  module _ (a b : ℕ) where
    module _ {f p : ℕ} (q : f ≡ first_from is a) (r : p ≡ first_past is b) where
      pub within_some : f < p → answer f (p - f) ≡ all_that (within a b) is
      within_some h =
          sym
          (ap first_and_count (within_run is u a b ∙ ap₂ (λ (g m : ℕ). consecutive g (m - g)) (sym q) (sym r))
          ∙ run_some f (p - f) (omega arith))

      pub within_none : p ≤ f → none ≡ all_that (within a b) is
      within_none h =
          sym
          (ap first_and_count (within_run is u a b ∙ ap₂ (λ (g m : ℕ). consecutive g (m - g)) (sym q) (sym r))
          ∙ run_none f (p - f) (omega arith))

    module _ (h : a < b) {l r : ℕ} (p : l ≡ first_past is a) (q : r ≡ first_past is b) {f : ℕ} (s : f ≡ first_from is a) where
      -- Only the one over a; in the first law it is over b too, or ends before.
      pub over_left : l < f → r ≤ l → answer l 1 ≡ all_that (partly a b) is
      over_left m n =
          sym
          (ap first_and_count (partly_left is u a b h (omega arith) (inl (omega arith)) ∙ ap (λ (k : ℕ). consecutive k 1) (sym p))
          ∙ run_some l 1 (omega arith))

      module _ {g : ℕ} (t : g ≡ first_from is b) where
        pub over_left_only : l < f → g ≤ r → answer l 1 ≡ all_that (partly a b) is
        over_left_only m n =
            sym
            (ap first_and_count (partly_left is u a b h (omega arith) (inr (omega arith)) ∙ ap (λ (k : ℕ). consecutive k 1) (sym p))
            ∙ run_some l 1 (omega arith))

        pub over_two : l < f → l < r → r < g → answer l 2 ≡ all_that (partly a b) is
        over_two m n o =
            sym
            (ap first_and_count
            (partly_two is u a b h (omega arith) (omega arith) (omega arith) ∙ ap₂ (λ (j k : ℕ). j ∷ k ∷ []) (sym p) (sym q)))

        pub over_right : f ≤ l → r < g → answer r 1 ≡ all_that (partly a b) is
        over_right m n =
            sym
            (ap first_and_count (partly_right is u a b h (omega arith) (omega arith) ∙ ap (λ (k : ℕ). consecutive k 1) (sym q))
            ∙ run_some r 1 (omega arith))

        pub over_none : f ≤ l → g ≤ r → none ≡ all_that (partly a b) is
        over_none m n = sym (ap first_and_count (partly_none is u a b h (omega arith) (omega arith)) ∙ run_none 0 0 (omega arith))

pub ruleset of_within = (of_test, within_some, within_none)

pub ruleset of_partly = (of_test, over_left, over_left_only, over_two, over_right, over_none)

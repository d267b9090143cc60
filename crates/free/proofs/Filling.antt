-- A list of stretches that grows letter by letter; the last one is not in it yet.
use Rattle.std.proofs.Common.{◌≡◌, ℕ, ◌+◌, ◌≤◌, ◌<◌, Bool, true, false, List, [], ◌∷◌, ◌++◌, length, refl, sym, ap, ◌∙◌, arith, append-nil}
use Rattle.intervals.specs.declared.Interval.{Interval}
use Rattle.intervals.specs.Merge.{nonempty}
use Rattle.intervals.specs.Terms.Bounds.{EndsBelow}
use Rattle.intervals.proofs.Joining.{nonempty_some, nonempty_none}
use Rattle.join.specs.Stretches.{stretches}
use Rattle.join.proofs.Stretches.{ascending_ends, stretches_canonical, stretches_none, stretches_grow}
use Rattle.free.specs.Terms.Letters.{at}

-- Of the first i letters, none from `end` on has a yes.
pub record Filled (map : List Bool) (done : List Interval) (start end i : ℕ) : Type 0 where
  pub ordered : (start ≤ end) × (end ≤ i)
  pub below : EndsBelow start done
  pub stretches_are : done ++ nonempty start end ≡ stretches (at map) end
  pub none_since : (x : ℕ) → end ≤ x → x < i → at map x ≡ false

pub filled_none : (map : List Bool) → Filled map [] 0 0 0
unfolding stretches
filled_none map =
    record {
      ordered = (omega arith, omega arith);
      below = tt;
      stretches_are = nonempty_none 0 0 (omega arith);
      none_since = λ x h l. absurd (let z : ⊥ = omega arith in z);
    }

module _ (map : List Bool) (done : List Interval) (start end i : ℕ) (F : Filled map done start end i) where
  here : (hit : at map i ≡ true) (s : ℕ) (xs : List Interval) → s ≤ i → EndsBelow s xs → xs ++ nonempty s i ≡ stretches (at map) i → Filled map xs s (i + 1) (i + 1)
  here hit s xs h b e =
      record {
        ordered = (omega arith, omega arith);
        below = b;
        stretches_are = stretches_grow (at map) i (i + 1) s xs h (omega arith) b e (λ x l m. let q : x ≡ i = omega arith in ap (at map) q ∙ hit);
        none_since = λ x l m. absurd (let z : ⊥ = omega arith in z);
      }

  so_far : stretches (at map) i ≡ stretches (at map) end
  so_far = stretches_none (at map) end i F.ordered.1 (λ x l m. F.none_since x l m)

  -- The last stretch grows.
  pub filled_grow : end ≡ i → at map i ≡ true → Filled map done start (i + 1) (i + 1)
  filled_grow e hit = here hit start done (omega (arith, F.ordered)) F.below (rw (← e) F.stretches_are)

  -- A stretch begins.
  pub filled_gap : (xs : List Interval) → end < i → xs ≡ done ++ nonempty start end → at map i ≡ true → Filled map xs i (i + 1) (i + 1)
  filled_gap xs h e hit =
      let same : xs ≡ stretches (at map) end = e ∙ F.stretches_are in
      here hit i xs (omega arith)
      (rw same (ascending_ends end 1 0 i (stretches (at map) end) h (stretches_canonical (at map) end)))
      (ap (λ (ys : List Interval). xs ++ ys) (nonempty_none i i (omega arith)) ∙ append-nil xs ∙ same ∙ sym so_far)

  pub filled_all : (xs : List Interval) → i ≡ length map → xs ≡ done ++ nonempty start end → xs ≡ stretches (at map) (length map)
  filled_all xs e q = q ∙ F.stretches_are ∙ sym so_far ∙ ap (stretches (at map)) e

-- What the scans of the paper, 'Step and scans', judge: the float score of places in the order they are read, and each scan as a function of these scores alone.
-- The bound against the exact score is stated of them.
use Rattle.std.specs.Prelude.{ℕ, zero, suc, ◌+◌, ◌*◌, ◌≤◌, cond, List, [], ◌∷◌, length, ℤ, nat_abs, ◌-ℤ◌, Float}
use Rattle.std.specs.Float.{binary64}
use Rattle.std.specs.Float.Ieee.{le, lt}
use Rattle.floats.specs.Value.{Finite}
use Rattle.floats.specs.Arithmetic.{◌⊕◌, ◌⊖◌}
use Rattle.floats.specs.Binary64.{zero64, one, value64}
use Rattle.letters.specs.Place.{Place}
use Rattle.scans.specs.Setup.{Setup, f_at}
use Rattle.scans.specs.Counts.{raise, cleared}
use Rattle.scans.specs.Scans.{value, second_value, ForwardSums, Candidate, BackwardSums, noted, is_dropped, backward_judged, Backward}

-- ---- The scores.
-- The sum of (value - t) over places in the order read, from the sum s on; a place's value goes by the counts of the places read before it.
unfoldable pub sum_over_of : (List ℕ → Place → Float) → Float → Float → List ℕ → List Place → Float
sum_over_of v t s counts [] = s
sum_over_of v t s counts (e ∷ es) = sum_over_of v t (s ⊕ (v counts e ⊖ t)) (raise counts e) es

-- The score after L places: their sum less f entry L. The exact one is `score`.
unfoldable pub float_score : Setup → List Place → Float
float_score S es = sum_over_of (value S) S.score_threshold zero64 (cleared S) es ⊖ f_at S (length es)

-- The same of the backward scan's second sum, in the window q.
unfoldable pub second_score : Setup → List Place → List Place → Float
second_score S q es = sum_over_of (λ (counts : List ℕ) (e : Place). second_value S q (raise counts e) e) S.score_threshold zero64 (cleared S) es ⊖ f_at S (length es)

-- ---- The forward scan from index j, if its score after L places is x L: m places are left, and the next is the l-th.
-- The best score, and one past the index that had it (0: none).
pub record Best : Type 0 where
  pub best : Float
  pub found : ℕ

abbrev pub best_held : ForwardSums → Best
best_held a = record { best = a.best; found = a.found }

abbrev pub better : Best → Float → ℕ → Best
better b x found = cond (le b.best x) (record { best = x; found = found }) b

unfoldable pub forward_over : Float → (ℕ → Float) → ℕ → ℕ → ℕ → Best → Best
forward_over limit x j zero l b = b
forward_over limit x j (suc m) l b =
    let b' : Best = better b (x l) (j + l) in
    cond (lt limit (x l)) b' (forward_over limit x j m (l + 1) b')

-- ---- The backward scan, if its score after L places is x L and that of its second sum y L: i entries are left, and the next is the l-th of the scan.
-- Of the sums in the state nothing is read.
pub record Peaks : Type 0 where
  pub best : Float
  pub found : ℕ
  pub candidates : List Candidate

abbrev pub peaks_of : Backward → Peaks
peaks_of b = record { best = b.best; found = b.found; candidates = b.candidates }

unfoldable pub backward_over : Setup → (ℕ → Float) → (ℕ → Float) → ℕ → ℕ → BackwardSums → List Candidate → Peaks
backward_over S x y zero l a cs = record { best = a.best; found = a.found; candidates = cs }
backward_over S x y (suc i) l a cs =
    let a' : BackwardSums = backward_judged a a.s a.sw (x l) i in
    let cs' : List Candidate = noted a (x l) i cs in
    cond (lt (y l) zero64) (record { best = a.best; found = a.found; candidates = cs })
    (cond (is_dropped S a (x l)) (record { best = a'.best; found = a'.found; candidates = cs' }) (backward_over S x y i (l + 1) a' cs'))

-- ---- The float x is a number, and within n / 2^33 of z, a number of units of 2^-1074.
pub record Close (n : ℕ) (x : Float) (z : ℤ) : Type 0 where
  pub number : Finite binary64 x
  pub close : nat_abs (value64 x -ℤ z) * 8589934592 ≤ n * one

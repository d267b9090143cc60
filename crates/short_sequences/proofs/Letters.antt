-- How many letters a mask covers: the letters of its intervals, one after the other.
use Rattle.std.proofs.Common.{ℕ, zero, suc, ◌+◌, ◌-◌, ◌≤◌, ◌<◌, ◌≡◌, sym, ap, subst, ◌∙◌, List, [], ◌∷◌, add-one, arith, length, drop, get_or, drop_of_length-le, drop-cons}
use Rattle.intervals.specs.declared.Interval.{Interval}
use Rattle.intervals.specs.Interval.{interval, covered_in, Ascending, Canonical}
use Rattle.intervals.proofs.Counted.{covered_none, covered_at_most}
use Rattle.intervals.proofs.Lengths.{covered_first}

ascending_drop : (n k lo : ℕ) (is : List Interval) (i : ℕ) → Ascending n k lo is → (lo' : ℕ) × Ascending n k lo' (drop i is)
ascending_drop n k lo is zero u = (lo, u)
ascending_drop n k lo [] (suc i) u = (lo, tt)
ascending_drop n k lo (j ∷ is) (suc i) u = ascending_drop n k (j.end + 1) is i u.3

-- A loop over a mask in a slice ps, which adds interval i's letters in its turn.
pub record Counting (n : ℕ) (ps : List Interval) (i letters : ℕ) : Type 0 where
  pub within : i ≤ length ps
  pub rest : letters + covered_in (drop i ps) 0 n ≡ covered_in ps 0 n

module _ {n : ℕ} {ps : List Interval} where
  module _ (u : Canonical n 1 ps) {i letters : ℕ} (a : Counting n ps i letters) (h : i < length ps) where
    abbrev start : ℕ
    start = (get_or ps i (interval 0 0)).start

    abbrev end : ℕ
    end = (get_or ps i (interval 0 0)).end

    next : (start + 1 ≤ end) × (covered_in (drop i ps) 0 n ≡ (end - start) + covered_in (drop (i + 1) ps) 0 n)
    next =
        let is = ps in
        let d : drop i is ≡ interval start end ∷ drop (i + 1) is =
        drop-cons is i (interval 0 0) (omega arith) ∙ ap (λ (m : ℕ). get_or is i (interval 0 0) ∷ drop m is) (sym (add-one i)) in
        let b = ascending_drop n 1 0 is i u in
        let v : Ascending n 1 b.0 (interval start end ∷ drop (i + 1) is) = subst (λ (js : List Interval). Ascending n 1 b.0 js) d b.1 in
        (v.1, ap (λ (js : List Interval). covered_in js 0 n) d ∙ covered_first n 1 b.0 (interval start end) (drop (i + 1) is) v)

    pub counting_ordered : (get_or ps i (interval 0 0)).start ≤ (get_or ps i (interval 0 0)).end
    counting_ordered = omega (arith, next.0)

    pub counting_fits : letters + ((get_or ps i (interval 0 0)).end - (get_or ps i (interval 0 0)).start) ≤ n
    counting_fits = omega (arith, next.1, a.rest, covered_at_most ps 0 n)

    pub counting_turn : Counting n ps (i + 1) (letters + ((get_or ps i (interval 0 0)).end - (get_or ps i (interval 0 0)).start))
    counting_turn = record { within = omega arith; rest = omega (arith, next.1, a.rest) }

  pub counting_end : {i letters : ℕ} → Counting n ps i letters → length ps ≤ i → letters ≡ covered_in ps 0 n
  counting_end {i} a h =
      let e : drop i ps ≡ [] = drop_of_length-le ps (let k : length ps ≤ i = omega arith in k) in
      omega (arith, a.rest, ap (λ (js : List Interval). covered_in js 0 n) e, covered_none [] 0 n (λ x _ _ c. c))

-- The sums of a backward scan over the l newest places, as a loop has them: nothing at first (`newest_none`), and one place more at each turn (`newest_next`). For any float bits.
-- Less f entry l they are the scan's scores (`newest_score_lem`, `second_score_lem`).
use Rattle.std.proofs.Common.{◌≡◌, sym, ap, ◌∙◌, subst, ℕ, suc, ◌+◌, ◌-◌, ◌≤◌, ◌<◌, arith, List, [], ◌∷◌, ◌++◌, append-nil, reverse, length, get_or, take, drop, length-take, drop-cons, Float}
use mathlib.Core.List.{reverse-cons}
use lib.ListN.{length-reverse}
use lib.Seq.{append_snoc, drop-length}
use Rattle.floats.specs.Arithmetic.{◌⊕◌, ◌⊖◌}
use Rattle.floats.specs.Binary64.{zero64}
use Rattle.letters.specs.Place.{Place, ambiguous, BelowAt, Below}
use Rattle.scans.specs.declared.backward.BackwardState.{BackwardState}
use Rattle.scans.specs.Setup.{Setup, f_at, kmers}
use Rattle.scans.specs.Counts.{count, raise, cleared}
use Rattle.scans.specs.Scans.{value, second_value, BackwardSums}
use Rattle.scans.specs.Judged.{sum_over_of, float_score, second_score}
use Rattle.scans.specs.Terms.Window.{counted_value}
use Rattle.scans.specs.Terms.Parts.{left_value, AddsEntry, Fresh}
use Rattle.certificates.specs.Terms.Low.{newest_sum, newest_second, ReadsNewest}
use Rattle.scans.proofs.Counting.{count_reverse, below_drop, below_reverse, Counted, raise_counted, cleared_counted}
use Rattle.scans.proofs.Values.{raised_value}
use Rattle.scans.proofs.FloatScore.{newest_first}
use Rattle.scans.proofs.BackwardScan.{below_at, read_counted, left_second}
use Rattle.search.proofs.CarriedScan.{counted_unique}

-- ---- One place more, whatever it adds by the counts of those before it.
module _ (m : ℕ) (v : List ℕ → Place → Float) (t : Float) where
  sum_last : (seen es : List Place) (e : Place) (s : Float) (before counts : List ℕ) → Below m es → Counted m before seen → Counted m counts (seen ++ es)
      → sum_over_of v t s before (es ++ e ∷ []) ≡ sum_over_of v t s before es ⊕ (v counts e ⊖ t)
  unfolding sum_over_of
  sum_last seen [] e s before counts b c d =
      ap (λ (k : List ℕ). s ⊕ (v k e ⊖ t)) (counted_unique m before counts seen c (subst (λ (l : List Place). Counted m counts l) (append-nil seen) d))
  sum_last seen (p ∷ es) e s before counts b c d =
      sum_last (seen ++ p ∷ []) es e (s ⊕ (v before p ⊖ t)) (raise before p) counts b.1 (raise_counted m before seen p b.0 c) (subst (λ (l : List Place). Counted m counts l) (sym (append_snoc seen p es)) d)

module _ (S : Setup) (q : List Place) where
  abbrev t : Float
  t = S.score_threshold

  abbrev n : ℕ
  n = length q

  abbrev second : List ℕ → Place → Float
  second counts e = second_value S q (raise counts e) e

  long : (l : ℕ) → l ≤ n → length (take l (reverse q)) ≡ l
  long l h = omega (arith, length-take l (reverse q), length-reverse q)

  -- The scores of the l newest places.
  pub newest_score_lem : (l : ℕ) → l ≤ n → newest_sum S q l ⊖ f_at S l ≡ float_score S (take l (reverse q))
  unfolding newest_sum float_score
  newest_score_lem l h = rw (long l h)

  pub second_score_lem : (l : ℕ) → l ≤ n → newest_second S q l ⊖ f_at S l ≡ second_score S q (take l (reverse q))
  unfolding newest_second second_score
  second_score_lem l h = rw (long l h)

  pub newest_none : (a : BackwardState) (low : ℕ) (counts : List ℕ) → Fresh low a → counts ≡ cleared S → ReadsNewest S q 0 a counts
  unfolding newest_sum newest_second sum_over_of
  newest_none a low counts f e =
      let none : drop (n - 0) q ≡ [] = (let z : n - 0 ≡ n = omega arith in rw z (drop-length q)) in
      record {
        inside = omega arith;
        sum = ap (λ (b : BackwardSums). b.s) f.sums_are;
        second = ap (λ (b : BackwardSums). b.sw) f.sums_are;
        counted = rw (e, none) (cleared_counted (kmers S));
      }

  -- The place at index i is read; `counts` are those of the l newer ones.
  module _ (b : Below (kmers S) q) (i l : ℕ) (at : suc i + l ≡ n) (counts : List ℕ) (c : Counted (kmers S) counts (drop (suc i) q)) where
    abbrev e : Place
    e = get_or q i ambiguous

    abbrev es : List Place
    es = drop (suc i) q

    sum_next : (v : List ℕ → Place → Float) → sum_over_of v t zero64 (cleared S) (take (l + 1) (reverse q)) ≡ sum_over_of v t zero64 (cleared S) (take l (reverse q)) ⊕ (v counts e ⊖ t)
    sum_next v =
        let zl : n - l ≡ suc i = omega arith in
        let zs : n - (l + 1) ≡ i = omega arith in
        let before : take l (reverse q) ≡ reverse es = newest_first q l (omega arith) ∙ ap (λ (k : ℕ). reverse (drop k q)) zl in
        let after : take (l + 1) (reverse q) ≡ reverse es ++ e ∷ [] =
        newest_first q (l + 1) (omega arith) ∙ ap (λ (k : ℕ). reverse (drop k q)) zs ∙ ap reverse (drop-cons q i ambiguous (omega arith)) ∙ reverse-cons e es in
        let counted : Counted (kmers S) counts (reverse es) = record { long = c.long; counted = λ x. c.counted x ∙ sym (count_reverse x es) } in
        ap (sum_over_of v t zero64 (cleared S)) after
        ∙ sum_last (kmers S) v t [] (reverse es) e zero64 (cleared S) counts (below_reverse (kmers S) es (below_drop (kmers S) (suc i) q b)) (cleared_counted (kmers S)) counted
        ∙ ap (λ (z : List Place). sum_over_of v t zero64 (cleared S) z ⊕ (v counts e ⊖ t)) (sym before)

    sums_next : (newest_sum S q (l + 1) ≡ newest_sum S q l ⊕ (value S counts e ⊖ t)) × (newest_second S q (l + 1) ≡ newest_second S q l ⊕ (second counts e ⊖ t))
    unfolding newest_sum newest_second
    sums_next = (sum_next (value S), sum_next second)

  pub newest_next : Below (kmers S) q → (window_counts : List ℕ) → ((x : ℕ) → get_or window_counts x 0 ≡ count x q) → {l : ℕ} {a r : BackwardState} {counts counts' : List ℕ} → ReadsNewest S q l a counts → l < n
      → AddsEntry t window_counts S.ln (get_or q (n - (l + 1)) ambiguous) a r counts counts' → ReadsNewest S q (l + 1) r counts'
  newest_next b window_counts w {l} {a} {r} {counts} {counts'} k more adds =
      let i : ℕ = n - (l + 1) in
      let e : Place = get_or q i ambiguous in
      let raised : List ℕ = raise counts e in
      let z : n - l ≡ suc i = omega arith in
      let c : Counted (kmers S) counts (drop (suc i) q) = subst (λ (j : ℕ). Counted (kmers S) counts (drop j q)) z k.counted in
      let inside : i < n = omega arith in
      let sums = sums_next b i l (omega arith) counts c in
      let v : counted_value S.ln raised e ≡ value S counts e = raised_value S counts e (subst (λ (m : ℕ). BelowAt m e) (sym c.long) (below_at (kmers S) q i b inside)) in
      let u : left_value S.ln window_counts raised e ≡ second counts e = left_second S q window_counts raised e w in
      record {
        inside = omega arith;
        sum = ap (λ (x : BackwardState). x.s) adds.sums_are ∙ rw (adds.counts_are, v, k.sum) (sym sums.0);
        second = ap (λ (x : BackwardState). x.sw) adds.sums_are ∙ rw (adds.counts_are, u, k.second) (sym sums.1);
        counted = rw adds.counts_are (read_counted (kmers S) q i counts b inside c);
      }

-- Tables in range. What the carried forward scan tells: its sum and best are those of all the float scores (`whole_sum`, `whole_top`), so that a newest score above the best by 2^-10 is best by exact scores (`carried_newest`).
-- With the certificate of its start the backward scan finds that start (`start_find`).
use Rattle.std.proofs.Common.{◌≡◌, refl, sym, ap, ap₂, ◌∙◌, subst, None, ℕ, zero, suc, ◌+◌, ◌-◌, ◌≤◌, ◌<◌, mul-le-mul_left, mul-le-mul_right, arith, true, false, List, [], ◌∷◌, ◌++◌, length, take, drop, length-append, length-take, length-drop, T, lit≤, Float}
use lib.Seq.{take-append-le, drop-append-le}
use lib.Ieee.{binary64, inf, lt, le, neg}
use Rattle.floats.specs.Arithmetic.{◌⊕◌, ◌⊖◌}
use Rattle.floats.specs.Binary64.{one}
use Rattle.floats.proofs.Binary64.{one_eps, near_self, count_add}
use Rattle.floats.proofs.Compare.{le_self}
use Rattle.floats.specs.Terms.Rounded.{Near, err}
use Rattle.floats.proofs.Sums.{zero_near}
use Rattle.floats.proofs.Tests.{le_near}
use Rattle.letters.specs.Place.{Place, Below}
use Rattle.search.specs.declared.Carry.{Carry}
use Rattle.scans.specs.Setup.{Setup, f_at, kmers}
use Rattle.scans.specs.Counts.{raise, cleared}
use Rattle.scans.specs.Scans.{at, value, ForwardSums, forward_start, Forward, forward_from, dust_backward}
use Rattle.scans.specs.Judged.{sum_over_of, float_score, Best, best_held, better, forward_over}
use Rattle.scans.specs.Terms.Parts.{whole_forward}
use Rattle.search.specs.Terms.Carry.{Summed, newest_score}
use Rattle.search.specs.Terms.Certified.{KeptNumber, StartUnits, Certifiable}
use Rattle.scans.specs.Terms.Units.{margin, distance, gain, loss}
use Rattle.scans.proofs.Test.{by_test}
use Rattle.scans.proofs.Counting.{below_left, below_right, below_drop, below_take, Counted, raise_counted}
use Rattle.scans.proofs.Gain.{InRange, gain_bound}
use Rattle.scans.proofs.FloatScore.{float_near}
use Rattle.scans.proofs.Judging.{whole_judges}
use Rattle.scans.proofs.WholeScan.{judged, whole, whole_step, sum, score, judged_s}
use Rattle.scans.proofs.ForwardScore.{leads_all}
use Rattle.search.proofs.CarriedScan.{carried_next}
use Rattle.scans.proofs.Shape.{margin_eps}
use Rattle.certificates.proofs.CertainFind.{err_few, margin_one, units_find}
use Rattle.search.proofs.CertificateNumber.{distance_ranged, distance_margin}
use Rattle.certificates.proofs.CertificateUsed.{start_used}

-- ---- Any float bits: the sum over all of the places.
whole_sums : (S : Setup) (es : List Place) (l i : ℕ) (a : ForwardSums) (counts : List ℕ) → (whole S es l i a counts).sums.s ≡ sum_over_of (value S) S.score_threshold a.s counts es
unfolding forward_from sum_over_of
whole_sums S [] l i a counts = refl
whole_sums S (e ∷ es) l i a counts =
    let a' : ForwardSums = judged S a counts e l i in
    ap (λ (w : Forward). w.sums.s) (whole_step S e es l i a counts)
    ∙ whole_sums S es (l + 1) (i + 1) a' (raise counts e)
    ∙ ap (λ (x : Float). sum_over_of (value S) S.score_threshold x (raise counts e) es) (judged_s S a (sum S a counts e) (score S a counts e l) i)

pub whole_sum : (S : Setup) (es : List Place) → (whole_forward S es).sums.s ⊖ f_at S (length es) ≡ float_score S es
unfolding float_score
whole_sum S es = ap (λ (x : Float). x ⊖ f_at S (length es)) (whole_sums S es 1 0 forward_start (cleared S))

-- What holds of every score and of the best before, holds of the best.
over_best : (P : Float → Type 0) (x : ℕ → Float) (limit : Float) (n : ℕ) → ((L : ℕ) → 0 < L → L ≤ n → P (x L)) → (m i : ℕ) (b : Best) → 0 < i → i + m ≡ n + 1 → P b.best → P (forward_over limit x 0 m i b).best
unfolding forward_over
over_best P x limit n f zero i b some e p = p
over_best P x limit n f (suc m) i b some e p =
    let b' : Best = better b (x i) (0 + i) in
    let p' : P b'.best = by_test (λ (c : Best). P c.best) (le b.best (x i)) (record { best = x i; found = 0 + i }) b (λ _. f i some (omega arith)) (λ _. p) in
    by_test (λ (c : Best). P c.best) (lt limit (x i)) b' (forward_over limit x 0 m (i + 1) b') (λ _. p') (λ _. over_best P x limit n f m (i + 1) b' (omega arith) (omega arith) p')

-- ---- Tables in range: no score is above the best, and that is at most 2^21 in size.
-- A score is at most 2^21 in size.
pub score_kept : (S : Setup) (R : InRange S) (ps : List Place) (m : ℕ) {x : Float} → Below (kmers S) ps → length ps ≤ S.window_size → 0 < m → m ≤ S.window_size
    → Near binary64 x (gain S ps) (loss S m) (err (m + 1)) → KeptNumber 0 x
score_kept S R ps m {x} bp lp some h n =
    let g = gain_bound S R ps bp lp in
    let lo = mul-le-mul_right one (let z : length ps ≤ 65535 = omega (arith, R.window_small) in z) in
    let mo = mul-le-mul_right one (let z : m ≤ 65535 = omega (arith, R.window_small) in z) in
    let mt = mul-le-mul_left m R.t_ranged.high in
    let fh = (R.f_ranged m some h).high in
    let e = err_few m (omega (arith, R.window_small)) in
    let o = margin_one in
    record { ok = n.ok; high = omega (arith, n.upper); low = omega (arith, n.lower) }

module _ (S : Setup) (R : InRange S) (es : List Place) (b : Below (kmers S) es) (l : length es ≤ S.window_size) where
  near : (m : ℕ) → 0 < m → m ≤ length es → Near binary64 (float_score S (take m es)) (gain S (take m es)) (loss S m) (err (m + 1))
  near m some h =
      let long : length (take m es) ≡ m = omega (arith, length-take m es) in
      subst (λ (k : ℕ). Near binary64 (float_score S (take m es)) (gain S (take m es)) (loss S k) (err (k + 1))) long (float_near S R (take m es) (below_take (kmers S) m es b) (omega arith) (omega arith))

  pub whole_top : (m : ℕ) → 0 < m → m ≤ length es → T (le (float_score S (take m es)) (whole_forward S es).sums.best)
  whole_top m some h =
      subst (λ (c : Best). T (le (float_score S (take m es)) c.best)) (sym (whole_judges S es))
      ((leads_all (λ (L : ℕ). float_score S (take L es)) 0 (length es) (λ L p k. le_self (near L p k).ok)).top m some (omega arith))

  whole_best_kept : KeptNumber 0 (whole_forward S es).sums.best
  whole_best_kept =
      let z = zero_near in
      subst (λ (c : Best). KeptNumber 0 c.best) (sym (whole_judges S es))
      (over_best (KeptNumber 0) (λ (L : ℕ). float_score S (take L es)) (inf false) (length es)
      (λ L p k. score_kept S R (take L es) L (below_take (kmers S) L es b) (omega (arith, length-take L es)) p (omega arith) (near L p k)) (length es) 1 (best_held forward_start) (omega arith) (omega arith)
      (record { ok = z.ok; high = omega (arith, z.upper); low = omega (arith, z.lower) }))

-- ---- The scan carried from index j of the window, whose newest place e it has not read; `counts` are those of the places that it has read.
module _ (S : Setup) (R : InRange S) (q₀ : List Place) (e : Place) (j : ℕ) (inside : j ≤ length q₀) (c : Carry) (on : c.on ≡ true) (k : Summed S (drop j q₀) c)
    (counts : List ℕ) (n : Counted (kmers S) counts (drop j q₀)) (b : Below (kmers S) (q₀ ++ e ∷ [])) (window : length (q₀ ++ e ∷ []) ≤ S.window_size) where
  abbrev q : List Place
  q = q₀ ++ e ∷ []

  abbrev es : List Place
  es = drop j q₀

  -- Its score at the newest place.
  abbrev pub carried_score : Float
  carried_score = newest_score S (length q - j) counts e c

  more : drop j q ≡ es ++ e ∷ []
  more = drop-append-le j q₀ (e ∷ []) inside

  es_below : Below (kmers S) es
  es_below = below_drop (kmers S) j q₀ (below_left (kmers S) q₀ (e ∷ []) b)

  es_long : (length es ≡ length q₀ - j) × (length q ≡ suc (length q₀))
  es_long = (length-drop j q₀, omega (arith, length-append q₀ (e ∷ [])))

  score_is : carried_score ≡ float_score S (drop j q)
  score_is =
      let g = es_long in
      let l : length q - j ≡ length (es ++ e ∷ []) = omega (arith, length-append es (e ∷ [])) in
      ap₂ (λ (x : Float) (i : ℕ). x ⊖ f_at S i) (sym ((carried_next S es e c counts k es_below n None).s_is on)) l
      ∙ whole_sum S (es ++ e ∷ [])
      ∙ ap (float_score S) (sym more)

  score_near : Near binary64 carried_score (gain S (drop j q)) (loss S (length q - j)) (err (length q - j + 1))
  score_near =
      let g = es_long in
      rw score_is
      (subst (λ (i : ℕ). Near binary64 (float_score S (drop j q)) (gain S (drop j q)) (loss S i) (err (i + 1))) (length-drop j q)
      (float_near S R (drop j q) (below_drop (kmers S) j q b) (omega (arith, length-drop j q)) (omega (arith, length-drop j q))))

  pub carried_high : T (le distance carried_score) → margin + loss S (length q - j) ≤ gain S (drop j q)
  carried_high t =
      let g = es_long in
      omega (arith, le_near (near_self distance_ranged.ok) score_near t, distance_margin, distance_ranged.low, err_few (length q - j) (omega (arith, R.window_small)))

  pub carried_newest : T (le (c.best ⊕ distance) carried_score) → (m : ℕ) → 0 < m → m + j < length q → gain S (take m (drop j q)) + margin + loss S (length q - j) ≤ gain S (drop j q) + loss S m
  carried_newest t m some h =
      let g = es_long in
      let oe = one_eps in
      let me = margin_eps in
      let dl = distance_ranged.low in
      let dm = distance_margin in
      let best : KeptNumber 0 c.best = subst (KeptNumber 0) (k.best_is on) (whole_best_kept S R es es_below (omega arith)) in
      let bh = best.high in
      let bl = best.low in
      let top : T (le (float_score S (take m es)) c.best) = subst (λ (x : Float). T (le (float_score S (take m es)) x)) (k.best_is on) (whole_top S R es es_below (omega arith) m some (omega arith)) in
      let lower = le_near (near S R es es_below (omega arith) m some (omega arith)) (near_self best.ok) top in
      let upper = le_near (count_add 22 (lit≤ tt) (near_self best.ok) distance_ranged.ok (omega arith) (omega arith)) score_near t in
      let same : gain S (take m (drop j q)) ≡ gain S (take m es) = ap (λ (l : List Place). gain S (take m l)) more ∙ ap (gain S) (take-append-le m es (e ∷ []) (omega arith)) in
      omega (arith, lower, upper, same, err_few m (omega (arith, R.window_small)), err_few (length q - j) (omega (arith, R.window_small)))

  -- The find, and the counts with the newest place.
  pub start_find : (C : Certifiable S) → {r s low_from near_from : ℕ} {h u gap : Float} → StartUnits S q j r s low_from near_from h u gap → s ≤ 65535 → T (lt u (neg distance)) → T (le distance gap)
      → T (le (c.best ⊕ distance) carried_score) → T (le distance carried_score) → dust_backward S q ≡ record { find = at j; counts = raise counts e }
  start_find C start few u_below gap_above best high =
      units_find S R q b window j (start_used S R C q window start few u_below gap_above (carried_newest best) (carried_high high)) (raise counts e)
      (subst (λ (l : List Place). Counted (kmers S) (raise counts e) l) (sym more) (raise_counted (kmers S) counts es e (below_right (kmers S) q₀ (e ∷ []) b).0 n))

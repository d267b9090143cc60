-- Low starts: a search that reads the newest places makes them (`low_made`), they stay while places leave (`low_drop`), and a later search finds nothing where they tell it (`nothing_low`).
-- For any float bits a backward scan finds nothing if its second sum falls below 0 before any score is 0 or more (`nothing_stops`).
use Rattle.std.proofs.Common.{◌≡◌, refl, sym, ap, ◌∙◌, subst, ℕ, zero, suc, ◌+◌, ◌*◌, ◌-◌, ◌≤◌, ◌<◌, eq-zero-or-pos, mul-le-mul_left, mul-le-mul_right, arith, cond, not, ◌⊎◌, inl, inr, List, [], ◌∷◌, ◌++◌, reverse, length, take, drop, length-take, length-drop, take-append-drop, take-take, T, T_not, lit≤, Float}
use lib.Seq.{take-length, drop-append-le, drop-length}
use lib.Dec.{not_T}
use borrow.Author.Tests.{eq-eqb}
use lib.Ieee.{binary64, lt, le, neg}
use Rattle.floats.specs.Arithmetic.{◌⊕◌}
use Rattle.floats.specs.Binary64.{one, zero64}
use Rattle.floats.proofs.Binary64.{one_pos, near_self, near_add}
use Rattle.floats.proofs.Compare.{lt_value}
use Rattle.floats.specs.Terms.Rounded.{Near, pos64, neg64, err}
use Rattle.floats.proofs.Sums.{zero_near}
use Rattle.floats.proofs.Tests.{le_near}
use Rattle.letters.specs.Place.{Place, Below}
use Rattle.certificates.specs.declared.LowStarts.{LowStarts}
use Rattle.scans.specs.Setup.{Setup, kmers}
use Rattle.scans.specs.Counts.{cleared}
use Rattle.scans.specs.Scans.{none, Candidate, BackwardSums, backward_start, noted, is_dropped, backward_judged, Backward, backward_from, tried, dust_backward}
use Rattle.scans.specs.Judged.{float_score, second_score, Peaks, backward_over}
use Rattle.scans.specs.Terms.Shape.{Usual}
use Rattle.scans.specs.Terms.Units.{margin, distance, gain, loss}
use Rattle.search.specs.Terms.Certified.{KeptNumber}
use Rattle.certificates.specs.Terms.Made.{AtLeast}
use Rattle.scans.specs.Terms.Parts.{fallen_to}
use Rattle.certificates.specs.Terms.Low.{near_starts, LowBounds}
use Rattle.scans.proofs.Test.{by_test}
use Rattle.scans.proofs.Counting.{below_drop}
use Rattle.scans.proofs.Gain.{InRange, gain_none, gain_cons, gain_bound}
use Rattle.scans.proofs.Judging.{backward_judges}
use Rattle.scans.proofs.Shape.{UsualShape, margin_eps, unevenness_eps, usual_range, usual_shape}
use Rattle.scans.proofs.Rising.{added_more, gain_rise}
use Rattle.certificates.proofs.CertainSecond.{backward_near, second_near}
use Rattle.certificates.proofs.CertainShape.{f_adds}
use Rattle.certificates.proofs.CertainScan.{fallen_is}
use Rattle.certificates.proofs.CertainFind.{err_few, uneven_few, margin_one}
use Rattle.search.proofs.CertificateLow.{count_take, count_later, order_of}
use Rattle.search.proofs.CertificateNumber.{far_below}

-- ---- A scan over scores x and y whose places before the L-th are below 0, and that is at its end there or stops.
module _ (S : Setup) (x y : ℕ → Float) (n L : ℕ) (low : (k : ℕ) → 0 < k → k < L → T (not (le zero64 (x k)))) (ends : (n < L) ⊎ T (lt (y L) zero64)) where
  before : (l : ℕ) → l ≤ n → l ≤ L → T (not (lt (y l) zero64)) → l < L
  before l inside h t = go (order_of l L) ends
    where
      go : (l < L) ⊎ (L ≤ l) → (n < L) ⊎ T (lt (y L) zero64) → l < L
      go (inl k) e = k
      go (inr k) (inl e) = omega arith
      go (inr k) (inr e) = let z : L ≡ l = omega arith in absurd (T_not (lt (y l) zero64) t (subst (λ (i : ℕ). T (lt (y i) zero64)) z e))

  nothing_scan : (i l : ℕ) (a : BackwardSums) (cs : List Candidate) → i + l ≡ n + 1 → 0 < l → l ≤ L → a.found ≡ 0 → a.best ≡ zero64 → (backward_over S x y i l a cs).found ≡ 0
  unfolding backward_over
  nothing_scan zero l a cs e some h f z = f
  nothing_scan (suc i) l a cs e some h f z =
      let a' : BackwardSums = backward_judged a a.s a.sw (x l) i in
      let b : BackwardSums = fallen_to a (x l) in
      let cs' : List Candidate = noted a (x l) i cs in
      let stops : Peaks = record { best = a.best; found = a.found; candidates = cs } in
      let dropped : Peaks = record { best = a'.best; found = a'.found; candidates = cs' } in
      let rest : Peaks = backward_over S x y i (l + 1) a' cs' in
      by_test (λ (p : Peaks). p.found ≡ 0) (lt (y l) zero64) stops (cond (is_dropped S a (x l)) dropped rest) (λ _. f)
      (λ u.
      let k : l < L = before l (omega arith) h u in
      let is : b ≡ a' = sym (fallen_is a (x l) i (subst (λ (c : Float). T (not (le c (x l)))) (sym z) (low l some k))) in
      by_test (λ (p : Peaks). p.found ≡ 0) (is_dropped S a (x l)) dropped rest (λ _. subst (λ (c : BackwardSums). c.found ≡ 0) is f)
      (λ _. subst (λ (c : BackwardSums). (backward_over S x y i (l + 1) c cs').found ≡ 0) is (nothing_scan i (l + 1) b cs' (omega arith) (omega arith) (omega arith) f z)))

none_tried : (S : Setup) (q : List Place) (b : Backward) → b.found ≡ 0 → (tried S q b).find ≡ none
unfolding tried
none_tried S q b e = rw (eq-eqb b.found 0 e)

module _ (S : Setup) (q : List Place) where
  abbrev n : ℕ
  n = length q

  abbrev pub x : ℕ → Float
  x l = float_score S (take l (reverse q))

  abbrev pub y : ℕ → Float
  y l = second_score S q (take l (reverse q))

  nothing_found : (L : ℕ) → 0 < L → ((k : ℕ) → 0 < k → k < L → T (not (le zero64 (x k)))) → (n < L) ⊎ T (lt (y L) zero64) → (dust_backward S q).find ≡ none
  unfolding dust_backward
  nothing_found L some low ends =
      none_tried S q (backward_from S q n 1 backward_start (cleared S) [])
      (ap (λ (p : Peaks). p.found) (backward_judges S q) ∙ nothing_scan S x y n L low ends n 1 backward_start [] refl (omega arith) some refl refl)

  pub nothing_stops : (l : ℕ) → 0 < l → l ≤ n → ((k : ℕ) → 0 < k → k < l → T (not (le zero64 (x k)))) → T (lt (y l) zero64) → (dust_backward S q).find ≡ none
  nothing_stops l some inside low stops = nothing_found l some low (inr stops)

-- ---- Places leave. The oldest adds to the whole window at least what it adds to a part, so the second sum falls.
low_left : (S : Setup) (e : Place) (q : List Place) → Below (kmers S) (e ∷ q) → suc (length q) ≤ S.window_size → (c : LowStarts) → LowBounds S (e ∷ q) c → LowBounds S q c
low_left S e q b long c k =
    let R : InRange S = usual_range k.usual in
    record {
      usual = k.usual;
      kept = k.kept;
      reaches = k.reaches;
      low = λ a l at far near. k.low (suc a) l (omega arith) far near;
      ends = λ a at.
          omega (
            arith,
            k.ends (suc a) (omega arith),
            gain_cons S R q e b.0 (omega arith),
            gain_cons S R (take a q) e b.0 (omega (arith, length-take a q)),
            added_more S R (usual_shape k.usual) (take a q) q e (λ x. count_take x a q) (omega arith),
          );
    }

pub low_drop : (S : Setup) (q : List Place) → Below (kmers S) q → length q ≤ S.window_size → (d : ℕ) (c : LowStarts) → LowBounds S q c → LowBounds S (drop d q) c
low_drop S q b long zero c k = k
low_drop S [] b long (suc d) c k = k
low_drop S (e ∷ q) b long (suc d) c k = low_drop S q b.1 (omega arith) d c (low_left S e q b long c k)

-- ---- The scores of a window by exact ones.
module _ (S : Setup) (u : Usual S) (q : List Place) (b : Below (kmers S) q) (long : length q ≤ S.window_size) where
  pub R : InRange S
  R = usual_range u

  few : (l : ℕ) → l ≤ n S q → err (l + 1) * 32 ≤ margin
  few l h = err_few l (omega (arith, R.window_small))

  pub x_near : (a l : ℕ) → a + l ≡ n S q → 0 < l → Near binary64 (x S q l) (gain S (drop a q)) (loss S l) (err (l + 1))
  x_near a l e some =
      let z : n S q - l ≡ a = omega arith in
      subst (λ (i : ℕ). Near binary64 (x S q l) (gain S (drop i q)) (loss S l) (err (l + 1))) z (backward_near S R q b long l some (omega arith))

  pub y_near : (a l : ℕ) → a + l ≡ n S q → 0 < l → Near binary64 (y S q l) (gain S q) (gain S (take a q) + loss S l) (err (l + 1))
  y_near a l e some = second_near S R q b long a l some e

  -- ---- A search that read the l newest places makes them.
  module _ (l : ℕ) (far : near_starts < l) (inside : l ≤ n S q) (score : Float) (kept : KeptNumber 0 score) (read : (k : ℕ) → near_starts < k → k ≤ l → T (le (x S q k) score)) where
    made_low : (a k : ℕ) → a + k ≡ n S q → near_starts < k → k ≤ l → AtLeast score (gain S (drop a q)) (loss S k)
    made_low a k at h r =
        omega (arith, le_near (x_near a k at (omega arith)) (near_self kept.ok) (read k h r), few k (omega arith), margin_eps, unevenness_eps)

    made_ends : T (le (y S q l) score) ⊎ (l ≡ n S q) → (a : ℕ) → a + l ≡ n S q → AtLeast score (gain S q) (gain S (take a q) + loss S l)
    made_ends (inl t) a at = omega (arith, le_near (y_near a l at (omega arith)) (near_self kept.ok) t, few l (omega arith), margin_eps, unevenness_eps)
    made_ends (inr e) a at =
        let z : a ≡ 0 = omega arith in
        let all : AtLeast score (gain S q) (loss S l) = subst (λ (i : ℕ). AtLeast score (gain S (drop i q)) (loss S l)) z (made_low a l at far (omega arith)) in
        omega arith

    pub low_made : T (le (y S q l) score) ⊎ (l ≡ n S q) → LowBounds S q (record { reach = l; score = score })
    low_made ends = record { usual = u; kept = kept; reaches = far; low = made_low; ends = made_ends ends }

-- ---- `age` places later.
module _ (S : Setup) (q : List Place) (b : Below (kmers S) q) (long : length q ≤ S.window_size) (age : ℕ) (c : LowStarts) (k : LowBounds S (take (length q - age) q) c) (inside : age + near_starts < length q)
    (bound : Float) (still : age ≡ 0 → bound ≡ c.score) (moved : 0 < age → bound ≡ c.score ⊕ y S q age) (below : T (lt bound (neg distance))) where
  abbrev m : ℕ
  m = length q - age

  abbrev q₁ : List Place
  q₁ = take m q

  abbrev s : Float
  s = c.score

  R₁ : InRange S
  R₁ = usual_range k.usual

  shape : UsualShape S
  shape = usual_shape k.usual

  m_long : length q₁ ≡ m
  m_long = omega (arith, length-take m q)

  -- They add to a start at most what they add to the window before them.
  rises : (a : ℕ) → a ≤ m → gain S (drop a q) + gain S q₁ ≤ gain S q + gain S (drop a q₁)
  rises a h =
      let es : List Place = drop m q in
      let whole : q₁ ++ es ≡ q = take-append-drop m q in
      let from : drop a q ≡ drop a q₁ ++ es = ap (drop a) (sym whole) ∙ drop-append-le a q₁ es (omega (arith, m_long)) in
      omega (
        arith,
        gain_rise S R₁ shape (drop a q₁) q₁ es (λ x. count_later x 0 a q₁ (omega arith)) (omega (arith, length-drop a q₁)) (below_drop (kmers S) m q b) (omega (arith, m_long, length-drop m q)),
        ap (gain S) whole,
        ap (gain S) from,
      )

  -- What the newer places add to the second sum is below 0 by more than the low starts' bound is above it; f of all places is at least the sum of both f.
  fallen : (l : ℕ) → 0 < l → age + l ≤ length q → gain S q + pos64 s + loss S l + margin * 2 ≤ gain S q₁ + neg64 s + loss S (age + l)
  fallen l some h = go (eq-zero-or-pos age)
    where
      go : (age ≡ 0) ⊎ (0 < age) → gain S q + pos64 s + loss S l + margin * 2 ≤ gain S q₁ + neg64 s + loss S (age + l)
      go (inl z) =
          let same : gain S q₁ ≡ gain S q = (let e : m ≡ length q = omega arith in ap (λ (i : ℕ). gain S (take i q)) e ∙ ap (gain S) (take-length q)) in
          let longer : loss S (age + l) ≡ loss S l = (let e : age + l ≡ l = omega arith in ap (loss S) e) in
          omega (arith, far_below k.kept.ok (subst (λ (f : Float). T (lt f (neg distance))) (still z) below))
      go (inr p) =
          let w = R₁.window_small in
          let near = y_near S k.usual q b long m age (omega arith) p in
          let none_left : gain S (drop m q₁) ≡ 0 = ap (λ (i : ℕ). gain S (drop i q₁)) (sym m_long) ∙ ap (gain S) (drop-length q₁) ∙ gain_none S in
          let part : gain S q₁ ≤ gain S q = omega (arith, rises m (omega arith)) in
          let g = gain_bound S R₁ q b long in
          let no = mul-le-mul_right one (let z : length q ≤ 65535 = omega arith in z) in
          let ao = mul-le-mul_right one (let z : age ≤ 65535 = omega arith in z) in
          let ta = mul-le-mul_left age R₁.t_ranged.high in
          let fa = (R₁.f_ranged age p (omega arith)).high in
          let ea = few S k.usual q b long age (omega arith) in
          let mo = margin_one in
          let sum = near_add 22 (lit≤ tt) (near_self k.kept.ok) near (omega (arith, k.kept.high)) (omega (arith, k.kept.low)) in
          let test : T (lt (s ⊕ y S q age) (neg distance)) = subst (λ (f : Float). T (lt f (neg distance))) (moved p) below in
          omega (arith, sum.lower, far_below sum.ok test, f_adds shape age l p some (omega arith), uneven_few l (omega arith), margin_eps)

  start_below : (l : ℕ) → near_starts < l → l ≤ c.reach → age + l ≤ length q → T (not (le zero64 (x S q (age + l))))
  start_below l far near h =
      let a : ℕ = m - l in
      let units : gain S (drop a q) + margin ≤ loss S (age + l) =
      omega (arith, k.low a l (omega (arith, m_long)) far near, rises a (omega arith), fallen l (omega arith) h, margin_eps, unevenness_eps) in
      let n = x_near S k.usual q b long a (age + l) (omega arith) (omega arith) in
      let e = few S k.usual q b long (age + l) h in
      let op = one_pos in
      let mo = margin_one in
      not_T (le zero64 (x S q (age + l))) (λ t. let r = le_near zero_near n t in let z : ⊥ = omega arith in z)

  second_below : age + c.reach ≤ length q → T (lt (y S q (age + c.reach)) zero64)
  second_below h =
      let l : ℕ = c.reach in
      let a : ℕ = m - l in
      let part : gain S (take a q₁) ≡ gain S (take a q) = ap (gain S) (take-take a m q (omega arith)) in
      let units : gain S q + margin ≤ gain S (take a q) + loss S (age + l) =
      omega (arith, k.ends a (omega (arith, m_long)), fallen l (omega (arith, k.reaches)) h, margin_eps, unevenness_eps) in
      let near = y_near S k.usual q b long a (age + l) (omega arith) (omega (arith, k.reaches)) in
      let e = few S k.usual q b long (age + l) h in
      let op = one_pos in
      let mo = margin_one in
      (lt_value near.ok zero_near.ok).1 (omega (arith, near.upper, zero_near.upper, zero_near.lower))

  pub nothing_low : ((j : ℕ) → 0 < j → j ≤ age + near_starts → T (not (le zero64 (x S q j)))) → (dust_backward S q).find ≡ none
  nothing_low read = go (order_of (length q) (age + c.reach))
    where
      low : (j : ℕ) → 0 < j → j ≤ length q → j ≤ age + c.reach → (age + near_starts < j) ⊎ (j ≤ age + near_starts) → T (not (le zero64 (x S q j)))
      low j some in_window reached (inr h) = read j some h
      low j some in_window reached (inl h) =
          let z : age + (j - age) ≡ j = omega arith in
          subst (λ (i : ℕ). T (not (le zero64 (x S q i)))) z (start_below (j - age) (omega arith) (omega arith) (omega arith))

      go : (length q < age + c.reach) ⊎ (age + c.reach ≤ length q) → (dust_backward S q).find ≡ none
      go (inl h) = nothing_found S q (length q + 1) (omega arith) (λ j some l. low j some (omega arith) (omega arith) (order_of (age + near_starts) j)) (inl (omega arith))
      go (inr h) = nothing_found S q (age + c.reach) (omega (arith, k.reaches)) (λ j some l. low j some (omega arith) (omega arith) (order_of (age + near_starts) j)) (inr (second_below h))

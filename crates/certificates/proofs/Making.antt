-- Tables in range. The scan that makes a certificate, backwards from the newest place: what its float sums and bounds say of exact scores, kept by one place more.
-- Newer places (`reads_none`, `reads_next`; `steady_none`, `steady_next`), and older ones (`olds_none`, `olds_next`, `olds_ended`).
use Rattle.std.proofs.Common.{◌≡◌, refl, sym, ap, ◌∙◌, subst, Bool, true, false, cond, not, ◌||◌, true≢false, List, ◌∷◌, ◌⊎◌, inl, inr, ⊎_elim, ℕ, suc, ◌+◌, ◌-◌, ◌*◌, ◌≤◌, ◌<◌, Option, Some, None, IfSome, mul-le-mul_right, arith, length, get_or, drop, length-drop, drop-cons, T, T_not, lit≤, Float}
use lib.Seq.{drop-length}
use lib.Ieee.{binary64, fits, le, lt, neg, of_bits, of_fields}
use Rattle.floats.specs.Value.{magnitude, Finite}
use Rattle.floats.specs.Arithmetic.{◌⊕◌, ◌⊖◌}
use Rattle.floats.specs.Binary64.{one, zero64, two_to20}
use Rattle.floats.proofs.Binary64.{one_eps, near_self, near_as, count_add, count_sub}
use Rattle.floats.proofs.Compare.{lt_value}
use Rattle.floats.proofs.Order.{lt_nle}
use Rattle.floats.specs.Terms.Rounded.{Near, Ranged, pos_part, neg_part, eps, pos64, neg64, After, err}
use Rattle.floats.proofs.Sums.{after_as, after_start, after_step, after_score, zero_near, sum_join}
use Rattle.floats.proofs.Tests.{le_near, lt_near}
use Rattle.letters.specs.Place.{Place, ambiguous, Below}
use Rattle.certificates.specs.declared.certify.Reading.{Reading}
use Rattle.certificates.specs.declared.certify.Middle.{Middle}
use Rattle.certificates.specs.declared.certify.Older.{Older}
use Rattle.scans.specs.Setup.{Setup, f_at, kmers}
use Rattle.scans.specs.Terms.Units.{margin, distance, gain, loss}
use Rattle.search.specs.Terms.Certified.{loss_ahead, strayed, KeptNumber}
use Rattle.certificates.specs.Terms.Made.{larger, smaller, rounding, AtLeast, Summed, none_read, read_of, near_most, Reads, no_middle, middle_of, Steady, older_of, OlderUnits}
use Rattle.scans.proofs.Test.{by_test}
use Rattle.scans.proofs.Counting.{below_drop}
use Rattle.scans.proofs.Exact.{added}
use Rattle.scans.proofs.Gain.{InRange, gain_none, gain_cons, gain_bound, added_ranged}
use Rattle.scans.proofs.Shape.{margin_eps, unevenness_eps}
use Rattle.search.proofs.CertificateNumber.{distance_ranged, distance_margin, far_below, far_above}
use Rattle.search.proofs.CertificateLow.{order_of}

-- ---- Numbers.
-- The bounds begin at -2^20.
lowest_parts : (pos64 (neg two_to20) ≡ 0) × (neg64 (neg two_to20) ≡ 1048576 * one)
unfolding pos_part neg_part magnitude one neg of_bits of_fields
lowest_parts = (refl, refl)

lowest_number : Finite binary64 (neg two_to20)
unfolding fits neg of_bits of_fields
lowest_number = record { finite = tt; fits = tt }

pub lowest_kept : KeptNumber 0 (neg two_to20)
lowest_kept = let p = lowest_parts in record { ok = lowest_number; high = omega (arith, p.0); low = omega (arith, p.0, p.1) }

zero_kept : KeptNumber 0 zero64
zero_kept = let z = zero_near in record { ok = z.ok; high = omega (arith, z.upper); low = omega (arith, z.lower) }

other : (x y : Bool) → x || y ≡ true → (T x → ⊥) → T y
other true y e f = absurd (f tt)
other false true e f = tt
other false false e f = absurd (true≢false (sym e))

-- The value of x is at most that of y.
abbrev NotAbove : Float → Float → Type 0
NotAbove x y = pos64 x + neg64 y ≤ pos64 y + neg64 x

pub not_less : {a b : Float} → Finite binary64 a → Finite binary64 b → T (not (lt a b)) → NotAbove b a
not_less {a} {b} ka kb t =
    ⊎_elim (λ (h : pos64 a + neg64 b < pos64 b + neg64 a). absurd (T_not (lt a b) t ((lt_value ka kb).1 h))) (λ h. h) (order_of (pos64 a + neg64 b) (pos64 b + neg64 a))

larger_is : {a b : Float} → KeptNumber 0 a → KeptNumber 0 b → KeptNumber 0 (larger a b) × NotAbove a (larger a b) × NotAbove b (larger a b)
larger_is {a} {b} ka kb =
    by_test (λ (r : Float). KeptNumber 0 r × NotAbove a r × NotAbove b r) (lt a b) b a (λ t. (kb, (let h = (lt_value ka.ok kb.ok).0 t in omega arith), omega arith))
    (λ t. (ka, omega arith, not_less ka.ok kb.ok t))

smaller_is : {a b : Float} → Finite binary64 a → Finite binary64 b → Finite binary64 (smaller a b) × NotAbove (smaller a b) a × NotAbove (smaller a b) b
smaller_is {a} {b} ka kb =
    by_test (λ (r : Float). Finite binary64 r × NotAbove r a × NotAbove r b) (lt a b) a b (λ t. (ka, omega arith, (let h = (lt_value ka kb).0 t in omega arith)))
    (λ t. (kb, not_less ka kb t, omega arith))

rounding_eps : rounding ≡ 137438953472 * eps
rounding_eps = omega (arith, unevenness_eps)

-- x is P - N but for roundings, and at most 2^21 in size.
record Scored (x : Float) (P N : ℕ) : Type 0 where
  near : Near binary64 x P N rounding
  kept : KeptNumber 0 x

scored : {l : ℕ} {s f : Float} {P N : ℕ} → After l s P N → l ≤ 65535 → Ranged 1048576 f → Scored (s ⊖ f) P (N + pos64 f)
scored {l} {s} {f} {P} {N} a few r =
    let lo = mul-le-mul_right one few in
    let le' = mul-le-mul_right eps few in
    let oe = one_eps in
    let re = rounding_eps in
    let ah = a.high in
    let al = a.low in
    let rh = r.high in
    let n : Near binary64 (s ⊖ f) P (N + pos64 f) rounding = near_as (after_score a few r) refl (omega arith) in
    record { near = n; kept = record { ok = n.ok; high = omega (arith, n.upper); low = omega (arith, n.lower) } }

-- The start at index j scores above each older place read by at least the gap.
pub record Olds (S : Setup) (q : List Place) (j : ℕ) (a : Older) : Type 0 where
  pub inside : a.at ≤ j
  pub summed : Summed S (drop a.at q) a.s
  pub gap_number : Finite binary64 a.gap
  pub gap_high : pos64 a.gap ≤ neg64 a.gap + 1048576 * one
  pub older : (i l k : ℕ) → i + l ≡ length q → j + k ≡ length q → a.at ≤ i → i < j → gain S (drop i q) + pos64 a.gap + loss S k ≤ gain S (drop j q) + neg64 a.gap + loss S l + strayed 0

module _ (S : Setup) (R : InRange S) (q : List Place) (b : Below (kmers S) q) (window : length q ≤ S.window_size) where
  abbrev t : Float
  t = S.score_threshold

  abbrev n : ℕ
  n = length q

  abbrev D : Float
  D = S.drop_limit

  abbrev G : ℕ → ℕ
  G i = gain S (drop i q)

  -- What the place at index i adds to those after it.
  abbrev pub added_at : ℕ → Float
  added_at i = added S (drop (suc i) q) (get_or q i ambiguous)

  module _ (i : ℕ) (h : i < n) where
    abbrev es : List Place
    es = drop (suc i) q

    abbrev e : Place
    e = get_or q i ambiguous

    cons : drop i q ≡ e ∷ es
    cons = drop-cons q i ambiguous h

    shorter : length es < S.window_size
    shorter = omega (arith, length-drop (suc i) q)

    below : Below (kmers S) (e ∷ es)
    below = subst (Below (kmers S)) cons (below_drop (kmers S) i q b)

    added_in : Ranged 16 (added_at i)
    added_in = added_ranged S R es e shorter

    gain_next : G i ≡ G (suc i) + pos64 (added_at i)
    gain_next = ap (gain S) cons ∙ gain_cons S R es e below.0 shorter

    pub summed_next : (s v : Float) → v ≡ added_at i → Summed S (drop (suc i) q) s → Summed S (drop i q) (s ⊕ (v ⊖ t))
    summed_next s v pv a =
        subst (λ (z : List Place). Summed S z (s ⊕ (v ⊖ t))) (sym cons)
        (rw pv (after_as (after_step a (omega (arith, R.window_small, shorter)) added_in R.t_ranged) refl (sym (gain_cons S R es e below.0 shorter)) (omega arith)))

  gain_few : (i : ℕ) → i ≤ n → G i ≤ (n - i) * (16 * one)
  gain_few i h = subst (λ (l : ℕ). G i ≤ l * (16 * one)) (length-drop i q) (gain_bound S R (drop i q) (below_drop (kmers S) i q b) (omega (arith, length-drop i q)))

  -- The score of the places from index i on, with the f entry of k places.
  score_at_lem : (i l k : ℕ) {s : Float} → i + l ≡ n → 0 < k → k ≤ S.window_size → Summed S (drop i q) s → Scored (s ⊖ f_at S k) (G i) (l * pos64 t + pos64 (f_at S k))
  score_at_lem i l k {s} at some in_table a =
      let long : length (drop i q) ≡ l = omega (arith, length-drop i q) in
      subst (λ (m : ℕ). Scored (s ⊖ f_at S k) (G i) (m * pos64 t + pos64 (f_at S k))) long (scored a (omega (arith, R.window_small)) (R.f_ranged k some in_table))

  -- A fact of the place at index i and of all that are newer.
  each : (P : ℕ → ℕ → Type 0) (i l : ℕ) → i + l ≡ n → P i l → ((j k : ℕ) → j + k ≡ n → suc i ≤ j → P j k) → (j k : ℕ) → j + k ≡ n → i ≤ j → P j k
  each P i l at here later j k jk h = go (order_of i j)
    where
      go : (i < j) ⊎ (j ≤ i) → P j k
      go (inl o) = later j k jk (omega arith)
      go (inr o) =
          let x : i ≡ j = omega arith in
          let y : l ≡ k = omega arith in
          subst (λ (z : ℕ). P z k) x (subst (λ (z : ℕ). P i z) y here)

  -- A bound that rises stays one.
  at_least_more : (x y : Float) (P N : ℕ) → NotAbove x y → AtLeast x P N → AtLeast y P N
  at_least_more x y P N h k = omega arith

  at_least_own : (x y : Float) (P N : ℕ) → NotAbove x y → Scored x P N → AtLeast y P N
  at_least_own x y P N h k = omega (arith, k.near.lower)

  -- A sum of ln entries alone.
  sum_kept : (i : ℕ) {x : Float} → i ≤ n → Near binary64 x (G i) 0 (err (n - i)) → KeptNumber 0 x
  sum_kept i h k =
      let gf = gain_few i h in
      let few : n - i ≤ 65535 = omega (arith, R.window_small) in
      let lo = mul-le-mul_right one few in
      let le' = mul-le-mul_right eps few in
      let oe = one_eps in
      record { ok = k.ok; high = omega (arith, k.upper); low = omega (arith, k.lower) }

  -- ---- The places newer than the start.
  none_summed : Summed S (drop n q) zero64
  none_summed =
      subst (λ (z : List Place). Summed S z zero64) (sym (drop-length q)) (after_as after_start refl (sym (gain_none S)) (omega arith))

  none_gain : G n ≡ 0
  none_gain = ap (gain S) (drop-length q) ∙ gain_none S

  pub reads_none : Reads S q (none_read n)
  reads_none =
      record {
        inside = omega arith;
        summed = none_summed;
        near_read = omega arith;
        near_in = omega arith;
        near_while = λ _. refl;
        near_sum = near_as zero_near (omega (arith, none_gain)) (omega arith);
        high = λ i l at from some. absurd (let z : ⊥ = omega arith in z);
        high_kept = lowest_kept;
        far = λ i l at from to. absurd (let z : ⊥ = omega arith in z);
        far_kept = lowest_kept;
      }

  module _ (a : Reading) (i l : ℕ) (at : i + l ≡ n) (here : a.at ≡ suc i) (v : Float) (pv : v ≡ added_at i) (k : Reads S q a) where
    i_in : i < n
    i_in = omega (arith, k.inside)

    abbrev s' : Float
    s' = a.s ⊕ (v ⊖ t)

    abbrev score : Float
    score = s' ⊖ f_at S l

    pub read_summed : Summed S (drop i q) s'
    read_summed = summed_next i i_in a.s v pv (subst (λ (z : ℕ). Summed S (drop z q) a.s) here k.summed)

    score_is : Scored score (G i) (loss S l)
    score_is = score_at_lem i l l at (omega (arith, i_in)) (omega arith) read_summed

    high_next : (j m : ℕ) → j + m ≡ n → i ≤ j → 0 < m → AtLeast (larger a.high score) (G j) (loss S m)
    high_next =
        let x = larger_is k.high_kept score_is.kept in
        each (λ (j m : ℕ). 0 < m → AtLeast (larger a.high score) (G j) (loss S m)) i l at (λ _. at_least_own score _ (G i) (loss S l) x.2 score_is)
        (λ j m jm from some. at_least_more a.high _ (G j) (loss S m) x.1 (k.high j m jm (omega arith) some))

    far_next : (j m : ℕ) → j + m ≡ n → i ≤ j → j < a.near → AtLeast (larger a.far score) (G j) (loss S m)
    far_next =
        let x = larger_is k.far_kept score_is.kept in
        each (λ (j m : ℕ). j < a.near → AtLeast (larger a.far score) (G j) (loss S m)) i l at (λ _. at_least_own score _ (G i) (loss S l) x.2 score_is)
        (λ j m jm from to. at_least_more a.far _ (G j) (loss S m) x.1 (k.far j m jm (omega arith) to))

    near_next : n ≤ i + near_most → Near binary64 (a.sum ⊕ v) (G i) 0 (err (n - i))
    near_next few =
        let same : a.near ≡ suc i = k.near_while (omega arith) ∙ here in
        let was : Near binary64 a.sum (G (suc i)) 0 (err (n - suc i)) = subst (λ (z : ℕ). Near binary64 a.sum (G z) 0 (err (n - z))) same k.near_sum in
        let g = gain_next i i_in in
        let gf = gain_few i (omega (arith, i_in)) in
        let lo = mul-le-mul_right one (let z : n - i ≤ 65535 = omega (arith, R.window_small) in z) in
        let le' = mul-le-mul_right eps (let z : n - suc i ≤ 65535 = omega (arith, R.window_small) in z) in
        let oe = one_eps in
        let one_more : n - i ≡ suc (n - suc i) = omega (arith, i_in) in
        let vr : Ranged 16 v = subst (Ranged 16) (sym pv) (added_in i i_in) in
        let gv : G i ≡ G (suc i) + pos64 v = g ∙ ap (λ (x : Float). G (suc i) + pos64 x) (sym pv) in
        near_as (sum_join vr (omega arith) (omega arith) was) (omega arith) (omega (arith, ap (λ (z : ℕ). z * (2097152 * eps)) one_more))

    pub reads_next : (near : Bool) → (T near → l ≤ near_most) → (T (not near) → near_most < l) → Reads S q (read_of a i v s' score near)
    reads_next near yes_near no_near =
        by_test (λ (c : Reading). Reads S q c) near
        (record { at = i; s = s'; high = larger a.high score; far = a.far; near = i; sum = a.sum ⊕ v })
        (record { at = i; s = s'; high = larger a.high score; far = larger a.far score; near = a.near; sum = a.sum })
        (λ y. record {
          inside = omega (arith, i_in);
          summed = read_summed;
          near_read = omega arith;
          near_in = omega (arith, i_in);
          near_while = λ _. refl;
          near_sum = near_next (omega (arith, yes_near y));
          high = high_next;
          high_kept = (larger_is k.high_kept score_is.kept).0;
          far = λ j m jm from to. absurd (let z : ⊥ = omega arith in z);
          far_kept = k.far_kept;
        })
        (λ y. record {
          inside = omega (arith, i_in);
          summed = read_summed;
          near_read = omega (arith, k.near_read);
          near_in = k.near_in;
          near_while = λ few. absurd (let z : ⊥ = omega (arith, no_near y) in z);
          near_sum = k.near_sum;
          high = high_next;
          high_kept = (larger_is k.high_kept score_is.kept).0;
          far = far_next;
          far_kept = (larger_is k.far_kept score_is.kept).0;
        })

  -- ---- The middle.
  pub steady_none : (m : ℕ) → Steady S q m n (no_middle n)
  steady_none m =
      let g = none_gain in
      let z = zero_near in
      record {
        low_from = n;
        from_low = omega arith;
        low = record {
          order = omega arith;
          within = omega arith;
          near = λ i l at some from. absurd (let y : ⊥ = omega arith in y);
          sum = omega (arith, z.lower);
          far = λ i l at from to. absurd (let y : ⊥ = omega arith in y);
          h_kept = zero_kept;
          u_kept = lowest_kept;
        };
        peak = λ i l at from to. absurd (let y : ⊥ = omega arith in y);
        peak_kept = lowest_kept;
        steady = λ i l at from j k jk ij to. absurd (let y : ⊥ = omega arith in y);
      }

  module _ (drop_ranged : Ranged 1048576 D) (m : ℕ) (a : Reading) (l : ℕ) (at : a.at + l ≡ n) (some : 0 < l) (room : l + m ≤ S.window_size) (k : Reads S q a) (c : Middle) (w : Steady S q m (suc a.at) c) where
    abbrev ahead : Float
    ahead = a.s ⊖ f_at S (l + m)

    abbrev reach : Float
    reach = D ⊖ distance

    ahead_is : Scored ahead (G a.at) (loss_ahead S m l)
    ahead_is = score_at_lem a.at l (l + m) at (omega arith) room k.summed

    -- The entry is not below the peak by more than the reach.
    within_reach : T (le (c.peak ⊖ ahead) reach) → (j o : ℕ) → j + o ≡ n → a.at < j → j < w.low_from
        → G j + loss_ahead S m l + margin * 2 + neg64 D ≤ G a.at + loss_ahead S m o + pos64 D
    within_reach test j o jo from to =
        let oe = one_eps in
        let me = margin_eps in
        let re = rounding_eps in
        let pk = w.peak_kept in
        let ak = ahead_is.kept in
        let dh = drop_ranged.high in
        let dl = drop_ranged.low in
        let sh = distance_ranged.high in
        let sl = distance_ranged.low in
        let dm = distance_margin in
        let ph = pk.high in
        let pl = pk.low in
        let ah = ak.high in
        let al = ak.low in
        let x = count_sub 23 (lit≤ tt) (near_self pk.ok) ak.ok (omega arith) (omega arith) in
        let y = count_sub 21 (lit≤ tt) (near_self drop_ranged.ok) distance_ranged.ok (omega arith) (omega arith) in
        let bound = w.peak j o jo (omega arith) to in
        let own = ahead_is.near.upper in
        let r = le_near x y test in
        omega arith

    goes_on : T (le (c.peak ⊖ ahead) reach) → Steady S q m a.at (record { near = c.near; h = c.h; u = c.u; peak = larger c.peak ahead })
    goes_on test =
        let x = larger_is w.peak_kept ahead_is.kept in
        record {
          low_from = w.low_from;
          from_low = omega (arith, w.from_low);
          low = w.low;
          peak = each (λ (j o : ℕ). j < w.low_from → AtLeast (larger c.peak ahead) (G j) (loss_ahead S m o)) a.at l at (λ _. at_least_own ahead _ (G a.at) (loss_ahead S m l) x.2 ahead_is)
              (λ j o jo from to. at_least_more c.peak _ (G j) (loss_ahead S m o) x.1 (w.peak j o jo from to));
          peak_kept = x.0;
          steady = each (λ (j o : ℕ). (i r : ℕ) → i + r ≡ n → j < i → i < w.low_from → G i + loss_ahead S m o + margin * 2 + neg64 D ≤ G j + loss_ahead S m r + pos64 D) a.at l at
              (λ i r ir ji to. within_reach test i r ir ji to) (λ j o jo from. w.steady j o jo from);
        }

    closes : T (lt a.high (neg distance)) → Steady S q m a.at (record { near = a.near; h = a.sum; u = a.far; peak = neg two_to20 })
    closes test =
        let oe = one_eps in
        let me = margin_eps in
        let re = rounding_eps in
        let ue = unevenness_eps in
        let fb = far_below k.high_kept.ok test in
        let le' = mul-le-mul_right eps (let z : n - a.near ≤ 65535 = omega (arith, R.window_small) in z) in
        let sl = k.near_sum.lower in
        record {
          low_from = a.at;
          from_low = omega arith;
          low = record {
            order = k.near_read;
            within = k.near_in;
            near = λ i o io pos from. (let h = k.high i o io (omega (arith, k.near_read)) pos in omega arith);
            sum = omega arith;
            far = λ i o io from to. (let h = k.far i o io from to in omega arith);
            h_kept = sum_kept a.near k.near_in k.near_sum;
            u_kept = k.far_kept;
          };
          peak = λ i o io from to. absurd (let y : ⊥ = omega arith in y);
          peak_kept = lowest_kept;
          steady = λ i o io from j r jr ij to. absurd (let y : ⊥ = omega arith in y);
        }

    pub steady_next : IfSome (middle_of c a ahead reach) (Steady S q m a.at)
    steady_next =
        let x : Middle = record { near = c.near; h = c.h; u = c.u; peak = larger c.peak ahead } in
        let y : Middle = record { near = a.near; h = a.sum; u = a.far; peak = neg two_to20 } in
        by_test (λ (d : Option Middle). IfSome d (Steady S q m a.at)) (le (c.peak ⊖ ahead) reach) (Some x) (cond (lt a.high (neg distance)) (Some y) None) (λ test. goes_on test)
        (λ _. by_test (λ (d : Option Middle). IfSome d (Steady S q m a.at)) (lt a.high (neg distance)) (Some y) None (λ test. closes test) (λ _. tt))

  -- The start at index i, whose sum is s, scores above the middle.
  pub above_middle : (m i l : ℕ) (s : Float) → i + l ≡ n → 0 < l → l + m ≤ S.window_size → Summed S (drop i q) s → (c : Middle) (w : Steady S q m (suc i) c) → T (le (c.peak ⊕ distance) (s ⊖ f_at S (l + m)))
      → (j o : ℕ) → j + o ≡ n → i < j → j < w.low_from → G j + loss_ahead S m l + margin * 2 ≤ G i + loss_ahead S m o
  above_middle m i l s at some room a c w test j o jo from to =
      let oe = one_eps in
      let me = margin_eps in
      let re = rounding_eps in
      let sh = distance_ranged.high in
      let sl = distance_ranged.low in
      let dm = distance_margin in
      let ph = w.peak_kept.high in
      let pl = w.peak_kept.low in
      let x = count_add 22 (lit≤ tt) (near_self w.peak_kept.ok) distance_ranged.ok (omega arith) (omega arith) in
      let y = score_at_lem i l (l + m) at (omega arith) room a in
      let bound = w.peak j o jo (omega arith) to in
      let r = le_near x y.near test in
      omega arith

  -- ---- The places older than the start at index j, whose score is `top`.
  gap_kept : {j : ℕ} {a : Older} → Olds S q j a → T (le distance a.gap) → KeptNumber 0 a.gap
  gap_kept k some = record { ok = k.gap_number; high = (let h = k.gap_high in omega arith); low = (let h = far_above k.gap_number some in omega arith) }

  highest_parts : (pos64 two_to20 ≡ 1048576 * one) × (neg64 two_to20 ≡ 0)
  unfolding pos_part neg_part magnitude one of_bits of_fields
  highest_parts = (refl, refl)

  highest_number : Finite binary64 two_to20
  unfolding fits of_bits of_fields
  highest_number = record { finite = tt; fits = tt }

  module _ (j : ℕ) (j_in : j < n) (s : Float) (summed : Summed S (drop j q) s) where
    abbrev top : Float
    top = s ⊖ f_at S (n - j)

    pub olds_none : Olds S q j (record { at = j; s = s; gap = two_to20; done = false })
    olds_none =
        let p = highest_parts in
        record {
          inside = omega arith;
          summed = summed;
          gap_number = highest_number;
          gap_high = omega (arith, p.0);
          older = λ i l k at jk from to. absurd (let z : ⊥ = omega arith in z);
        }

    top_is : Scored top (G j) (loss S (n - j))
    top_is = score_at_lem j (n - j) (n - j) (omega (arith, j_in)) (omega (arith, j_in)) (omega arith) summed

    module _ (a : Older) (i l : ℕ) (at : i + l ≡ n) (here : a.at ≡ suc i) (v : Float) (pv : v ≡ added_at i) (k : Olds S q j a) where
      i_in' : i < n
      i_in' = omega (arith, k.inside, j_in)

      abbrev older_sum : Float
      older_sum = a.s ⊕ (v ⊖ t)

      abbrev lower_score : Float
      lower_score = older_sum ⊖ f_at S l

      abbrev above : Float
      above = top ⊖ lower_score

      older_summed : Summed S (drop i q) older_sum
      older_summed = summed_next i i_in' a.s v pv (subst (λ (z : ℕ). Summed S (drop z q) a.s) here k.summed)

      lower_is : Scored lower_score (G i) (loss S l)
      lower_is = score_at_lem i l l at (omega (arith, i_in')) (omega arith) older_summed

      -- What the start scores above the place.
      above_is : Near binary64 above (G j + loss S l) (loss S (n - j) + G i) (rounding * 2 + 4194304 * eps)
      above_is =
          let th = top_is.kept.high in
          let tl = top_is.kept.low in
          let lh = lower_is.kept.high in
          let ll = lower_is.kept.low in
          let x = count_sub 22 (lit≤ tt) (near_self top_is.kept.ok) lower_is.kept.ok (omega arith) (omega arith) in
          let tu = top_is.near.upper in
          let td = top_is.near.lower in
          let lu = lower_is.near.upper in
          let ld = lower_is.near.lower in
          let xu = x.upper in
          let xl = x.lower in
          record { ok = x.ok; upper = omega arith; lower = omega arith }

      abbrev gap : Float
      gap = smaller a.gap above

      gap_is : Finite binary64 gap × NotAbove gap a.gap × NotAbove gap above
      gap_is = smaller_is k.gap_number above_is.ok

      older_same : (x : ℕ) → j + x ≡ n → n - j ≡ x
      older_same x e = omega arith

      below_start : (x : ℕ) → j + x ≡ n → G i + pos64 gap + loss S x ≤ G j + neg64 gap + loss S l + strayed 0
      below_start x jx =
          let g = gap_is.2 in
          let u = above_is.upper in
          let re = rounding_eps in
          let ue = unevenness_eps in
          subst (λ (z : ℕ). G i + pos64 gap + loss S z ≤ G j + neg64 gap + loss S l + strayed 0) (older_same x jx) (omega arith)

      -- A smaller gap keeps what a larger one says.
      still_below : (P N : ℕ) → P + pos64 a.gap ≤ N + neg64 a.gap → P + pos64 gap ≤ N + neg64 gap
      still_below P N h = let g = gap_is.1 in omega arith

      older_next : (o m : ℕ) → o + m ≡ n → i ≤ o → (x : ℕ) → j + x ≡ n → o < j → G o + pos64 gap + loss S x ≤ G j + neg64 gap + loss S m + strayed 0
      older_next =
          each (λ (o m : ℕ). (x : ℕ) → j + x ≡ n → o < j → G o + pos64 gap + loss S x ≤ G j + neg64 gap + loss S m + strayed 0) i l at (λ x jx _. below_start x jx)
          (λ o m om from x jx to.
          let h = k.older o m x om jx (omega arith) to in
          let r = still_below (G o + loss S x) (G j + loss S m + strayed 0) (omega arith) in
          omega arith)

      pub olds_next : Olds S q j (older_of a i older_sum above D)
      olds_next =
          record {
            inside = omega (arith, k.inside);
            summed = older_summed;
            gap_number = gap_is.0;
            gap_high = (let g = gap_is.1 in let h = k.gap_high in omega arith);
            older = λ o m x om jx from to. older_next o m om from x jx to;
          }

      -- The scan drops here.
      drops : Ranged 1048576 D → T (le distance gap) → T (lt (D ⊕ gap) above) → (x : ℕ) → j + x ≡ n
          → G i + pos64 gap + pos64 D + loss S x ≤ G j + neg64 gap + neg64 D + loss S l + strayed 0
      drops drop_ranged some test x jx =
          let dh = drop_ranged.high in
          let dl = drop_ranged.low in
          let gh = olds_next.gap_high in
          let gl = far_above gap_is.0 some in
          let y = count_add 21 (lit≤ tt) (near_self drop_ranged.ok) gap_is.0 (omega arith) (omega arith) in
          let r = lt_near y above_is test in
          let re = rounding_eps in
          let ue = unevenness_eps in
          subst (λ (z : ℕ). G i + pos64 gap + pos64 D + loss S z ≤ G j + neg64 gap + neg64 D + loss S l + strayed 0) (older_same x jx) (omega arith)

      pub olds_stopped : Ranged 1048576 D → (older_of a i older_sum above D).done ≡ true → T (le distance gap) → OlderUnits S q j i gap
      olds_stopped drop_ranged done some =
          let past : T (lt (D ⊕ gap) above) = other (lt gap distance) (lt (D ⊕ gap) above) done (λ y. lt_nle gap distance y some) in
          record {
            older = olds_next.older;
            ends = inr (
              omega (arith, k.inside),
              λ m x im jx.
                  let e : l ≡ m = omega arith in
                  subst (λ (z : ℕ). G i + pos64 gap + pos64 D + loss S x ≤ G j + neg64 gap + neg64 D + loss S z + strayed 0) e (drops drop_ranged some past x jx),
            );
            gap_kept = gap_kept olds_next some;
          }

    -- All are read.
    pub olds_ended : (a : Older) → a.at ≡ 0 → Olds S q j a → T (le distance a.gap) → OlderUnits S q j a.at a.gap
    olds_ended a end k some =
        record {
          older = k.older;
          ends = inl end;
          gap_kept = gap_kept k some;
        }

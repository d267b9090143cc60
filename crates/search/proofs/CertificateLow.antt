-- Tables in range and of the usual shape. The low places of a certificate, from index d of the window on: none scores 0 or more, which a new place (`low_joined`) and a place that leaves (`low_left`) keep,
-- as long as the float bounds say so (`low_used`).
use Rattle.std.proofs.Common.{◌≡◌, ap, ◌∙◌, subst, ℕ, zero, suc, ◌+◌, ◌*◌, ◌-◌, ◌≤◌, ◌<◌, eq-zero-or-pos, mul-le-mul_left, mul-le-mul_right, arith, ◌⊎◌, inl, inr, List, [], ◌∷◌, ◌++◌, length, take, drop, length-append, length-drop, drop-drop, T, lit≤, Float}
use lib.Seq.{drop-append-le, drop-length}
use lib.Ieee.{le}
use Rattle.floats.specs.Arithmetic.{◌⊕◌, ◌⊖◌, ◌⊗◌}
use Rattle.floats.specs.Binary64.{one, number}
use Rattle.floats.proofs.Binary64.{one_eps, near_self, count_add, mul_int64}
use Rattle.floats.proofs.Compare.{le_value}
use Rattle.floats.specs.Terms.Rounded.{pos64, neg64, Ranged}
use Rattle.floats.proofs.Sized.{number_sized}
use Rattle.floats.proofs.Sums.{zero_near, zero_ranged}
use Rattle.floats.proofs.Tests.{le_near}
use Rattle.letters.specs.Place.{Place, plain, BelowAt, Below}
use Rattle.scans.specs.Setup.{Setup, ln_at, kmers}
use Rattle.scans.specs.Counts.{count}
use Rattle.scans.specs.Terms.Units.{margin, distance, unevenness, gain, loss}
use Rattle.search.specs.Terms.Certified.{strayed, KeptNumber, LowUnits, Certifiable}
use Rattle.scans.proofs.Counting.{below_drop}
use Rattle.scans.proofs.Exact.{added}
use Rattle.scans.proofs.Gain.{InRange, gain_none, gain_snoc, gain_cons}
use Rattle.scans.proofs.Rising.{added_more}
use Rattle.scans.proofs.Shape.{margin_eps, usual_shape, f_rises}
use Rattle.scans.proofs.BackwardScan.{count_drop}
use Rattle.search.proofs.CertificateNumber.{strayed_few, distance_ranged, distance_margin, far_above, kept_on, Changed, raised, stepped}

-- ---- Counts and sums of fewer places.
pub count_take : (x a : ℕ) (q : List Place) → count x (take a q) ≤ count x q
count_take x zero q = omega arith
count_take x (suc a) [] = omega arith
count_take x (suc a) (e ∷ q) = omega (arith, count_take x a q)

pub count_later : (x c a : ℕ) (q : List Place) → c ≤ a → count x (drop a q) ≤ count x (drop c q)
count_later x c a q h =
    let m : ℕ = a - c in
    let z : c + m ≡ a = omega arith in
    subst (λ (k : ℕ). count x (drop k q) ≤ count x (drop c q)) z (subst (λ (r : List Place). count x r ≤ count x (drop c q)) (drop-drop m c q) (count_drop x m (drop c q)))

pub order_of : (a b : ℕ) → (a < b) ⊎ (b ≤ a)
order_of a b = go (eq-zero-or-pos (b - a))
  where
    go : (b - a ≡ 0) ⊎ (0 < b - a) → (a < b) ⊎ (b ≤ a)
    go (inl e) = inr (omega arith)
    go (inr h) = inl (omega arith)

module _ (S : Setup) (R : InRange S) (C : Certifiable S) where
  abbrev t : Float
  t = S.score_threshold

  -- A k-mer's first place adds nothing, and T is above the margins.
  first_none : pos64 (ln_at S 1) ≡ 0
  first_none =
      let r = R.ln_ranged 1 (omega arith) R.window_some in
      let z = zero_ranged 16 in
      omega (arith, (le_value r.ok z.ok).0 C.ln_first, zero_near.upper, r.low, z.low)

  t_high : margin * 4 ≤ pos64 t
  t_high = omega (arith, far_above R.t_ranged.ok C.t_some)

  gain_drop : (a : ℕ) (q : List Place) → Below (kmers S) q → length q ≤ S.window_size → gain S (drop a q) ≤ gain S q
  gain_drop zero q b l = omega arith
  gain_drop (suc a) [] b l = omega arith
  gain_drop (suc a) (e ∷ q) b l = omega (arith, gain_drop a q b.1 (omega arith), gain_cons S R q e b.0 (omega arith))

  gain_later : (c a : ℕ) (q : List Place) → Below (kmers S) q → length q ≤ S.window_size → c ≤ a → gain S (drop a q) ≤ gain S (drop c q)
  gain_later c a q b l h =
      let m : ℕ = a - c in
      let z : c + m ≡ a = omega arith in
      subst (λ (k : ℕ). gain S (drop k q) ≤ gain S (drop c q)) z
      (subst (λ (r : List Place). gain S r ≤ gain S (drop c q)) (drop-drop m c q) (gain_drop m (drop c q) (below_drop (kmers S) c q b) (omega (arith, length-drop c q))))

  -- A k-mer's first place adds nothing.
  pub adds_first : (q : List Place) (x : ℕ) → count x q ≡ 0 → pos64 (added S q (plain x)) ≡ 0
  adds_first q x z = ap (λ (c : ℕ). pos64 (ln_at S (suc c))) z ∙ first_none

  -- The float test that m * T is above h.
  repeated : {s : ℕ} {x : Float} {P N : ℕ} → Changed s x P N → (m : ℕ) → s ≤ 65535 → m ≤ 65536 → T (le (x ⊕ distance) (number m ⊗ t)) → pos64 x + margin * 2 + strayed s ≤ m * pos64 t + neg64 x
  repeated {s} {x} g m few little test =
      let so = mul-le-mul_right one few in
      let oe = one_eps in
      let me = margin_eps in
      let dm = distance_margin in
      let dl = distance_ranged.low in
      let kh = g.kept.high in
      let kl = g.kept.low in
      let sum = count_add 22 (lit≤ tt) (near_self g.kept.ok) distance_ranged.ok (omega arith) (omega arith) in
      let th : m * pos64 t ≤ 1048576 * one = omega (arith, mul-le-mul_left m R.t_ranged.high, mul-le-mul_right one little) in
      let product = mul_int64 20 m (lit≤ tt) (number_sized m (omega arith)) R.t_ranged.ok R.t_ranged.low (omega arith) in
      omega (arith, le_near sum product test, strayed_few s few)

  -- ---- The oldest place leaves.
  low_left_sum : (e : Place) (q : List Place) (near_from : ℕ) → Below (kmers S) (e ∷ q) → suc (length q) ≤ S.window_size → gain S (drop (near_from - 1) q) ≤ gain S (drop near_from (e ∷ q))
  low_left_sum e q zero b l = gain_drop 1 (e ∷ q) b l
  low_left_sum e q (suc k) b l = let z : k ≡ suc k - 1 = omega arith in subst (λ (i : ℕ). gain S (drop i q) ≤ gain S (drop k q)) z (omega arith)

  pub low_left : (e : Place) (q : List Place) → Below (kmers S) (e ∷ q) → suc (length q) ≤ S.window_size → {s low_from near_from : ℕ} {h u : Float}
      → LowUnits S (e ∷ q) s low_from near_from h u → LowUnits S q s (low_from - 1) (near_from - 1) h u
  low_left e q b l {s} {low_from} {near_from} {h} {u} k =
      record {
        order = omega (arith, k.order);
        within = omega (arith, k.within);
        near = λ a m at some from. k.near (suc a) m (omega arith) some (omega arith);
        sum = omega (arith, k.sum, low_left_sum e q near_from b l);
        far = λ a m at from to. k.far (suc a) m (omega arith) (omega arith) (omega arith);
        h_kept = k.h_kept;
        u_kept = k.u_kept;
      }

  -- ---- A place joins the window q.
  module _ (q : List Place) (b : Below (kmers S) q) (room : length q < S.window_size) (e : Place) (be : BelowAt (kmers S) e) where
    abbrev n : ℕ
    n = length q

    abbrev q' : List Place
    q' = q ++ e ∷ []

    -- What it adds to the places from index a on.
    abbrev more : ℕ → ℕ
    more a = pos64 (added S (drop a q) e)

    pub long : length q' ≡ suc n
    long = omega (arith, length-append q (e ∷ []))

    pub gain_joined : (a : ℕ) → a ≤ n → gain S (drop a q') ≡ gain S (drop a q) + more a
    gain_joined a h = ap (gain S) (drop-append-le a q (e ∷ []) h) ∙ gain_snoc S R (drop a q) e be (omega (arith, length-drop a q))

    pub more_later : (c a : ℕ) → c ≤ a → more a ≤ more c
    more_later c a h = added_more S R (usual_shape C.usual) (drop a q) (drop c q) e (λ x. count_later x c a q h) (omega (arith, length-drop c q))

    pub loss_joined : (l : ℕ) → 0 < l → l ≤ n → loss S l + pos64 t ≤ loss S (suc l) + unevenness
    loss_joined l some h = omega (arith, f_rises (usual_shape C.usual) l some (omega arith))

    module _ {s low_from near_from : ℕ} {h u : Float} (k : LowUnits S q s low_from near_from h u) (few : s < 65535)
        (h' : Float) (h_kept : KeptNumber (suc s) h') (h_grows : pos64 h + more near_from + neg64 h' ≤ pos64 h' + neg64 h + unevenness)
        (v : Float) (v_ranged : Ranged 16 v) (v_high : more low_from ≤ pos64 v)
        (c m : ℕ) (c_from : near_from ≤ c) (c_in : c ≤ n) (m_is : m + c ≡ n + 2) (fresh : more c ≡ 0)
        (short : near_from < c → pos64 h' + margin * 2 + strayed (suc s) ≤ m * pos64 t + neg64 h') where
      sum_joined : gain S (drop near_from q') + neg64 h' ≤ pos64 h' + strayed (suc s)
      sum_joined = omega (arith, gain_joined near_from k.within, k.sum, h_grows)

      -- No place of its k-mer stands from index c on: these scores fall, and its own is below 0.
      fresh_near : (a l : ℕ) → a + l ≡ suc n → 0 < l → c ≤ a → gain S (drop a q') + margin * 2 ≤ loss S l + strayed (suc s)
      fresh_near a zero at some from = absurd (let z : ⊥ = omega arith in z)
      fresh_near a (suc l) at some from = go (eq-zero-or-pos l)
        where
          grown : gain S (drop a q') ≡ gain S (drop a q)
          grown = omega (arith, gain_joined a (omega arith), more_later c a from, fresh)

          go : (l ≡ 0) ⊎ (0 < l) → gain S (drop a q') + margin * 2 ≤ loss S (suc l) + strayed (suc s)
          go (inl z) =
              let an : n ≡ a = omega arith in
              let none : gain S (drop a q) ≡ 0 = subst (λ (i : ℕ). gain S (drop i q) ≡ 0) an (ap (gain S) (drop-length q) ∙ gain_none S) in
              omega (arith, grown, none, t_high)
          go (inr some) = omega (arith, grown, k.near a l (omega arith) some (omega (arith, c_from)), loss_joined l some (omega arith))

      -- Older ones gain at most h, and are so long that T alone is above that.
      older_near : (a l : ℕ) → a + l ≡ suc n → near_from ≤ a → a < c → gain S (drop a q') + margin * 2 ≤ loss S l + strayed (suc s)
      older_near a l at from to =
          let inside = gain_later near_from a q (b) (omega arith) from in
          let grown : gain S (drop a q') ≤ gain S (drop near_from q') = omega (arith, gain_joined a (omega arith), gain_joined near_from k.within, inside, more_later near_from a from) in
          omega (arith, grown, sum_joined, short (omega arith), mul-le-mul_right (pos64 t) (let z : m ≤ l = omega arith in z))

      far_joined : (a l : ℕ) → a + l ≡ suc n → low_from ≤ a → a < near_from → gain S (drop a q') + neg64 (u ⊕ (v ⊖ t)) ≤ pos64 (u ⊕ (v ⊖ t)) + loss S l + strayed (suc s)
      far_joined a zero at from to = absurd (let z : ⊥ = omega (arith, k.within) in z)
      far_joined a (suc l) at from to =
          let ch = stepped k.u_kept few v_ranged R.t_ranged in
          let kw = k.within in
          omega (arith, gain_joined a (omega arith), more_later low_from a from, v_high, k.far a l (omega arith) from to, ch.near.lower, loss_joined l (omega arith) (omega arith))

      near_joined : (a l : ℕ) → a + l ≡ suc n → 0 < l → near_from ≤ a → (a < c) ⊎ (c ≤ a) → gain S (drop a q') + margin * 2 ≤ loss S l + strayed (suc s)
      near_joined a l at some from (inl o) = older_near a l at from o
      near_joined a l at some from (inr o) = fresh_near a l at some o

      pub low_joined : LowUnits S q' (suc s) low_from near_from h' (u ⊕ (v ⊖ t))
      low_joined =
          record {
            order = k.order;
            within = omega (arith, k.within, long);
            near = λ a l at some from. near_joined a l (at ∙ long) some from (order_of a c);
            sum = sum_joined;
            far = λ a l at from to. far_joined a l (at ∙ long) from to;
            h_kept = h_kept;
            u_kept = (stepped k.u_kept few v_ranged R.t_ranged).kept;
          }

    -- ---- As the code's tests say it.
    abbrev Next : {s low_from near_from : ℕ} {h u : Float} → LowUnits S q s low_from near_from h u → Float → Float → Type 0
    Next {s} {low_from} {near_from} {h} {u} k h' v = LowUnits S q' (suc s) low_from near_from h' (u ⊕ (v ⊖ t))

    module _ {s low_from near_from : ℕ} {h u : Float} (k : LowUnits S q s low_from near_from h u) (few : s < 65535) where
      -- It adds nothing to the near places, so that h stays: an ambiguous place, or a k-mer that does not stand there.
      module _ (v : Float) (v_ranged : Ranged 16 v) (v_high : more low_from ≤ pos64 v) where
        pub low_fresh : more near_from ≡ 0 → Next k h v
        low_fresh z =
            let m : ℕ = n + 2 - near_from in
            let kw = k.within in
            low_joined k few h (kept_on k.h_kept) (omega arith) v v_ranged v_high near_from m (omega arith) kw (omega arith) z (λ l. absurd (let y : ⊥ = omega arith in y))

        -- A k-mer that does not stand from index c on, and that is so far away that m * T, m being the number of places from index c - 1 on, is above all the near places' ln entries.
        pub low_repeated : (c m : ℕ) → near_from ≤ c → c ≤ n → m + c ≡ n + 2 → more c ≡ 0 → T (le (h ⊕ v ⊕ distance) (number m ⊗ t)) → Next k (h ⊕ v) v
        low_repeated c m from to is z test =
            let g = raised k.h_kept few v_ranged in
            let later = more_later low_from near_from k.order in
            low_joined k few (h ⊕ v) g.kept (omega (arith, g.near.lower)) v v_ranged v_high c m from to is z (λ _. repeated g m (omega arith) (omega (arith, R.window_small)) test)

-- ---- While u is below 0 by the margins, each low place scores below 0.
module _ (S : Setup) (q : List Place) {s low_from near_from : ℕ} {h u : Float} (k : LowUnits S q s low_from near_from h u) (few : s ≤ 65535) (below : pos64 u + margin * 2 ≤ neg64 u) where
  low_at : (a l : ℕ) → a + l ≡ length q → 0 < l → low_from ≤ a → (a < near_from) ⊎ (near_from ≤ a) → gain S (drop a q) + margin ≤ loss S l
  low_at a l at some from (inl o) = omega (arith, k.far a l at from o, strayed_few s few)
  low_at a l at some from (inr o) = omega (arith, k.near a l at some o, strayed_few s few)

  pub low_used : (a l : ℕ) → a + l ≡ length q → 0 < l → low_from ≤ a → gain S (drop a q) + margin ≤ loss S l
  low_used a l at some from = low_at a l at some from (order_of a near_from)

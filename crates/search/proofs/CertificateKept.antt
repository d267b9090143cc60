-- A certificate that is kept letter by letter, as the code does it: the newest place adds nothing to the near ones (`kept_still`, `kept_fresh`), or is so far from its last that T alone outweighs them (`kept_repeated`).
use Rattle.std.proofs.Common.{◌≡◌, refl, sym, ap, ◌∙◌, subst, ◌&&◌, List, [], ◌∷◌, ◌++◌, Option, Some, None, ℕ, suc, ◌+◌, ◌-◌, ◌≤◌, ◌<◌, arith, length, get_or, drop, length-append, length-drop, T, Float}
use Rattle.std.proofs.lemmas.Option.{IfSome_then}
use lib.Ieee.{lt, le, neg}
use lib.Ieee.Fits.{and_l, and_r}
use Rattle.floats.specs.Arithmetic.{◌⊕◌, ◌⊖◌, ◌⊗◌}
use Rattle.floats.specs.Binary64.{zero64, number}
use Rattle.floats.proofs.Compare.{le_value}
use Rattle.floats.specs.Terms.Rounded.{pos64, Ranged}
use Rattle.floats.proofs.Sums.{zero_near, zero_ranged}
use Rattle.letters.specs.Place.{Place, ambiguous, plain, BelowAt, Below}
use Rattle.search.specs.declared.Certificate.{Certificate}
use Rattle.scans.specs.Setup.{Setup, ln_at, kmers}
use Rattle.scans.specs.Counts.{count}
use Rattle.scans.specs.Scans.{value}
use Rattle.scans.specs.Terms.Counted.{Counted}
use Rattle.scans.specs.Terms.Window.{counted_value}
use Rattle.scans.specs.Terms.Units.{distance}
use Rattle.search.specs.Terms.Certified.{LowUnits, StartUnits, Certifiable, Bounds, Certified, certificate_step}
use Rattle.scans.proofs.Test.{by_test}
use Rattle.scans.proofs.Counting.{hit_self, count_snoc, below_left, below_right}
use Rattle.scans.proofs.Exact.{added}
use Rattle.scans.proofs.Gain.{InRange, added_ranged, adds_none}
use Rattle.scans.proofs.FloatScore.{value_added}
use Rattle.scans.proofs.Shape.{usual_range}
use Rattle.search.proofs.CertificateLow.{adds_first, more_later, low_fresh, low_repeated}
use Rattle.search.proofs.CertificateStart.{start_left, start_joined}

-- The oldest place leaves; it is older than the start.
pub certified_left : (S : Setup) (e : Place) (q : List Place) → Below (kmers S) (e ∷ q) → suc (length q) ≤ S.window_size → (j : ℕ) (c : Option Certificate) → Certified S (e ∷ q) (suc j) c → Certified S q j c
certified_left S e q b l j c k =
    IfSome_then c k (λ d B.
    let near_in : d.near ≤ length q = omega (arith, B.units.j_before, B.units.low.order) in
    let same : suc (length q) - d.near - 1 ≡ length q - d.near = omega arith in
    record {
      setup = B.setup;
      joined = B.joined;
      low_from = B.low_from - 1;
      few = B.few;
      near_in = near_in;
      units =
          subst (λ (i : ℕ). StartUnits S q j d.left B.joined (B.low_from - 1) i d.h d.u d.gap) same
          (start_left S (usual_range B.setup.usual) B.setup e q b l B.units);
      u_below = B.u_below;
      gap_above = B.gap_above;
    })

-- What a place adds, by the counts of the window with it.
pub window_added : (S : Setup) (counts : List ℕ) (q₀ : List Place) (e : Place) → ((x : ℕ) → get_or counts x 0 ≡ count x (q₀ ++ e ∷ [])) → counted_value S.ln counts e ≡ added S q₀ e
window_added S counts q₀ ambiguous n = refl
window_added S counts q₀ (plain x) n = ap (λ (c : ℕ). ln_at S c) (omega (arith, n x, count_snoc x q₀ (plain x), hit_self x))

-- Nothing, where it does not stand among them.
adds_nothing : (S : Setup) (R : InRange S) (C : Certifiable S) (es : List Place) (e : Place) → ((x : ℕ) → e ≡ plain x → count x es ≡ 0) → pos64 (added S es e) ≡ 0
adds_nothing S R C es ambiguous f = adds_none S es
adds_nothing S R C es (plain x) f = adds_first S R C es x (f x refl)

module _ (S : Setup) (q₀ : List Place) (e : Place) (below : Below (kmers S) (q₀ ++ e ∷ [])) (room : length q₀ < S.window_size) (j : ℕ) (counts : List ℕ) (n : Counted (kmers S) counts (drop j q₀))
    (c : Certificate) (k : Bounds S q₀ j c) (lasts : 0 < c.left) (v w : Float) (v_is : v ≡ value S counts e) (w_is : w ≡ added S q₀ e) where
  abbrev q : List Place
  q = q₀ ++ e ∷ []

  abbrev t : Float
  t = S.score_threshold

  R : InRange S
  R = usual_range k.setup.usual

  b : Below (kmers S) q₀
  b = below_left (kmers S) q₀ (e ∷ []) below

  be : BelowAt (kmers S) e
  be = (below_right (kmers S) q₀ (e ∷ []) below).0

  abbrev near_from : ℕ
  near_from = length q₀ - c.near

  abbrev more : ℕ → ℕ
  more a = pos64 (added S (drop a q₀) e)

  few : k.joined < 65535
  few = omega (arith, k.few)

  v_added : v ≡ added S (drop j q₀) e
  v_added = v_is ∙ value_added S R counts (drop j q₀) e n

  v_ranged : Ranged 16 v
  v_ranged = subst (Ranged 16) (sym v_added) (added_ranged S R (drop j q₀) e (omega (arith, length-drop j q₀)))

  later : (c₀ a : ℕ) → c₀ ≤ a → more a ≤ more c₀
  later = more_later S R k.setup q₀ b room e be

  v_high : more k.low_from ≤ pos64 v
  v_high = omega (arith, ap pos64 v_added, later j k.low_from (omega (arith, k.units.j_before)))

  step : (h : Float) → LowUnits S q (suc k.joined) k.low_from near_from h (c.u ⊕ (v ⊖ t)) → Certified S q j (certificate_step t h v w c)
  step h low =
      let left : ℕ = c.left - 1 in
      let u : Float = c.u ⊕ (v ⊖ t) in
      let gap : Float = c.gap ⊖ (w ⊖ v) in
      let long : length q ≡ suc (length q₀) = omega (arith, length-append q₀ (e ∷ [])) in
      let one_less : c.left ≡ suc left = omega arith in
      let before : StartUnits S q₀ j (suc left) k.joined k.low_from near_from c.h c.u c.gap =
      subst (λ (r : ℕ). StartUnits S q₀ j r k.joined k.low_from near_from c.h c.u c.gap) one_less k.units in
      let after : StartUnits S q j left (suc k.joined) k.low_from near_from h u gap =
      subst (λ (x : Float). StartUnits S q j left (suc k.joined) k.low_from near_from h u (c.gap ⊖ (x ⊖ v))) (sym w_is)
      (subst (λ (x : Float). StartUnits S q j left (suc k.joined) k.low_from near_from h u (c.gap ⊖ (added S q₀ e ⊖ x))) (sym v_added) (start_joined S R k.setup q₀ b room e be before few low)) in
      let same : near_from ≡ length q - (c.near + 1) = omega arith in
      let c' : Certificate = record { left = left; near = c.near + 1; h = h; u = u; gap = gap } in
      by_test (λ (d : Option Certificate). Certified S q j d) (lt u (neg distance) && le distance gap) (Some c') None
      (λ tests. record {
        setup = k.setup;
        joined = suc k.joined;
        low_from = k.low_from;
        few = omega (arith, k.few);
        near_in = omega (arith, k.near_in);
        units = subst (λ (i : ℕ). StartUnits S q j left (suc k.joined) k.low_from i h u gap) same after;
        u_below = and_l (lt u (neg distance)) (le distance gap) tests;
        gap_above = and_r (lt u (neg distance)) (le distance gap) tests;
      }) (λ _. tt)

  fresh : more near_from ≡ 0 → Certified S q j (certificate_step t c.h v w c)
  fresh z = step c.h (low_fresh S R k.setup q₀ b room e be k.units.low few v v_ranged v_high z)

  -- Its ln entry is 0.
  pub kept_still : T (le v zero64) → Certified S q j (certificate_step t c.h v w c)
  kept_still none =
      let z = zero_ranged 16 in
      fresh (omega (arith, ap pos64 v_added, later j near_from (omega (arith, k.units.j_before, k.units.low.order)), (le_value v_ranged.ok z.ok).0 none, zero_near.upper, v_ranged.low, z.low))

  -- It does not stand among the near places.
  pub kept_fresh : ((x : ℕ) → e ≡ plain x → count x (drop near_from q₀) ≡ 0) → Certified S q j (certificate_step t c.h v w c)
  kept_fresh none = fresh (adds_nothing S R k.setup (drop near_from q₀) e none)

  -- It stands last where m places end at it.
  pub kept_repeated : (m : ℕ) → 2 ≤ m → m ≤ c.near + 1 → ((x : ℕ) → e ≡ plain x → count x (drop (length q₀ + 2 - m) q₀) ≡ 0) → T (le (c.h ⊕ v ⊕ distance) (number m ⊗ t))
      → Certified S q j (certificate_step t (c.h ⊕ v) v w c)
  kept_repeated m some in_near none test =
      step (c.h ⊕ v)
      (low_repeated S R k.setup q₀ b room e be k.units.low few v v_ranged v_high (length q₀ + 2 - m) m (omega (arith, k.near_in)) (omega arith) (omega (arith, k.near_in))
      (adds_nothing S R k.setup (drop (length q₀ + 2 - m) q₀) e none) test)

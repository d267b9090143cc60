-- Tables in range and of the usual shape. Where the l newest places of a window add less to a stretch from place a than their T and what f grows by over the last l places of a stretch
-- from place z, with a margin, no forward scan from a place between a and z is best at the newest place (`none_ends`).
-- A float sum from the newest place back that lies 2^-10 below the difference of the f entries tells it (`told_short`).
use Rattle.std.proofs.Common.{◌≡◌, refl, sym, ap, ◌∙◌, subst, ℕ, suc, ◌+◌, ◌*◌, ◌-◌, ◌≤◌, ◌<◌, mul-le-mul_right, add-one, arith, false, List, [], ◌∷◌, ◌++◌, length, get_or, take, drop, length-append, length-take, length-drop, take-append-drop, take-add, take-suc, drop-drop, get_or-drop, T, lit≤, Float}
use lib.Seq.{take-length}
use lib.Ieee.{binary64, lt, of_bits, fits}
use Rattle.floats.specs.Value.{magnitude}
use Rattle.floats.specs.Arithmetic.{◌⊕◌, ◌⊖◌}
use Rattle.floats.specs.Binary64.{one, zero64}
use Rattle.floats.proofs.Binary64.{one_eps, one_pos, near_self, near_as, count_sub}
use Rattle.floats.proofs.Sized.{Sized, sized_parts}
use Rattle.floats.proofs.Sums.{after_as, after_start, after_step, after_shift}
use Rattle.floats.proofs.Tests.{lt_near}
use Rattle.floats.specs.Terms.Rounded.{Near, Ranged, eps, pos64, err, After}
use Rattle.letters.specs.Place.{Place, ambiguous, plain, BelowAt, Below}
use Rattle.scans.specs.Setup.{Setup, ln_at, f_at, kmers}
use Rattle.scans.specs.Counts.{count, lower}
use Rattle.scans.specs.Scans.{dust_forward}
use Rattle.scans.specs.Terms.Window.{counted_value}
use Rattle.search.specs.Terms.Fails.{NoneEnds}
use Rattle.scans.proofs.Counting.{count_append, count_snoc, hit_self, below_right, below_drop, below_take, Counted, lower_newest}
use Rattle.scans.proofs.Exact.{added}
use Rattle.scans.proofs.ForwardScore.{forward_shorter}
use Rattle.scans.proofs.Gain.{InRange, gain, added_ranged, gain_snoc}
use Rattle.scans.proofs.Rising.{gain_rise}
use Rattle.scans.proofs.Shape.{margin, margin_eps, unevenness, unevenness_eps, UsualShape, f_widens}

-- 2^-10, by which the floats must be apart.
abbrev pub certain : Float
certain = of_bits binary64 0x3f50_0000_0000_0000

abbrev certain_units : ℕ
certain_units = 17592186044416 * eps

certain_sized : Sized false certain_units certain
unfolding of_bits fits magnitude eps
certain_sized = record { ok = record { finite = tt; fits = tt }; sign_is = refl; units = refl }

-- The difference of two f entries, less 2^-10.
less_certain : (s : Float) (P N : ℕ) → Near binary64 s P N (1048576 * eps) → P ≤ 1048576 * one → N ≤ 1048576 * one → Near binary64 (s ⊖ certain) P (N + certain_units) (3145728 * eps)
less_certain s P N d p n =
    let c = certain_sized in
    let cp = sized_parts c in
    let small : 1048576 * eps + certain_units ≤ one = let oe = one_eps in omega arith in
    near_as (count_sub 21 (lit≤ tt) d c.ok (omega (arith, cp.0, cp.1)) (omega (arith, cp.0, cp.1))) (omega (arith, cp.0, cp.1)) (omega arith)

between : (x y : Float) → Ranged 1048576 x → Ranged 1048576 y → Near binary64 (x ⊖ y ⊖ certain) (pos64 x) (pos64 y + certain_units) (3145728 * eps)
between x y X Y =
    let xl = X.low in
    let yl = Y.low in
    less_certain (x ⊖ y) (pos64 x) (pos64 y) (near_as (count_sub 20 (lit≤ tt) (near_self X.ok) Y.ok (omega (arith, X.high)) (omega (arith, Y.high))) (omega arith) (omega arith)) X.high Y.high

-- ---- In naturals: D, U, A, W are gains, T and the f entries in units, for `size` places of which `rest` are not among the l newest.
weighed : (D U A W t F G P Q l rest size : ℕ) → size ≡ rest + l → size ≤ 65535 → A + Q + margin ≤ W + l * t + P → D + W ≤ A + U → P + G ≤ F + Q + l * unevenness
    → U + (size * t + F) ≤ D + (rest * t + G) + (err (rest + 1) + err (size + 1)) → ⊥
weighed D U A W t F G P Q l rest size e k short less wide best =
    let m = margin_eps in
    let o = one_eps in
    let op = one_pos in
    let u : l * unevenness ≡ l * (8388608 * eps) = ap (λ (y : ℕ). l * y) unevenness_eps in
    let s : size * t ≡ (rest + l) * t = ap (λ (y : ℕ). y * t) e in
    let le : l * eps ≤ 65535 * eps = mul-le-mul_right eps (omega arith) in
    let re : rest * eps ≤ 65535 * eps = mul-le-mul_right eps (omega arith) in
    let se : size * eps ≤ 65535 * eps = mul-le-mul_right eps k in
    omega arith

settled : (A Y Z W l : ℕ) → l ≤ 65535 → A + (Y + certain_units) < Z + W + (err l + 3145728 * eps) → A + Y + margin ≤ W + Z
settled A Y Z W l k h = let m = margin_eps in let le : l * eps ≤ 65535 * eps = mul-le-mul_right eps k in omega arith

-- The places of q from a on but for the l newest.
abbrev pub without : List Place → ℕ → ℕ → List Place
without q a l = take (length q - a - l) (drop a q)

-- The walk has read the l newest places of q, all newer than z: the counts are those of the others from a on, and the float sum is what the l add to them less T for each.
pub record Back (S : Setup) (q : List Place) (a z l : ℕ) (s : Float) (counts : List ℕ) : Type 0 where
  pub inside : z + l < length q
  pub counted : Counted (kmers S) counts (without q a l)
  pub sum : After l s (gain S (drop a q)) (gain S (without q a l) + l * pos64 S.score_threshold)

module _ (S : Setup) (R : InRange S) (shape : UsualShape S) (q : List Place) (b : Below (kmers S) q) (h : length q ≤ S.window_size) where
  abbrev n : ℕ
  n = length q

  abbrev t : Float
  t = S.score_threshold

  -- The l newest places add no more to a later start; m and r places stand before them, from a and from j on.
  less_added : (a d j l m r : ℕ) → a + d ≡ j → a + m + l ≡ n → j + r + l ≡ n → gain S (drop j q) + gain S (take m (drop a q)) ≤ gain S (drop a q) + gain S (take r (drop j q))
  less_added a d j l m r ad am jr =
      let u : List Place = take r (drop j q) in
      let v : List Place = take m (drop a q) in
      let es : List Place = drop (a + m) q in
      let first : List Place = take d (drop a q) in
      let x : m ≡ d + r = omega arith in
      let y : j + r ≡ a + m = omega arith in
      let uv : v ≡ first ++ u = ap (λ (k : ℕ). take k (drop a q)) x ∙ take-add d r (drop a q) ∙ ap (λ (l : List Place). first ++ take r l) (drop-drop d a q ∙ ap (λ (k : ℕ). drop k q) ad) in
      let ue : u ++ es ≡ drop j q = ap (λ (l : List Place). u ++ l) (sym (drop-drop r j q ∙ ap (λ (k : ℕ). drop k q) y)) ∙ take-append-drop r (drop j q) in
      let ve : v ++ es ≡ drop a q = ap (λ (l : List Place). v ++ l) (sym (drop-drop m a q)) ∙ take-append-drop m (drop a q) in
      let le = length-drop (a + m) q in
      let lv = length-take m (drop a q) in
      let g = gain_rise S R shape u v es (λ (x : ℕ). omega (arith, ap (count x) uv, count_append x first u)) (omega (arith, ap length uv, length-append first u)) (below_drop (kmers S) (a + m) q b) (omega arith) in
      omega (arith, g, ap (gain S) ue, ap (gain S) ve)

  module _ (a z : ℕ) (a_older : a ≤ z) where
    -- What the l newest places add, their T, and what f grows by.
    abbrev Short : ℕ → Type 0
    Short l = gain S (drop a q) + pos64 (f_at S (n - z - l)) + margin ≤ gain S (without q a l) + l * pos64 t + pos64 (f_at S (n - z))

    -- Of a start at j: y, r and m places stand before the l newest from z, from j and from a on.
    fails_at : (l j d m r y : ℕ) (x : Float) → 0 < y → 0 < l → y ≤ r → a + d ≡ j → a + m + l ≡ n → j + r + l ≡ n
        → gain S (drop a q) + pos64 (f_at S y) + margin ≤ gain S (take m (drop a q)) + l * pos64 t + pos64 (f_at S (y + l)) → (dust_forward S q j x).sums.found ≡ length q → ⊥
    fails_at l j d m r y x some more yr ad am jr short e =
        let D : List Place = drop j q in
        let U : List Place = take r D in
        let ld : length D ≡ r + l = omega (arith, length-drop j q) in
        let lu : length U ≡ r = omega (arith, length-take r D) in
        let w : length U + l ≡ length D = omega arith in
        let wide : pos64 (f_at S (y + l)) + pos64 (f_at S (length U)) ≤ pos64 (f_at S (length D)) + pos64 (f_at S y) + l * unevenness =
        subst (λ (m : ℕ). pos64 (f_at S (y + l)) + pos64 (f_at S (length U)) ≤ pos64 (f_at S m) + pos64 (f_at S y) + l * unevenness) w (f_widens shape y (length U) l some (omega arith) (omega arith)) in
        weighed (gain S D) (gain S U) (gain S (drop a q)) (gain S (take m (drop a q))) (pos64 t) (pos64 (f_at S (length D))) (pos64 (f_at S (length U))) (pos64 (f_at S (y + l))) (pos64 (f_at S y)) l (length U) (length D)
        (sym w) (omega (arith, R.window_small)) short (less_added a d j l m r ad am jr) wide (forward_shorter S R q j x b h (omega arith) e r (omega arith) (omega arith))

    pub none_ends : (l : ℕ) → 0 < l → z + l < n → Short l → NoneEnds S q a z
    none_ends l some k short =
        let y_is : n - z ≡ n - z - l + l = omega arith in
        record {
          fails = λ j x p o.
              fails_at l j (j - a) (n - a - l) (n - j - l) (n - z - l) x (omega arith) some (omega arith) (omega arith) (omega arith) (omega arith)
              (subst (λ (m : ℕ). gain S (drop a q) + pos64 (f_at S (n - z - l)) + margin ≤ gain S (without q a l) + l * pos64 t + pos64 (f_at S m)) y_is short);
        }

    -- ---- The walk.
    pub back_start : z < n → (counts : List ℕ) → Counted (kmers S) counts (drop a q) → Back S q a z 0 zero64 counts
    back_start k counts c =
        let e : drop a q ≡ without q a 0 = sym (ap (λ (m : ℕ). take m (drop a q)) (let y : n - a - 0 ≡ length (drop a q) = omega (arith, length-drop a q) in y) ∙ take-length (drop a q)) in
        record {
          inside = omega arith;
          counted = subst (λ (r : List Place). Counted (kmers S) counts r) e c;
          sum = after_shift (gain S (drop a q)) (gain S (without q a 0) + 0 * pos64 t) after_start (omega (arith, ap (gain S) e));
        }

    -- One place more.
    module _ (l : ℕ) (s : Float) (counts : List ℕ) (c : Back S q a z l s counts) (k : z + (l + 1) < n) (e : Place) (at : get_or q (n - (l + 1)) ambiguous ≡ e) where
      abbrev seen : List Place
      seen = without q a (l + 1)

      next : without q a l ≡ seen ++ e ∷ []
      next =
          let i : ℕ = n - a - (l + 1) in
          let x : n - a - l ≡ suc i = omega arith in
          let y : a + i ≡ n - (l + 1) = omega arith in
          ap (λ (m : ℕ). take m (drop a q)) x ∙ take-suc (drop a q) i ambiguous (omega (arith, length-drop a q))
          ∙ ap (λ (p : Place). seen ++ p ∷ []) (get_or-drop a q i ambiguous ∙ ap (λ (m : ℕ). get_or q m ambiguous) y ∙ at)

      below_here : BelowAt (kmers S) e
      below_here = (below_right (kmers S) seen (e ∷ []) (subst (λ (r : List Place). Below (kmers S) r) next (below_take (kmers S) (n - a - l) (drop a q) (below_drop (kmers S) a q b)))).0

      value_here : (p : Place) → without q a l ≡ seen ++ p ∷ [] → counted_value S.ln counts p ≡ added S seen p
      value_here ambiguous y = refl
      value_here (plain x) y = ap (λ (m : ℕ). ln_at S m) (c.counted.counted x ∙ ap (count x) y ∙ count_snoc x seen (plain x) ∙ omega (arith, hit_self x))

      seen_short : length seen < S.window_size
      seen_short = omega (arith, length-take (n - a - (l + 1)) (drop a q), c.inside)

      abbrev s' : Float
      s' = s ⊕ (counted_value S.ln counts e ⊖ t)

      sum_next : After (l + 1) s' (gain S (drop a q)) (gain S seen + (l + 1) * pos64 t)
      sum_next =
          let g : gain S (without q a l) ≡ gain S seen + pos64 (added S seen e) = ap (gain S) next ∙ gain_snoc S R seen e below_here seen_short in
          rw (value_here e next)
          (after_as (after_shift (gain S (drop a q)) (gain S seen + (l + 1) * pos64 t) (after_step c.sum (omega (arith, c.inside, R.window_small)) (added_ranged S R seen e seen_short) R.t_ranged) (omega (arith, g)))
          (sym (add-one l)) refl refl)

      pub back_next : Back S q a z (l + 1) s' (lower counts e)
      back_next =
          record {
            inside = k;
            counted = lower_newest (kmers S) counts seen e below_here (subst (λ (r : List Place). Counted (kmers S) counts r) next c.counted);
            sum = sum_next;
          }

      abbrev limit : Float
      limit = f_at S (n - z) ⊖ f_at S (n - z - (l + 1)) ⊖ certain

      limit_near : Near binary64 limit (pos64 (f_at S (n - z))) (pos64 (f_at S (n - z - (l + 1))) + certain_units) (3145728 * eps)
      limit_near =
          let x = R.f_ranged (n - z) (omega arith) (omega arith) in
          let y = R.f_ranged (n - z - (l + 1)) (omega arith) (omega arith) in
          between (f_at S (n - z)) (f_at S (n - z - (l + 1))) x y

      pub told_short : T (lt s' limit) → Short (l + 1)
      told_short p =
          settled (gain S (drop a q)) (pos64 (f_at S (n - z - (l + 1)))) (pos64 (f_at S (n - z))) (gain S seen + (l + 1) * pos64 t) (l + 1) (omega (arith, c.inside, R.window_small)) (lt_near sum_next.near limit_near p)

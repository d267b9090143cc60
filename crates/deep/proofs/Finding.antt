-- Where whole numbers tell that all starts are low, the search finds nothing (`finds_none`), since the whole numbers of tables of the usual shape bend (`bends_of`).
use Rattle.std.proofs.Common.{◌≡◌, sym, ap, subst, ℕ, zero, suc, ◌+◌, ◌*◌, ◌≤◌, ◌<◌, le_of_mul-le-mul_right, mul-le-mul_right, ◌⊎◌, inl, inr, arith, Float, List, length, length-drop, get_or, drop}
use lib.Ieee.{nan}
use Rattle.floats.specs.Binary64.{one}
use Rattle.floats.specs.Terms.Rounded.{Ranged, pos64}
use Rattle.letters.specs.Place.{Place}
use Rattle.scans.specs.Setup.{Setup, ln_at, f_at, kmers}
use Rattle.scans.specs.Terms.Units.{margin, unevenness}
use Rattle.scans.specs.Terms.Units.{gain as exact_gain, loss as exact_loss}
use Rattle.scans.specs.Terms.Shape.{Usual}
use Rattle.scans.proofs.Counting.{below_drop}
use Rattle.scans.proofs.Gain.{InRange}
use Rattle.scans.proofs.Shape.{UsualShape, usual_range, usual_shape, unevenness_eps}
use Rattle.deep.specs.declared.Scale.{Scale}
use Rattle.deep.specs.Scores.{whole, gain, loss, mu}
use Rattle.deep.specs.Terms.Wholes.{Wholes, Scaled}
use Rattle.deep.specs.Terms.Blocks.{Narrow}
use Rattle.deep.specs.Terms.Told.{LowTo, Bends, FindsNone}
use Rattle.deep.proofs.Rounds.{unit, unit_eps, unit_pos, one_unit, whole_rounds}
use Rattle.deep.proofs.Sums.{three}
use Rattle.deep.proofs.Near.{f_near, sure_below, no_start}

uneven_unit : unevenness ≡ 2 * unit
uneven_unit = omega (arith, unevenness_eps, unit_eps)

module _ (s : Scale) (S : Setup) (u : Usual S) (c : Scaled S s.threshold s.ln.now s.f.now) where
  R : InRange S
  R = usual_range u

  shape : UsualShape S
  shape = usual_shape u

  abbrev F : ℕ → ℕ
  F l = get_or s.f.now l 0

  near : (l : ℕ) → 0 < l → l ≤ S.window_size → (F l * unit ≤ pos64 (f_at S l) + 2 * unit) × (pos64 (f_at S l) ≤ F l * unit + 2 * unit)
  near l some h = f_near S R s.threshold s.ln.now s.f.now c l some h

  bend : (i j : ℕ) → i ≤ j → j < S.window_size → F (suc i) + F j ≤ F (suc j) + F i + 10
  bend zero zero h k = omega arith
  bend zero (suc j) h k =
      let a = near 1 (omega arith) (omega arith) in
      let b = near (suc j) (omega arith) (omega arith) in
      let d = near (suc (suc j)) (omega arith) (omega arith) in
      let e = shape.f_first (suc j) (omega arith) k in
      let z = c.f_is.none in
      let v = uneven_unit in
      le_of_mul-le-mul_right (let y : (F 1 + F (suc j)) * unit ≤ (F (suc (suc j)) + F 0 + 10) * unit = omega (arith, a.0, b.0, d.1, e) in y) unit_pos
  bend (suc i) zero h k = absurd (let z : ⊥ = omega arith in z)
  bend (suc i) (suc j) h k =
      let a = near (suc (suc i)) (omega arith) (omega arith) in
      let b = near (suc j) (omega arith) (omega arith) in
      let d = near (suc (suc j)) (omega arith) (omega arith) in
      let g = near (suc i) (omega arith) (omega arith) in
      let e = shape.f_bends (suc i) (suc j) (omega arith) h k in
      let v = uneven_unit in
      le_of_mul-le-mul_right (let y : (F (suc (suc i)) + F (suc j)) * unit ≤ (F (suc (suc j)) + F (suc i) + 10) * unit = omega (arith, a.0, b.0, d.1, g.1, e) in y) unit_pos

  pub bends_of : (w : ℕ) → w ≤ S.window_size → Bends s w
  bends_of w h =
      record {
        bends = λ i j l k.
            let x : i + 1 ≡ suc i = omega arith in
            let y : j + 1 ≡ suc j = omega arith in
            omega (arith, bend i j l (omega arith), ap F x, ap F y);
      }

-- ---- How large the whole numbers are.
pub whole_small : (x : Float) (B limit : ℕ) → Ranged B x → B ≤ 1048576 → B * 4294967296 + 2 < limit → whole x < limit
whole_small x B limit r h k =
    let w = whole_rounds x (record { ok = r.ok; high = omega (arith, r.high, mul-le-mul_right one h); low = r.low }) in
    let o = one_unit in
    let e : B * one ≡ B * (4294967296 * unit) = ap (λ (z : ℕ). B * z) one_unit in
    let le : whole x ≤ B * 4294967296 + 2 = le_of_mul-le-mul_right (let y : whole x * unit ≤ (B * 4294967296 + 2) * unit = omega (arith, w.lower, r.high) in y) unit_pos in
    omega arith

table_small : (w limit : ℕ) (floats : List Float) (table : List ℕ) → Wholes w floats table → 0 < limit → ((i : ℕ) → 0 < i → i ≤ w → whole (get_or floats i nan) < limit) → (i : ℕ) → get_or table i 0 < limit
table_small w limit floats table W some f zero = omega (arith, W.none)
table_small w limit floats table W some f (suc i) = go (three (suc i) w)
  where
    go : (suc i ≡ w) ⊎ ((suc i < w) ⊎ (w < suc i)) → get_or table (suc i) 0 < limit
    go (inl e) = omega (arith, W.entry (suc i) (omega arith) (omega arith), f (suc i) (omega arith) (omega arith))
    go (inr (inl e)) = omega (arith, W.entry (suc i) (omega arith) (omega arith), f (suc i) (omega arith) (omega arith))
    go (inr (inr e)) = omega (arith, W.rest (suc i) e)

pub narrow_of : (s : Scale) (S : Setup) → Scaled S s.threshold s.ln.now s.f.now → 8064 < length s.ln.now → Usual S → Narrow s
narrow_of s S c long u =
    let R = usual_range u in
    record {
      reach = long;
      none = c.ln_is.none;
      t_small = rw c.t_is (whole_small S.score_threshold 16 137438953472 R.t_ranged (omega arith) (omega arith));
      ln_small = table_small S.window_size 137438953472 S.ln s.ln.now c.ln_is (omega arith) (λ i some h. whole_small (ln_at S i) 16 137438953472 (R.ln_ranged i some h) (omega arith) (omega arith));
      f_small = table_small S.window_size 9007199254740992 S.f s.f.now c.f_is (omega arith) (λ i some h. whole_small (f_at S i) 1048576 9007199254740992 (R.f_ranged i some h) (omega arith) (omega arith));
    }

pub finds_none : (s : Scale) (q : List Place) → 0 < length q → (Bends s (length q) → LowTo s q (length q)) → FindsNone s q
finds_none s q some f =
    record {
      none_found = λ S c u b l.
          let low = f (bends_of s S u c (length q) l) in
          no_start S (usual_range u) q b l some
          (λ a m e sm.
          let long : length (drop a q) ≡ m = omega (arith, length-drop a q) in
          let test : gain s.ln.now (drop a q) + mu ≤ loss s.threshold s.f.now (length (drop a q)) = subst (λ (k : ℕ). gain s.ln.now (drop a q) + mu ≤ loss s.threshold s.f.now k) (sym long) (low.low a m e sm (omega arith)) in
          subst (λ (k : ℕ). exact_gain S (drop a q) + margin ≤ exact_loss S k) long
          (sure_below S (usual_range u) s.threshold s.ln.now s.f.now c (drop a q) (below_drop (kmers S) a q b) (omega arith) (omega arith) test));
    }

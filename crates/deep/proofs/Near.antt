-- Tables in range: the whole numbers of a stretch of l places are off by less than 4 l + 2 of 2^-32, so that what they tell 2^-10 apart holds by the margin of the laws about floats (`sure_below`, `sure_apart`, `sure_short`).
-- Where each start scores 2^-10 below 0, the search finds nothing (`no_start`).
use Rattle.std.proofs.Common.{◌≡◌, refl, ap, ℕ, suc, ◌+◌, ◌*◌, ◌≤◌, ◌<◌, mul-le-mul_left, mul-le-mul_right, arith, List, [], ◌∷◌, length, get_or, drop, length-drop, Float}
use Rattle.floats.specs.Terms.Rounded.{Ranged, eps, pos64}
use Rattle.floats.proofs.Binary64.{one_eps, one_pos}
use Rattle.letters.specs.Place.{Place, ambiguous, plain, Below}
use Rattle.scans.specs.Setup.{Setup, ln_at, f_at, kmers}
use Rattle.scans.specs.Counts.{count}
use Rattle.scans.specs.Scans.{Find, none, dust_forward, dust_backward}
use Rattle.scans.specs.Terms.Units.{margin}
use Rattle.scans.specs.Terms.Units.{gain as exact_gain, loss as exact_loss}
use Rattle.scans.proofs.Counting.{count_le}
use Rattle.scans.proofs.Exact.{added}
use Rattle.scans.proofs.Gain.{InRange, gain_none, gain_cons, adds_none}
use Rattle.scans.proofs.Shape.{margin_eps}
use Rattle.scans.proofs.Finds.{backward_facts}
use Rattle.scans.proofs.ForwardScore.{forward_inside, forward_find}
use Rattle.deep.specs.Scores.{whole, order, gain, loss, mu}
use Rattle.deep.specs.Terms.Wholes.{Scaled}
use Rattle.deep.proofs.Rounds.{unit, unit_eps, whole_rounds}

pub margin_unit : margin ≡ 1048576 * unit
margin_unit = omega (arith, margin_eps, unit_eps)

wider : {x : Float} → Ranged 16 x → Ranged 1048576 x
wider r = record { ok = r.ok; high = omega (arith, r.high); low = r.low }

module _ (S : Setup) (R : InRange S) (t : ℕ) (ln f : List ℕ) (c : Scaled S t ln f) where
  -- What a place adds.
  added_near : (q : List Place) (e : Place) → length q < S.window_size → (get_or ln (order q e) 0 * unit ≤ pos64 (added S q e) + 2 * unit) × (pos64 (added S q e) ≤ get_or ln (order q e) 0 * unit + 2 * unit)
  added_near q ambiguous l = let n = c.ln_is.none in let z = adds_none S q in (rw n (omega arith), rw n (omega arith))
  added_near q (plain x) l =
      let few = count_le x q in
      let is = c.ln_is.entry (suc (count x q)) (omega arith) (omega arith) in
      let r = whole_rounds (ln_at S (suc (count x q))) (wider (R.ln_ranged (suc (count x q)) (omega arith) (omega arith))) in
      (rw is r.lower, rw is r.upper)

  pub gain_near : (q : List Place) → Below (kmers S) q → length q ≤ S.window_size
      → (gain ln q * unit ≤ exact_gain S q + length q * (2 * unit)) × (exact_gain S q ≤ gain ln q * unit + length q * (2 * unit))
  gain_near [] b l = (omega arith, omega (arith, gain_none S))
  gain_near (e ∷ q) b l =
      let r = gain_near q b.1 (omega arith) in
      let a = added_near q e (omega arith) in
      let g = gain_cons S R q e b.0 (omega arith) in
      (omega (arith, r.0, a.0), omega (arith, r.1, a.1))

  pub f_near : (l : ℕ) → 0 < l → l ≤ S.window_size → (get_or f l 0 * unit ≤ pos64 (f_at S l) + 2 * unit) × (pos64 (f_at S l) ≤ get_or f l 0 * unit + 2 * unit)
  f_near l some h =
      let r = whole_rounds (f_at S l) (R.f_ranged l some h) in
      let is = c.f_is.entry l some (omega arith) in
      (rw is r.lower, rw is r.upper)

  pub loss_near : (l : ℕ) → 0 < l → l ≤ S.window_size → (loss t f l * unit ≤ exact_loss S l + (2 * l + 2) * unit) × (exact_loss S l ≤ loss t f l * unit + (2 * l + 2) * unit)
  loss_near l some h =
      let r = whole_rounds S.score_threshold (wider R.t_ranged) in
      let s = f_near l some h in
      let low = mul-le-mul_left l r.lower in
      let high = mul-le-mul_left l r.upper in
      let e : l * (t * unit) ≡ l * (whole S.score_threshold * unit) = ap (λ (z : ℕ). l * (z * unit)) c.t_is in
      (omega (arith, low, s.0, e), omega (arith, high, s.1, e))

  -- ---- A stretch that scores 2^-10 below 0 or less.
  pub sure_below : (q : List Place) → Below (kmers S) q → length q ≤ S.window_size → 0 < length q → gain ln q + mu ≤ loss t f (length q) → exact_gain S q + margin ≤ exact_loss S (length q)
  sure_below q b l some h =
      let g = gain_near q b l in
      let k = loss_near (length q) some l in
      let w = R.window_small in
      let m = margin_unit in
      let few = mul-le-mul_right unit (let z : length q ≤ 65535 = omega arith in z) in
      let u = mul-le-mul_right unit h in
      omega (arith, g.1, k.0)

  -- A stretch p that scores 2^-10 less than another, q, or less still. Both may have up to 65,535 places.
  pub sure_apart : (p q : List Place) → Below (kmers S) p → Below (kmers S) q → length p ≤ S.window_size → length q ≤ S.window_size → 0 < length p → 0 < length q
      → gain ln p + mu + loss t f (length q) ≤ gain ln q + loss t f (length p) → exact_gain S p + margin + exact_loss S (length q) ≤ exact_gain S q + exact_loss S (length p)
  sure_apart p q bp bq lp lq somep someq h =
      let gp = gain_near p bp lp in
      let gq = gain_near q bq lq in
      let kp = loss_near (length p) somep lp in
      let kq = loss_near (length q) someq lq in
      let w = R.window_small in
      let m = margin_unit in
      let fewp = mul-le-mul_right unit (let z : length p ≤ 65535 = omega arith in z) in
      let fewq = mul-le-mul_right unit (let z : length q ≤ 65535 = omega arith in z) in
      let u = mul-le-mul_right unit h in
      omega (arith, gp.1, gq.0, kp.0, kq.1)

  -- The l newest places of the stretch p add less to the others, r, than T for each and what f grows by from entry y over l places, by 2^-10 or more.
  pub sure_short : (p r : List Place) (l y : ℕ) → Below (kmers S) p → Below (kmers S) r → length p ≤ S.window_size → length r ≤ S.window_size → 0 < y → y + l ≤ S.window_size
      → gain ln p + get_or f y 0 + mu ≤ gain ln r + l * t + get_or f (y + l) 0 → exact_gain S p + pos64 (f_at S y) + margin ≤ exact_gain S r + l * pos64 S.score_threshold + pos64 (f_at S (y + l))
  sure_short p r l y bp br lp lr some few h =
      let gp = gain_near p bp lp in
      let gr = gain_near r br lr in
      let fy = f_near y some (omega arith) in
      let fl = f_near (y + l) (omega arith) few in
      let low = mul-le-mul_left l (whole_rounds S.score_threshold (wider R.t_ranged)).lower in
      let e : l * (t * unit) ≡ l * (whole S.score_threshold * unit) = ap (λ (z : ℕ). l * (z * unit)) c.t_is in
      let w = R.window_small in
      let m = margin_unit in
      let fewp = mul-le-mul_right unit (let z : length p ≤ 65535 = omega arith in z) in
      let fewr = mul-le-mul_right unit (let z : length r ≤ 65535 = omega arith in z) in
      let fewl = mul-le-mul_right unit (let z : l ≤ 65535 = omega arith in z) in
      let u = mul-le-mul_right unit h in
      omega (arith, gp.1, gr.0, fy.1, fl.0, low, e)

-- No float decides otherwise: a find's exact score is at least minus what the roundings come to.
pub low_fails : (S : Setup) (R : InRange S) (q : List Place) → Below (kmers S) q → length q ≤ S.window_size → 0 < length q
    → (j : ℕ) (m : Float) → ((l : ℕ) → j + l ≡ length q → 0 < l → exact_gain S (drop j q) + margin ≤ exact_loss S l) → (dust_forward S q j m).sums.found ≡ length q → ⊥
low_fails S R q b l some j m low e =
    let inside = forward_inside S q j m some e in
    let long = length-drop j q in
    let f = forward_find S R q j m b l some e in
    let k = low (length (drop j q)) (omega (arith, long, inside)) (omega (arith, long, inside)) in
    let few = mul-le-mul_right eps (let z : length (drop j q) ≤ 65535 = omega (arith, R.window_small) in z) in
    let o = one_pos in
    omega (arith, margin_eps, one_eps)

pub no_start : (S : Setup) (R : InRange S) (q : List Place) → Below (kmers S) q → length q ≤ S.window_size → 0 < length q
    → ((a l : ℕ) → a + l ≡ length q → 0 < l → exact_gain S (drop a q) + margin ≤ exact_loss S l) → (dust_backward S q).find ≡ none
no_start S R q b l some low = backward_facts S q (λ (r : Find) _. r ≡ none) (λ _. refl) (λ j m e. absurd (low_fails S R q b l some j m (low j) e))

-- A start that leads in whole numbers, and whose places score best at the newest one, is what the search finds (`finds_at`).
use Rattle.std.proofs.Common.{◌≡◌, ap, ℕ, ◌+◌, ◌*◌, ◌-◌, ◌≤◌, ◌<◌, mul-le-mul_right, arith, inl, refl, List, length, length-take, length-drop, take, drop}
use Rattle.floats.specs.Terms.Rounded.{pos64, neg64}
use Rattle.letters.specs.Place.{Place, Below}
use Rattle.scans.specs.Setup.{Setup, kmers}
use Rattle.scans.specs.Terms.Units.{margin}
use Rattle.scans.specs.Terms.Units.{gain as exact_gain, loss as exact_loss}
use Rattle.scans.proofs.Counting.{below_drop, below_take}
use Rattle.scans.proofs.Gain.{InRange}
use Rattle.scans.proofs.Shape.{usual_range, usual_shape}
use Rattle.certificates.proofs.CertainFind.{units_find}
use Rattle.deep.specs.declared.Scale.{Scale}
use Rattle.deep.specs.Scores.{whole, gain, loss, mu}
use Rattle.deep.specs.Terms.Wholes.{Scaled}
use Rattle.deep.specs.Terms.Found.{Drops, LeadsAt, EndsBest, FindsAt}
use Rattle.deep.proofs.Rounds.{unit, whole_rounds}
use Rattle.deep.proofs.Near.{margin_unit, gain_near, loss_near, sure_below, sure_apart}

module _ (s : Scale) (S : Setup) (R : InRange S) (c : Scaled S s.threshold s.ln.now s.f.now) where
  -- A stretch that scores 2^-10 or more.
  sure_high : (q : List Place) → Below (kmers S) q → length q ≤ S.window_size → 0 < length q → mu + loss s.threshold s.f.now (length q) ≤ gain s.ln.now q → margin + exact_loss S (length q) ≤ exact_gain S q
  sure_high q b l some h =
      let g = gain_near S R s.threshold s.ln.now s.f.now c q b l in
      let k = loss_near S R s.threshold s.ln.now s.f.now c (length q) some l in
      let w = R.window_small in
      let m = margin_unit in
      let few = mul-le-mul_right unit (let z : length q ≤ 65535 = omega arith in z) in
      let u = mul-le-mul_right unit h in
      omega (arith, g.0, k.1)

  -- A stretch q that scores no more than the drop limit less 2^-10 below another, p.
  sure_within : (limit : ℕ) → Drops S limit → (p q : List Place) → Below (kmers S) p → Below (kmers S) q → length p ≤ S.window_size → length q ≤ S.window_size → 0 < length p → 0 < length q
      → gain s.ln.now p + mu + loss s.threshold s.f.now (length q) ≤ gain s.ln.now q + limit + loss s.threshold s.f.now (length p)
      → exact_gain S p + margin + exact_loss S (length q) + neg64 S.drop_limit ≤ exact_gain S q + pos64 S.drop_limit + exact_loss S (length p)
  sure_within limit d p q bp bq lp lq somep someq h =
      let gp = gain_near S R s.threshold s.ln.now s.f.now c p bp lp in
      let gq = gain_near S R s.threshold s.ln.now s.f.now c q bq lq in
      let kp = loss_near S R s.threshold s.ln.now s.f.now c (length p) somep lp in
      let kq = loss_near S R s.threshold s.ln.now s.f.now c (length q) someq lq in
      let r = whole_rounds S.drop_limit d.ranged in
      let e : limit * unit ≡ whole S.drop_limit * unit = ap (λ (z : ℕ). z * unit) d.is in
      let w = R.window_small in
      let m = margin_unit in
      let fewp = mul-le-mul_right unit (let z : length p ≤ 65535 = omega arith in z) in
      let fewq = mul-le-mul_right unit (let z : length q ≤ 65535 = omega arith in z) in
      let u = mul-le-mul_right unit h in
      omega (arith, gp.1, gq.0, kp.0, kq.1, r.lower, e, d.ranged.low)

module _ (s : Scale) (limit : ℕ) (q : List Place) (j : ℕ) (v : LeadsAt s limit q j) (w : EndsBest s q j) where
  j_in : j < length q
  j_in = omega (arith, v.j_before, v.low_within)

  module _ (S : Setup) (R : InRange S) (c : Scaled S s.threshold s.ln.now s.f.now) (b : Below (kmers S) q) (h : length q ≤ S.window_size) where
    long : (a l : ℕ) → a + l ≡ length q → length (drop a q) ≡ l
    long a l e = omega (arith, length-drop a q)

    below : (a : ℕ) → Below (kmers S) (drop a q)
    below a = below_drop (kmers S) a q b

    fits : (a : ℕ) → length (drop a q) ≤ S.window_size
    fits a = omega (arith, length-drop a q)

    abbrev L : ℕ → ℕ
    L l = loss s.threshold s.f.now l

    apart : (a l i k : ℕ) → a + l ≡ length q → i + k ≡ length q → 0 < l → 0 < k → gain s.ln.now (drop a q) + mu + L k ≤ gain s.ln.now (drop i q) + L l
        → exact_gain S (drop a q) + margin + exact_loss S k ≤ exact_gain S (drop i q) + exact_loss S l
    apart a l i k ea ei some more t =
        let la = long a l ea in
        let li = long i k ei in
        let r = sure_apart S R s.threshold s.ln.now s.f.now c (drop a q) (drop i q) (below a) (below i) (fits a) (fits i) (omega arith) (omega arith) (omega (arith, ap L la, ap L li, t)) in
        omega (arith, r, ap (exact_loss S) la, ap (exact_loss S) li)

  pub finds_at : FindsAt s limit q j
  finds_at =
      record {
        found = λ S c d u b h counts k.
            let R = usual_range u in
            let ln : List ℕ = s.ln.now in
            units_find S R q b h j
            (record {
              shape = usual_shape u;
              drop_number = d.ranged.ok;
              low_from = v.low_from;
              oldest = 0;
              j_before = v.j_before;
              low_within = v.low_within;
              low = λ a l e some f.
                  let la = long S R c b h a l e in
                  let r = sure_below S R s.threshold ln s.f.now c (drop a q) (below S R c b h a) (fits S R c b h a) (omega arith) (omega (arith, ap (loss s.threshold s.f.now) la, v.low a l e some f)) in
                  omega (arith, r, ap (exact_loss S) la);
              steady = λ a k i l ea ei ji ia al.
                  let la = long S R c b h a k ea in
                  let li = long S R c b h i l ei in
                  let r = sure_within s S R c limit d (drop a q) (drop i q) (below S R c b h a) (below S R c b h i) (fits S R c b h a) (fits S R c b h i) (omega (arith, v.low_within)) (omega (arith, v.low_within))
                  (omega (arith, ap (loss s.threshold s.f.now) la, ap (loss s.threshold s.f.now) li, v.steady a k i l ea ei ji ia al)) in
                  omega (arith, r, ap (exact_loss S) la, ap (exact_loss S) li);
              above = λ a k e ja al. apart S R c b h a k j (length q - j) e (omega (arith, j_in)) (omega (arith, v.low_within)) (omega (arith, j_in)) (v.above a k e ja al);
              older = λ i l e o ij. apart S R c b h i l j (length q - j) e (omega (arith, j_in)) (omega (arith, j_in)) (omega (arith, j_in)) (v.older i l e ij);
              ends = inl refl;
              newest = λ m some mj.
                  let p : List Place = take m (drop j q) in
                  let lj = long S R c b h j (length q - j) (omega (arith, j_in)) in
                  let lp : length p ≡ m = omega (arith, length-take m (drop j q)) in
                  let r = sure_apart S R s.threshold ln s.f.now c p (drop j q) (below_take (kmers S) m (drop j q) (below S R c b h j)) (below S R c b h j) (omega arith) (fits S R c b h j) (omega arith) (omega arith)
                  (omega (arith, ap (loss s.threshold s.f.now) lp, ap (loss s.threshold s.f.now) lj, w.newest m some mj)) in
                  omega (arith, r, ap (exact_loss S) lp, ap (exact_loss S) lj);
              high =
                  let lj = long S R c b h j (length q - j) (omega (arith, j_in)) in
                  let r = sure_high s S R c (drop j q) (below S R c b h j) (fits S R c b h j) (omega (arith, j_in)) (omega (arith, ap (loss s.threshold s.f.now) lj, v.high)) in
                  omega (arith, r, ap (exact_loss S) lj);
            }) counts k;
      }

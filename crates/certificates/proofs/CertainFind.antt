-- Tables in range: a start that is certain is what the backward scan finds, with the counts of the places from there on (`units_find`, from facts in naturals).
-- Each comparison of the scans is settled by exact scores that are apart by 2^-12, the floats being off by less than 2^-16.
use Rattle.std.proofs.Common.{◌≡◌, sym, ap, ◌∙◌, subst, ℕ, ◌+◌, ◌*◌, ◌-◌, ◌^◌, ◌≤◌, ◌<◌, mul-le-mul_left, mul-le-mul_right, eq-zero-or-pos, arith, not, ◌⊎◌, inl, inr, List, [], reverse, length, take, drop, length-drop, T, lit≤, Float}
use lib.Seq.{take-length}
use lib.Dec.{not_T}
use lib.Ieee.{binary64, fits, lt, le, of_bits, of_fields}
use Rattle.floats.specs.Value.{magnitude}
use Rattle.floats.specs.Arithmetic.{◌⊕◌, ◌⊖◌}
use Rattle.floats.specs.Binary64.{one, zero64, tiny, slack}
use Rattle.floats.proofs.Binary64.{one_eps, one_pos, near_self, near_sub, count_add}
use Rattle.floats.proofs.Compare.{lt_value}
use Rattle.floats.proofs.Range.{ranged_16}
use Rattle.floats.specs.Terms.Rounded.{Near, pos_part, eps, pos64, neg64, Ranged, err}
use Rattle.floats.proofs.Sums.{zero_near}
use Rattle.floats.proofs.Tests.{le_near, lt_near, le_sure}
use Rattle.letters.specs.Place.{Place, Below}
use Rattle.scans.specs.Setup.{Setup, kmers}
use Rattle.scans.specs.Counts.{cleared}
use Rattle.scans.specs.Scans.{forward_start, dust_forward, Backward, backward_start, backward_from, at, dust_backward}
use Rattle.scans.specs.Judged.{float_score, second_score, Best, best_held, forward_over, peaks_of}
use Rattle.scans.specs.Terms.Units.{margin, unevenness, gain, loss}
use Rattle.scans.proofs.Counting.{below_drop, Counted}
use Rattle.scans.proofs.Gain.{InRange, gain_none, gain_bound}
use Rattle.scans.proofs.Judging.{forward_judges, backward_judges}
use Rattle.search.proofs.CarriedScan.{counted_unique, found_counted}
use Rattle.search.proofs.QuickScan.{top_tried}
use Rattle.certificates.proofs.CertainSecond.{backward_near, forward_near, second_near, second_rise}
use Rattle.scans.proofs.Shape.{margin_eps, unevenness_eps}
use Rattle.certificates.proofs.CertainShape.{f_adds}
use Rattle.certificates.proofs.CertainScan.{Sure, Leads, sure_backward, sure_forward}
use Rattle.certificates.proofs.CertainUnits.{CertainUnits}

-- ---- The scans' numbers, and the errors against the margin.
slack_ranged : Ranged 16 slack
unfolding le fits of_bits of_fields
slack_ranged = ranged_16 slack tt tt tt

tiny_ranged : Ranged 16 tiny
unfolding le fits of_bits of_fields
tiny_ranged = ranged_16 tiny tt tt tt

tiny_small : pos64 tiny * 2 ≤ margin
unfolding pos_part magnitude margin of_bits of_fields
tiny_small = lit≤ tt

pub err_few : (l : ℕ) → l ≤ 65535 → err (l + 1) * 32 ≤ margin
err_few l h = omega (arith, mul-le-mul_right eps h, margin_eps)

pub uneven_few : (l : ℕ) → l ≤ 65535 → l * unevenness * 8 ≤ margin
uneven_few l h = omega (arith, mul-le-mul_right unevenness h, unevenness_eps, margin_eps)

pub margin_one : margin * 4096 ≡ one
margin_one = omega (arith, margin_eps, one_eps)

module _ (S : Setup) (R : InRange S) (q : List Place) (b : Below (kmers S) q) (h : length q ≤ S.window_size) (j : ℕ) (c : CertainUnits S q j) where
  abbrev n : ℕ
  n = length q

  abbrev size : ℕ
  size = n - j

  abbrev D : Float
  D = S.drop_limit

  abbrev G : ℕ → ℕ
  G a = gain S (drop a q)

  j_in : j < n
  j_in = omega (arith, c.j_before, c.low_within)

  size_is : j + size ≡ n
  size_is = omega (arith, j_in)

  few : (a l : ℕ) → a + l ≡ n → l ≤ 65535
  few a l e = omega (arith, R.window_small)

  -- ---- The backward scan's scores.
  abbrev x : ℕ → Float
  x L = float_score S (take L (reverse q))

  abbrev y : ℕ → Float
  y L = second_score S q (take L (reverse q))

  x_near : (a l : ℕ) → a + l ≡ n → 0 < l → Near binary64 (x l) (G a) (loss S l) (err (l + 1))
  x_near a l e some =
      let z : n - l ≡ a = omega arith in
      subst (λ (i : ℕ). Near binary64 (x l) (G i) (loss S l) (err (l + 1))) z (backward_near S R q b h l some (omega arith))

  gain_few : (a l : ℕ) → a + l ≡ n → G a ≤ 1048560 * one
  gain_few a l e =
      let k : length (drop a q) ≤ 65535 = omega (arith, length-drop a q, few a l e) in
      omega (arith, gain_bound S R (drop a q) (below_drop (kmers S) a q b) (omega (arith, length-drop a q)), mul-le-mul_right one k)

  loss_few : (a l : ℕ) → a + l ≡ n → 0 < l → loss S l ≤ 2097136 * one
  loss_few a l e some = omega (arith, mul-le-mul_left l R.t_ranged.high, mul-le-mul_right one (few a l e), (R.f_ranged l some (omega arith)).high)

  -- Two of them, one less the other.
  less_near : (a k i l : ℕ) → a + k ≡ n → i + l ≡ n → 0 < k → 0 < l → Near binary64 (x k ⊖ x l) (G a + loss S l) (loss S k + G i) (err (k + 1) + err (l + 1) + 2 ^ 22 * eps)
  less_near a k i l e f some more =
      let ek = err_few k (few a k e) in
      let el = err_few l (few i l f) in
      let m = margin_one in
      near_sub 22 (lit≤ tt) (x_near a k e some) (x_near i l f more) (omega (arith, gain_few a k e, loss_few i l f more)) (omega (arith, gain_few i l f, loss_few a k e some))

  -- ---- The second sum: up to j it is not below 0.
  second_high : (m l : ℕ) → j + m + l ≡ n → 0 < l → gain S (take (j + m) q) + loss S l + margin ≤ gain S q + l * unevenness
  second_high m l e some = go (eq-zero-or-pos m)
    where
      rise : gain S (drop j q) + gain S (take (j + m) q) ≤ gain S q + gain S (take m (drop j q))
      rise = second_rise S R c.shape q b h j m (omega arith)

      go : (m ≡ 0) ⊎ (0 < m) → gain S (take (j + m) q) + loss S l + margin ≤ gain S q + l * unevenness
      go (inl z) =
          let s : size ≡ l = omega (arith, size_is) in
          let none : gain S (take m (drop j q)) ≡ 0 = ap (λ (k : ℕ). gain S (take k (drop j q))) z ∙ gain_none S in
          omega (arith, rise, none, subst (λ (k : ℕ). margin + loss S k ≤ G j) s c.high)
      go (inr p) =
          let s : size ≡ m + l = omega (arith, size_is) in
          omega (arith, rise, subst (λ (k : ℕ). gain S (take m (drop j q)) + margin + loss S k ≤ G j + loss S m) s (c.newest m p (omega arith)), f_adds c.shape m l p some (omega arith))

  second_unstopped : (i l : ℕ) → i + l ≡ n → 0 < l → j ≤ i → T (not (lt (y l) zero64))
  second_unstopped i l e some k =
      let m : ℕ = i - j in
      let z : j + m ≡ i = omega arith in
      let high = subst (λ (a : ℕ). gain S (take a q) + loss S l + margin ≤ gain S q + l * unevenness) z (second_high m l (omega arith) some) in
      let el = err_few l (few i l e) in
      let ul = uneven_few l (few i l e) in
      let mo = margin_one in
      let op = one_pos in
      not_T (lt (y l) zero64) (λ u. let r = lt_near (second_near S R q b h i l some e) zero_near u in let z : ⊥ = omega arith in z)

  -- ---- Every comparison of the backward scan.
  sure : Sure S x y n j size c.low_from c.oldest
  sure =
      record {
        size_is = size_is;
        some = omega (arith, j_in);
        j_before = c.j_before;
        unstopped = second_unstopped;
        low = λ i l e some k.
            let u = c.low i l e some k in
            let el = err_few l (few i l e) in
            let p = one_pos in
            let mo = margin_one in
            not_T (le zero64 (x l)) (λ r. let s = le_near zero_near (x_near i l e some) r in let z : ⊥ = omega arith in z);
        steady = λ a k i l e f g u v.
            let w = c.low_within in
            let s = c.steady a k i l e f g u v in
            let ek = err_few k (few a k e) in
            let el = err_few l (few i l f) in
            let m = margin_eps in
            let p = one_pos in
            let o = one_eps in
            not_T (lt D (x k ⊖ x l)) (λ r. let z = lt_near (near_self c.drop_number) (less_near a k i l e f (omega arith) (omega arith)) r in let y : ⊥ = omega arith in y);
        above = λ a k e g u.
            let w = c.low_within in
            let s = c.above a k e g u in
            let ek = err_few k (few a k e) in
            let el = err_few size (few j size size_is) in
            le_sure (x_near a k e (omega arith)) (x_near j size size_is (omega (arith, j_in))) (omega arith);
        high =
            let el = err_few size (few j size size_is) in
            let s = c.high in
            le_sure zero_near (x_near j size size_is (omega (arith, j_in))) (omega arith);
        below = λ i l e o k.
            let s = c.older i l e o k in
            let ek = err_few l (few i l e) in
            let el = err_few size (few j size size_is) in
            let p = one_pos in
            let mo = margin_one in
            not_T (le (x size) (x l)) (λ r. let z = le_near (x_near j size size_is (omega (arith, j_in))) (x_near i l e (omega (arith, j_in))) r in let y : ⊥ = omega arith in y);
        apart = λ i l e o k.
            let s = c.older i l e o k in
            let ek = err_few l (few i l e) in
            let el = err_few size (few j size size_is) in
            let p = one_pos in
            let o = one_eps in
            let m = margin_eps in
            let ts = tiny_small in
            let tl = tiny_ranged.low in
            not_T (lt (x size ⊖ x l) tiny)
            (λ r. let z = lt_near (less_near j size i l size_is e (omega (arith, j_in)) (omega (arith, j_in))) (near_self tiny_ranged.ok) r in let y : ⊥ = omega arith in y);
        ends = ending c.ends;
      }
    where
      ending : (c.oldest ≡ 0) ⊎ ((c.oldest < j) × ((l : ℕ) → c.oldest + l ≡ n → G c.oldest + pos64 D + margin + loss S size ≤ G j + loss S l + neg64 D))
          → (c.oldest ≡ 0) ⊎ ((c.oldest < j) × ((l : ℕ) → c.oldest + l ≡ n → T (lt D (x size ⊖ x l))))
      ending (inl z) = inl z
      ending (inr p) =
          inr (
            p.0,
            λ l e.
                let more : 0 < l = omega (arith, j_in, p.0) in
                let s = p.1 l e in
                let ek = err_few l (few c.oldest l e) in
                let el = err_few size (few j size size_is) in
                let m = margin_eps in
                let near = less_near j size c.oldest l size_is e (omega (arith, j_in)) more in
                let op = one_pos in
                let o = one_eps in
                (lt_value c.drop_number near.ok).1 (omega (arith, near.lower)),
          )

  -- ---- The forward scan from j.
  abbrev d : List Place
  d = drop j q

  abbrev v : ℕ → Float
  v m = float_score S (take m d)

  d_long : length d ≡ size
  d_long = length-drop j q

  v_near : (m : ℕ) → 0 < m → j + m ≤ n → Near binary64 (v m) (gain S (take m d)) (loss S m) (err (m + 1))
  v_near m some l = forward_near S R q b h j m some l

  v_last : Near binary64 (v size) (G j) (loss S size) (err (size + 1))
  v_last =
      let all : take size d ≡ d = ap (λ (k : ℕ). take k d) (sym d_long) ∙ take-length d in
      subst (λ (l : List Place). Near binary64 (v size) (gain S l) (loss S size) (err (size + 1))) all (v_near size (omega (arith, j_in)) (omega (arith, size_is)))

  v_below : (k : ℕ) → 0 < k → k < size → T (le (v k) (v size))
  v_below k some l =
      let s = c.newest k some (omega arith) in
      let ek = err_few k (omega (arith, few j size size_is)) in
      let el = err_few size (few j size size_is) in
      le_sure (v_near k some (omega arith)) v_last (omega arith)

  v_goes_on : (k : ℕ) → 0 < k → k < size → T (not (lt (x size ⊕ slack) (v k)))
  v_goes_on k some l =
      let s = c.newest k some (omega arith) in
      let ek = err_few k (omega (arith, few j size size_is)) in
      let el = err_few size (few j size size_is) in
      let m = margin_eps in
      let o = one_eps in
      let p = one_pos in
      let sl = slack_ranged.low in
      let sh = slack_ranged.high in
      let limit = count_add 22 (lit≤ tt) (x_near j size size_is (omega arith)) slack_ranged.ok (omega (arith, gain_few j size size_is)) (omega (arith, loss_few j size size_is (omega arith))) in
      not_T (lt (x size ⊕ slack) (v k)) (λ r. let z = lt_near limit (v_near k some (omega arith)) r in let y : ⊥ = omega arith in y)

  forward_newest : (dust_forward S q j (x size)).sums.found ≡ n
  forward_newest =
      let el = err_few size (few j size size_is) in
      let hu = c.high in
      let zero_below : T (le zero64 (v size)) = le_sure zero_near v_last (omega arith) in
      ap (λ (z : Best). z.found) (forward_judges S q j (x size))
      ∙ subst (λ (k : ℕ). (forward_over (x size ⊕ slack) v j k 1 (best_held forward_start)).found ≡ j + size) (sym d_long)
      (sure_forward (x size ⊕ slack) v j size v_goes_on v_below size 1 (best_held forward_start) (omega arith) (omega (arith, j_in)) (omega arith) zero_below)
      ∙ size_is

  -- ---- The find.
  scan : Backward
  scan = backward_from S q n 1 backward_start (cleared S) []

  leads : Leads j (x size) (peaks_of scan)
  unfolding scan
  leads = subst (Leads j (x size)) (sym (backward_judges S q)) (sure_backward S x y n j size c.low_from c.oldest sure)

  units_forward : dust_backward S q ≡ record { find = at j; counts = (dust_forward S q j (x size)).counts }
  unfolding dust_backward scan
  units_forward =
      let same : scan.best ≡ x size = leads.best_is in
      top_tried S q scan leads.top j leads.found_is (ap (λ (z : Float). (dust_forward S q j z).sums.found) same ∙ forward_newest)
      ∙ ap (λ (z : Float). record { find = at j; counts = (dust_forward S q j z).counts }) same

  -- The counts are those of the places from j on.
  pub units_find : (counts : List ℕ) → Counted (kmers S) counts (drop j q) → dust_backward S q ≡ record { find = at j; counts = counts }
  units_find counts k =
      units_forward
      ∙ ap (λ (z : List ℕ). record { find = at j; counts = z })
      (counted_unique (kmers S) (dust_forward S q j (x size)).counts counts (drop j q) (found_counted S q j (x size) (omega (arith, j_in)) forward_newest b) k)

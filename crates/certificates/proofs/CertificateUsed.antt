-- Tables in range and of the usual shape. While the float bounds of a start's certificate hold, what is left to know is that the forward scan from it is best at the newest place (`start_used`).
use Rattle.std.proofs.Common.{◌≡◌, ℕ, ◌+◌, ◌*◌, ◌-◌, ◌≤◌, ◌<◌, arith, ◌⊎◌, inl, inr, List, length, take, drop, T, Float}
use lib.Ieee.{lt, le, neg}
use Rattle.floats.specs.Terms.Rounded.{pos64, neg64}
use Rattle.letters.specs.Place.{Place}
use Rattle.scans.specs.Setup.{Setup}
use Rattle.scans.specs.Terms.Units.{margin, distance, unevenness, gain, loss}
use Rattle.search.specs.Terms.Certified.{loss_ahead, StartUnits, Certifiable}
use Rattle.scans.proofs.Gain.{InRange}
use Rattle.scans.proofs.Shape.{usual_shape, f_widens}
use Rattle.search.proofs.CertificateNumber.{strayed_few, far_below, far_above}
use Rattle.search.proofs.CertificateLow.{low_used}
use Rattle.search.proofs.CertificateStart.{Ends}
use Rattle.certificates.proofs.CertainUnits.{CertainUnits}
use Rattle.certificates.proofs.CertainFind.{uneven_few}

module _ (S : Setup) (R : InRange S) (C : Certifiable S) where
  abbrev D : Float
  D = S.drop_limit

  module _ (q : List Place) (window : length q ≤ S.window_size) {j r s low_from near_from : ℕ} {h u gap : Float} (k : StartUnits S q j r s low_from near_from h u gap) (few : s ≤ 65535)
      (u_below : T (lt u (neg distance))) (gap_above : T (le distance gap)) where
    -- f of r places more, back to f itself.
    ahead_now : (m l : ℕ) → 0 < m → m ≤ l → l + r ≤ S.window_size → loss_ahead S r m + loss S l ≤ loss_ahead S r l + loss S m + r * unevenness
    ahead_now m l some h fits = omega (arith, f_widens (usual_shape C.usual) m l r some h fits)

    wide : (i l : ℕ) → i + l ≡ length q → j ≤ i → l + r ≤ S.window_size
    wide i l at h = omega (arith, k.room)

    r_few : r * unevenness * 8 ≤ margin
    r_few = uneven_few r (omega (arith, k.room, R.window_small, k.j_before, k.low.order, k.low.within))

    steady_now : (a m i l : ℕ) → a + m ≡ length q → i + l ≡ length q → j < i → i < a → a < low_from → gain S (drop a q) + margin + loss S l + neg64 D ≤ gain S (drop i q) + pos64 D + loss S m
    steady_now a m i l at im ji ia to =
        let some : 0 < m = omega (arith, k.low.order, k.low.within) in
        omega (arith, k.steady a m i l at im ji ia to, ahead_now m l some (omega arith) (wide i l im (omega arith)), r_few)

    above_now : (a m : ℕ) → a + m ≡ length q → j < a → a < low_from → gain S (drop a q) + margin + loss S (length q - j) ≤ gain S (drop j q) + loss S m
    above_now a m at ja to =
        let l : ℕ = length q - j in
        let some : 0 < m = omega (arith, k.low.order, k.low.within) in
        let jl : j + l ≡ length q = omega arith in
        omega (arith, k.above a m l at jl ja to, ahead_now m l some (omega arith) (wide j l jl (omega arith)), r_few)

    gap_wide : neg64 gap + margin * 4 ≤ pos64 gap
    gap_wide = far_above k.gap_kept.ok gap_above

    older_now : (i l : ℕ) → i + l ≡ length q → k.oldest ≤ i → i < j → gain S (drop i q) + margin + loss S (length q - j) ≤ gain S (drop j q) + loss S l
    older_now i l at from to = omega (arith, k.older i l (length q - j) at (omega (arith, k.j_before, k.low.order, k.low.within)) from to, gap_wide, strayed_few s few)

    ends_now : (oldest : ℕ) → Ends S q j s gap oldest
        → (oldest ≡ 0) ⊎ ((oldest < j) × ((l : ℕ) → oldest + l ≡ length q → gain S (drop oldest q) + pos64 D + margin + loss S (length q - j) ≤ gain S (drop j q) + loss S l + neg64 D))
    ends_now oldest (inl z) = inl z
    ends_now oldest (inr p) = inr (p.0, λ l at. omega (arith, p.1 l (length q - j) at (omega (arith, k.j_before, k.low.order, k.low.within)), gap_wide, strayed_few s few))

    pub start_used : ((m : ℕ) → 0 < m → m + j < length q → gain S (take m (drop j q)) + margin + loss S (length q - j) ≤ gain S (drop j q) + loss S m)
        → margin + loss S (length q - j) ≤ gain S (drop j q) → CertainUnits S q j
    start_used newest high =
        record {
          shape = usual_shape C.usual;
          drop_number = C.drop_number;
          low_from = low_from;
          oldest = k.oldest;
          j_before = k.j_before;
          low_within = omega (arith, k.low.order, k.low.within);
          low = low_used S q k.low few (omega (arith, far_below k.low.u_kept.ok u_below));
          steady = steady_now;
          above = above_now;
          older = older_now;
          ends = ends_now k.oldest k.ends;
          newest = newest;
          high = high;
        }

-- Tables in range and of the usual shape. The certificate of a start at index j of the window: low places, a middle between them and j, and starts older than j.
-- A new place (`start_joined`) and a place that leaves (`start_left`) keep it.
use Rattle.std.proofs.Common.{◌≡◌, refl, ap, ◌∙◌, subst, ℕ, zero, suc, ◌+◌, ◌*◌, ◌-◌, ◌≤◌, ◌<◌, arith, ◌⊎◌, inl, inr, List, [], ◌∷◌, ◌++◌, length, drop, length-drop, Float}
use Rattle.floats.specs.Arithmetic.{◌⊖◌}
use Rattle.floats.specs.Terms.Rounded.{pos64, neg64}
use Rattle.letters.specs.Place.{Place, BelowAt, Below}
use Rattle.scans.specs.Setup.{Setup, f_at, kmers}
use Rattle.scans.specs.Terms.Units.{margin, unevenness, gain, loss}
use Rattle.search.specs.Terms.Certified.{loss_ahead, strayed, KeptNumber, LowUnits, StartUnits, Certifiable}
use Rattle.scans.proofs.Exact.{added}
use Rattle.scans.proofs.Gain.{InRange, added_ranged}
use Rattle.scans.proofs.Shape.{usual_shape}
use Rattle.search.proofs.CertificateNumber.{lowered}
use Rattle.search.proofs.CertificateLow.{low_left, long, gain_joined, more_later}

-- How a scan ends, for a start at j of the window q.
abbrev pub Ends : Setup → List Place → ℕ → ℕ → Float → ℕ → Type 0
Ends S q j s gap oldest =
    (oldest ≡ 0)
    ⊎ ((oldest < j)
    × ((l k : ℕ) → oldest + l ≡ length q → j + k ≡ length q
    → gain S (drop oldest q) + pos64 gap + pos64 S.drop_limit + loss S k ≤ gain S (drop j q) + neg64 gap + neg64 S.drop_limit + loss S l + strayed s))

module _ (S : Setup) (R : InRange S) (C : Certifiable S) where
  abbrev t : Float
  t = S.score_threshold

  abbrev D : Float
  D = S.drop_limit

  -- ---- The oldest place leaves; it is older than j.
  ends_left : (e : Place) (q : List Place) (j s oldest : ℕ) (gap : Float) → Ends S (e ∷ q) (suc j) s gap oldest → Ends S q j s gap (oldest - 1)
  ends_left e q j s zero gap k = inl refl
  ends_left e q j s (suc o) gap (inl z) = absurd (let y : ⊥ = omega arith in y)
  ends_left e q j s (suc o) gap (inr k) =
      let z : o ≡ suc o - 1 = omega arith in
      subst (λ (i : ℕ). Ends S q j s gap i) z (inr (omega (arith, k.0), λ l m at jm. k.1 l m (omega arith) (omega arith)))

  pub start_left : (e : Place) (q : List Place) → Below (kmers S) (e ∷ q) → suc (length q) ≤ S.window_size → {j r s low_from near_from : ℕ} {h u gap : Float}
      → StartUnits S (e ∷ q) (suc j) r s low_from near_from h u gap → StartUnits S q j r s (low_from - 1) (near_from - 1) h u gap
  start_left e q b l {j} {r} {s} {low_from} {near_from} {h} {u} {gap} k =
      record {
        low = low_left S R C e q b l k.low;
        j_before = omega (arith, k.j_before);
        room = omega (arith, k.room);
        steady = λ a m i n at im ji ia to. k.steady (suc a) m (suc i) n (omega arith) (omega arith) (omega arith) (omega arith) (omega arith);
        above = λ a m n at jn ja to. k.above (suc a) m n (omega arith) (omega arith) (omega arith) (omega arith);
        oldest = k.oldest - 1;
        older = λ i n m at jm from to. k.older (suc i) n m (omega arith) (omega arith) (omega arith) (omega arith);
        ends = ends_left e q j s k.oldest gap k.ends;
        gap_kept = k.gap_kept;
      }

  -- One place more, and one less to come.
  ahead_joined : (r l : ℕ) → loss_ahead S r (suc l) ≡ loss_ahead S (suc r) l + pos64 t
  ahead_joined r l = let z : suc l + r ≡ l + suc r = omega arith in omega (arith, ap (λ (i : ℕ). pos64 (f_at S i)) z)

  -- ---- A place joins; the low places have it already.
  module _ (q : List Place) (b : Below (kmers S) q) (room : length q < S.window_size) (e : Place) (be : BelowAt (kmers S) e) where
    abbrev n : ℕ
    n = length q

    abbrev q' : List Place
    q' = q ++ e ∷ []

    abbrev more : ℕ → ℕ
    more a = pos64 (added S (drop a q) e)

    grown : (a : ℕ) → a ≤ n → gain S (drop a q') ≡ gain S (drop a q) + more a
    grown = gain_joined S R C q b room e be

    later : (c a : ℕ) → c ≤ a → more a ≤ more c
    later = more_later S R C q b room e be

    module _ {j r s low_from near_from : ℕ} {h u gap h' u' : Float} (k : StartUnits S q j (suc r) s low_from near_from h u gap) (low : LowUnits S q' (suc s) low_from near_from h' u')
        (gap' : Float) (gap_kept : KeptNumber (suc s) gap') (gap_falls : pos64 gap' + neg64 gap + more 0 ≤ neg64 gap' + pos64 gap + more j + unevenness) where
      low_in : low_from ≤ n
      low_in = omega (arith, k.low.order, k.low.within)

      steady_joined : (a m i l : ℕ) → a + m ≡ suc n → i + l ≡ suc n → j < i → i < a → a < low_from
          → gain S (drop a q') + loss_ahead S r l + margin * 2 + neg64 D ≤ gain S (drop i q') + loss_ahead S r m + pos64 D
      steady_joined a zero i l at im ji ia to = absurd (let z : ⊥ = omega (arith, low_in) in z)
      steady_joined a (suc m) i zero at im ji ia to = absurd (let z : ⊥ = omega (arith, low_in) in z)
      steady_joined a (suc m) i (suc l) at im ji ia to =
          omega (
            arith,
            grown a (omega arith),
            grown i (omega arith),
            later i a (omega arith),
            k.steady a m i l (omega arith) (omega arith) ji ia to,
            ahead_joined r m,
            ahead_joined r l,
          )

      above_joined : (a m l : ℕ) → a + m ≡ suc n → j + l ≡ suc n → j < a → a < low_from → gain S (drop a q') + loss_ahead S r l + margin * 2 ≤ gain S (drop j q') + loss_ahead S r m
      above_joined a zero l at jl ja to = absurd (let z : ⊥ = omega (arith, low_in) in z)
      above_joined a (suc m) zero at jl ja to = absurd (let z : ⊥ = omega (arith, low_in) in z)
      above_joined a (suc m) (suc l) at jl ja to =
          omega (arith, grown a (omega arith), grown j (omega arith), later j a (omega arith), k.above a m l (omega arith) (omega arith) ja to, ahead_joined r m, ahead_joined r l)

      -- X is 0, or the drop limit.
      fallen : (i l m P N : ℕ) → i + l ≡ suc n → j + m ≡ suc n → i < j
          → ((l m : ℕ) → i + l ≡ n → j + m ≡ n → gain S (drop i q) + pos64 gap + P + loss S m ≤ gain S (drop j q) + neg64 gap + N + loss S l + strayed s)
          → gain S (drop i q') + pos64 gap' + P + loss S m ≤ gain S (drop j q') + neg64 gap' + N + loss S l + strayed (suc s)
      fallen i zero m P N at jm to f = absurd (let z : ⊥ = omega (arith, low_in, k.j_before) in z)
      fallen i (suc l) zero P N at jm to f = absurd (let z : ⊥ = omega (arith, low_in, k.j_before) in z)
      fallen i (suc l) (suc m) P N at jm to f =
          let some : 0 < m = omega (arith, low_in, k.j_before) in
          omega (
            arith,
            grown i (omega (arith, low_in, k.j_before)),
            grown j (omega (arith, low_in, k.j_before)),
            later 0 i (omega arith),
            gap_falls,
            f l m (omega arith) (omega arith),
            (usual_shape C.usual).f_bends m l some (omega arith) (omega arith),
          )

      ends_joined : (oldest : ℕ) → Ends S q j s gap oldest → Ends S q' j (suc s) gap' oldest
      ends_joined oldest (inl z) = inl z
      ends_joined oldest (inr p) =
          let g = long S R C q b room e be in
          inr (p.0, λ l m at jm. fallen oldest l m (pos64 D) (neg64 D) (at ∙ g) (jm ∙ g) p.0 p.1)

      start_changed : StartUnits S q' j r (suc s) low_from near_from h' u' gap'
      start_changed =
          let g = long S R C q b room e be in
          record {
            low = low;
            j_before = k.j_before;
            room = omega (arith, k.room, g);
            steady = λ a m i l at im ji ia to. steady_joined a m i l (at ∙ g) (im ∙ g) ji ia to;
            above = λ a m l at jl ja to. above_joined a m l (at ∙ g) (jl ∙ g) ja to;
            oldest = k.oldest;
            older = λ i l m at jm from to.
                omega (arith, fallen i l m 0 0 (at ∙ g) (jm ∙ g) to (λ l' m' at' jm'. omega (arith, k.older i l' m' at' jm' from to)));
            ends = ends_joined k.oldest k.ends;
            gap_kept = gap_kept;
          }

    module _ {j r s low_from near_from : ℕ} {h u gap h' u' : Float} (k : StartUnits S q j (suc r) s low_from near_from h u gap) (few : s < 65535) (low : LowUnits S q' (suc s) low_from near_from h' u') where
      -- The gap falls by the ln entry of the place's window count less that of its count from j on; an ambiguous place leaves it.
      pub start_joined : StartUnits S q' j r (suc s) low_from near_from h' u' (gap ⊖ (added S q e ⊖ added S (drop j q) e))
      start_joined =
          let c = lowered k.gap_kept few (added_ranged S R q e room) (added_ranged S R (drop j q) e (omega (arith, length-drop j q))) in
          start_changed k low (gap ⊖ (added S q e ⊖ added S (drop j q) e)) c.kept (omega (arith, c.near.upper))

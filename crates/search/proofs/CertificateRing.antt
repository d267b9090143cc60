-- The certificate and the carried scan of a window in a ring: the newest entry joins them (`next_still`, `next_fresh`, `next_repeated`, `carries_on`).
use Rattle.std.proofs.Common.{◌≡◌, refl, sym, ap, ◌∙◌, subst, Bool, true, cond, ◌&&◌, List, [], ◌∷◌, ◌++◌, Option, Some, ℕ, ◌+◌, ◌-◌, ◌^◌, ◌/◌, ◌<◌, arith, length, get_or, drop, length-drop, T, ltb, ltb→lt, Float}
use lib.Seq.{drop-append-le}
use lib.Ieee.{nan, le}
use lib.Ieee.Fits.{and_l, and_r}
use Rattle.floats.specs.Arithmetic.{◌⊕◌, ◌⊖◌, ◌⊗◌}
use Rattle.floats.specs.Binary64.{zero64, number}
use Rattle.letters.specs.Place.{Place, BelowAt, Below}
use Rattle.letters.specs.Terms.Entry.{decode}
use Rattle.scans.specs.declared.Params.{Params}
use Rattle.search.specs.declared.Certificate.{Certificate}
use Rattle.search.specs.declared.Carry.{Carry}
use Rattle.scans.specs.Setup.{Setup, kmers}
use Rattle.scans.specs.Counts.{count}
use Rattle.scans.specs.Scans.{value}
use Rattle.scans.specs.Terms.Counted.{Counted}
use Rattle.scans.specs.Terms.Numbers.{setup_of}
use Rattle.scans.specs.Terms.Window.{window, newest_in, Windowed, Joining, counted_value, CountsEntry}
use Rattle.scans.specs.Terms.Units.{distance}
use Rattle.search.specs.Terms.Certified.{certificate_step, Bounds, Certified, NoneFrom, Since, CertifiesOn}
use Rattle.search.specs.Terms.Carry.{Summed, CarriesOn}
use Rattle.scans.proofs.Counting.{below_left, below_drop}
use Rattle.scans.proofs.Values.{decode_below}
use Rattle.scans.proofs.Windows.{count_in}
use Rattle.scans.proofs.BackwardScan.{window_below_lem}
use Rattle.scans.proofs.Exact.{added}
use Rattle.search.proofs.CarriedScan.{carried_on, carried_next, carried_step}
use Rattle.search.proofs.Newest.{before_long, newest_place, none_counted}
use Rattle.search.proofs.CertificateKept.{window_added, kept_still, kept_fresh, kept_repeated}

module _ (p : Params) (ring : List ℕ) (head len : ℕ) (wc : List ℕ) (ln : List Float) (counts : List ℕ) (J : Joining p ring head len wc (length ln) counts) where
  abbrev q : List Place
  q = window ring head len

  W : Windowed p ring head len wc (length ln)
  W = J.windowed

  module _ (entry : ℕ) (is : entry ≡ newest_in ring head len) where
    entry_below : entry / 2 < 4 ^ p.kmer
    entry_below = subst (λ (z : ℕ). z / 2 < 4 ^ p.kmer) (sym is) (W.below (len - 1) (omega (arith, J.some)))

    pub raised_asks : (entry / 2 < length counts) × (get_or counts (entry / 2) 0 + 1 < length ln)
    raised_asks = let w = W in (omega (arith, entry_below, J.long), omega (arith, J.few (entry / 2), w.len_in, w.ln_long))

    pub window_asks : (entry / 2 < length wc) × (get_or wc (entry / 2) 0 < length ln)
    window_asks = (omega (arith, entry_below, W.counts_long), count_in W (entry / 2))

    pub entry_place : (q₀ : List Place) (e : Place) → q ≡ q₀ ++ e ∷ [] → decode entry ≡ e
    entry_place q₀ e joins = ap decode is ∙ sym (newest_place W J.some q₀ e joins)

    -- ---- The carried scan.
    pub carries_on : (f : List Float) (start : ℕ) → start < len → (c : Carry) (d : Option Certificate) → CertifiesOn (setup_of p ln f) q c.certificate d counts
        → (counts' : List ℕ) (v : Float) → CountsEntry ln counts (decode entry) v counts' → (t : Bool) → le c.best (c.s ⊕ (v ⊖ p.score_threshold) ⊖ get_or f (len - start) nan) ≡ t
        → (q₀ : List Place) (e : Place) → q ≡ q₀ ++ e ∷ []
        → CarriesOn (setup_of p ln f) q₀ e start c
        (record { on = c.on; s = c.s ⊕ (v ⊖ p.score_threshold); best = cond t (c.s ⊕ (v ⊖ p.score_threshold) ⊖ get_or f (len - start) nan) c.best; certificate = d }) counts counts'
    carries_on f start inside c d certifies counts' v k t test q₀ e joins =
        let S : Setup = setup_of p ln f in
        let es : List Place = drop start q₀ in
        let size = before_long W J.some q₀ e joins in
        let place = entry_place q₀ e joins in
        let entered : CountsEntry ln counts e v counts' = subst (λ (z : Place). CountsEntry ln counts z v counts') place k in
        let at : BelowAt (length counts) e = subst (λ (z : Place). BelowAt (length counts) z) place (decode_below (length counts) entry raised_asks.0) in
        let all : Below (kmers S) (q₀ ++ e ∷ []) = subst (λ (z : List Place). Below (kmers S) z) joins (window_below_lem W) in
        let nth : len - start ≡ length es + 1 = omega (arith, length-drop start q₀) in
        let step = carried_step S (len - start) e c d counts counts' v entered at t test ∙ ap (λ (l : ℕ). carried_on S l counts e c d) nth in
        let r : Carry = record { on = c.on; s = c.s ⊕ (v ⊖ p.score_threshold); best = cond t (c.s ⊕ (v ⊖ p.score_threshold) ⊖ get_or f (len - start) nan) c.best; certificate = d } in
        record {
          counts_are = entered.counts_are;
          on_is = refl;
          carries = λ on n carried. record {
            sums =
                subst (λ (z : List Place). Summed S z r) (sym (drop-append-le start q₀ (e ∷ []) (omega arith)))
                (subst (λ (z : Carry). Summed S (es ++ e ∷ []) z) (sym step) (carried_next S es e c counts carried.sums (below_drop (kmers S) start q₀ (below_left (kmers S) q₀ (e ∷ []) all)) n d));
            certified = λ _. subst (λ (z : List Place). Certified S z start d) joins (certifies.keeps q₀ e start joins n (carried.certified on));
          };
        }

  -- ---- The certificate.
  module _ (c : Certificate) where
    module _ (lasts : ltb 0 c.left && ltb c.near len ≡ true) where
      tests : T (ltb 0 c.left && ltb c.near len)
      tests = subst T (sym lasts) tt

      pub near_in : c.near < len
      near_in = ltb→lt c.near len (and_r (ltb 0 c.left) (ltb c.near len) tests)

      pub step_asks : (0 < c.left) × (c.near < 65535)
      step_asks = let w = W in (ltb→lt 0 c.left (and_l (ltb 0 c.left) (ltb c.near len) tests), omega (arith, near_in, w.len_in, w.small))

      module _ (entry : ℕ) (is : entry ≡ newest_in ring head len) (v w : Float) (v_is : (p : Params) (f : List Float) → v ≡ value (setup_of p ln f) counts (decode entry)) (w_is : w ≡ counted_value ln wc (decode entry)) where
        -- A law of `kept-..`, for the window as it was before.
        next_by : (f : List Float) (h : Float) {r : Option Certificate} → r ≡ certificate_step p.score_threshold h v w c
            → ((q₀ : List Place) (e : Place) (j : ℕ) → q ≡ q₀ ++ e ∷ [] → Counted (4 ^ p.kmer) counts (drop j q₀) → Bounds (setup_of p ln f) q₀ j c
            → Certified (setup_of p ln f) (q₀ ++ e ∷ []) j (certificate_step p.score_threshold h v w c))
            → CertifiesOn (setup_of p ln f) q (Some c) r counts
        next_by f h {r} z law =
            let S : Setup = setup_of p ln f in
            record {
              keeps = λ q₀ e j joins n k.
                  subst (λ (x : Option Certificate). Certified S q j x) (sym z)
                  (subst (λ (l : List Place). Certified S l j (certificate_step p.score_threshold h v w c)) (sym joins) (law q₀ e j joins n k));
            }

        module _ (f : List Float) (q₀ : List Place) (e : Place) (j : ℕ) (joins : q ≡ q₀ ++ e ∷ []) (n : Counted (4 ^ p.kmer) counts (drop j q₀)) (k : Bounds (setup_of p ln f) q₀ j c) where
          abbrev S : Setup
          S = setup_of p ln f

          all : Below (kmers S) (q₀ ++ e ∷ [])
          all = subst (λ (z : List Place). Below (kmers S) z) joins (window_below_lem W)

          room : length q₀ < p.window_size
          room = omega (arith, before_long W J.some q₀ e joins, W.len_in)

          v_here : v ≡ value S counts e
          v_here = v_is p f ∙ ap (λ (z : Place). value S counts z) (entry_place entry is q₀ e joins)

          w_here : w ≡ added S q₀ e
          w_here = w_is ∙ ap (λ (z : Place). counted_value ln wc z) (entry_place entry is q₀ e joins) ∙ window_added S wc q₀ e (λ x. W.counted x ∙ ap (λ (z : List Place). count x z) joins)

        pub next_still : le v zero64 ≡ true → {r : Option Certificate} → r ≡ certificate_step p.score_threshold c.h v w c → (f : List Float) → CertifiesOn (setup_of p ln f) q (Some c) r counts
        next_still none z f =
            next_by f c.h z (λ q₀ e j joins n k.
            kept_still (setup_of p ln f) q₀ e (all f q₀ e j joins n k) (room f q₀ e j joins n k) j counts n c k step_asks.0 v w (v_here f q₀ e j joins n k) (w_here f q₀ e j joins n k) (subst T (sym none) tt))

        module _ (l : ℕ) (since : Since ring head len c.near l) where
          pub next_fresh : l ≡ 0 → {r : Option Certificate} → r ≡ certificate_step p.score_threshold c.h v w c → (f : List Float) → CertifiesOn (setup_of p ln f) q (Some c) r counts
          next_fresh zero z f =
              next_by f c.h z (λ q₀ e j joins n k.
              let at : len - 1 - c.near ≡ length q₀ - c.near = omega (arith, before_long W J.some q₀ e joins) in
              kept_fresh (setup_of p ln f) q₀ e (all f q₀ e j joins n k) (room f q₀ e j joins n k) j counts n c k step_asks.0 v w (v_here f q₀ e j joins n k) (w_here f q₀ e j joins n k)
              (none_counted W J.some q₀ e joins (length q₀ - c.near) (subst (NoneFrom ring head len) at (since.none zero))))

          pub next_repeated : (l ≡ 0 → ⊥) → le (c.h ⊕ v ⊕ distance) (number l ⊗ p.score_threshold) ≡ true → {r : Option Certificate} → r ≡ certificate_step p.score_threshold (c.h ⊕ v) v w c
              → (f : List Float) → CertifiesOn (setup_of p ln f) q (Some c) r counts
          next_repeated some test z f =
              next_by f (c.h ⊕ v) z (λ q₀ e j joins n k.
              let at : len + 1 - l ≡ length q₀ + 2 - l = omega (arith, before_long W J.some q₀ e joins) in
              kept_repeated (setup_of p ln f) q₀ e (all f q₀ e j joins n k) (room f q₀ e j joins n k) j counts n c k step_asks.0 v w (v_here f q₀ e j joins n k) (w_here f q₀ e j joins n k)
              l (since.some some).0 (since.some some).1 (none_counted W J.some q₀ e joins (length q₀ + 2 - l) (subst (NoneFrom ring head len) at (since.some some).2)) (subst T (sym test) tt))

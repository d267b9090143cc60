-- The find that a quick scan and a carried scan tell together (`carries_ahead`).
use Rattle.std.proofs.Common.{◌≡◌, refl, sym, ap, ◌∙◌, subst, Bool, true, false, not, List, [], ◌∷◌, ◌++◌, ◌≢◌, ℕ, suc, ◌+◌, ◌-◌, ◌^◌, ◌/◌, ◌<◌, ◌≤◌, arith, length, get_or, drop, length-append, length-drop, drop-drop, T, Float}
use lib.Ieee.{lt, le}
use Rattle.floats.specs.Arithmetic.{◌⊕◌, ◌⊖◌}
use Rattle.floats.specs.Binary64.{slack}
use Rattle.letters.specs.Place.{Place, Below}
use Rattle.letters.specs.Terms.Entry.{decode}
use Rattle.scans.specs.declared.Params.{Params}
use Rattle.scans.specs.declared.backward.BackwardState.{BackwardState}
use Rattle.search.specs.declared.Carry.{Carry}
use Rattle.scans.specs.Setup.{Setup, f_at, kmers}
use Rattle.scans.specs.Terms.Numbers.{setup_of}
use Rattle.scans.specs.Terms.Counted.{Counted, Touched}
use Rattle.scans.specs.Scans.{at, Forward, dust_forward, dust_backward}
use Rattle.scans.specs.Terms.Window.{window, newest_in, counted_value}
use Rattle.scans.specs.Terms.Parts.{Ringed, rest_of}
use Rattle.search.specs.Terms.Carry.{ScansQuick, Carried, Answers, carried_ahead, CarriesAhead}
use Rattle.scans.proofs.Counting.{count_le}
use Rattle.scans.proofs.Rings.{window_length, window_newest, newest_at}
use Rattle.scans.proofs.Touched.{counted_touched, touched_part}
use Rattle.scans.proofs.Walk.{queued_below}
use Rattle.search.proofs.CarriedScan.{carried_forward, found_carried, uncertified}
use Rattle.search.proofs.QuickFind.{quick_inside, quick_find}

-- The quick scan b met no near tie, and its best place is at index j, where the carried scan c began.
-- `counts` are those of the places from j on, the newest of which is e.
module _ (S : Setup) (q₀ : List Place) (e : Place) (below : Below (kmers S) (q₀ ++ e ∷ [])) (b : BackwardState) (counts₀ : List ℕ) (k : ScansQuick S (q₀ ++ e ∷ []) (rest_of b counts₀)) (clear : b.paused ≡ false)
    (j : ℕ) (found : b.found ≡ suc j) (inside : j ≤ length q₀) (from : b.low ≤ j) (c : Carry) (on : c.on ≡ true) (carried : Carried S q₀ j c) (low : lt (b.best ⊕ slack) c.best ≡ false)
    (counts : List ℕ) (n : Counted (kmers S) counts (drop j (q₀ ++ e ∷ []))) (l : ℕ) (nth : l ≡ length (q₀ ++ e ∷ []) - j) where
  abbrev q : List Place
  q = q₀ ++ e ∷ []

  abbrev s : Float
  s = c.s ⊕ (counted_value S.ln counts e ⊖ S.score_threshold)

  abbrev sl : Float
  sl = s ⊖ f_at S l

  abbrev o : Forward
  o = record { sums = record { s = s; best = sl; found = length q }; counts = counts }

  told : le c.best sl ≡ true → Answers S q (dust_backward S q) (record { found = b.found; carry = carried_ahead S l counts e c }) counts
  told high =
      let forward : dust_forward S q j b.best ≡ o =
      carried_forward S q₀ e j inside c on carried.sums b.best (subst (λ (t : Bool). T (not t)) (sym low) tt) counts below n s sl refl (ap (λ (z : ℕ). s ⊖ f_at S z) nth) (subst T (sym high) tt) in
      let some : 0 < length q = omega (arith, length-append q₀ (e ∷ [])) in
      let same : dust_backward S q ≡ record { find = at j; counts = counts } = quick_find S q below (rest_of b counts₀) k clear j o found forward refl in
      let begun : Carried S q j (carried_ahead S l counts e c) =
      uncertified (found_carried S q j b.best some (ap (λ (z : Forward). z.sums.found) forward) (carried_ahead S l counts e c) (ap (λ (z : Forward). z.sums.s) (sym forward)) (ap (λ (z : Forward). z.sums.best) (sym forward))) refl in
      rw same
      (record {
        settles = record { find_is = rw found; counts_are = refl };
        begins = λ i z.
            let p : j ≡ i = omega arith in
            (high, subst (λ (x : ℕ). Carried S q x (carried_ahead S l counts e c)) p begun);
        ends = λ z. absurd (let x : ⊥ = omega arith in x);
      })

  pub ahead_told : CarriesAhead S q b (carried_ahead S l counts e c) counts
  ahead_told =
      let part : drop j q ≡ drop (j - b.low) (drop b.low q) = sym (drop-drop (j - b.low) b.low q ∙ ap (λ (z : ℕ). drop z q) (let x : b.low + (j - b.low) ≡ j = omega arith in x)) in
      record {
        tells = told;
        touched = λ _. touched_part counts (j - b.low) (drop b.low q) (subst (λ (z : List Place). Touched counts z) part (counted_touched (kmers S) counts (drop j q) n));
      }

-- The same of a window in a ring.
module _ (p : Params) (ring : List ℕ) (head len : ℕ) (ln f : List Float) (counts₀ : List ℕ) (r : Ringed ring head len (length ln) (length f) (length counts₀)) (some : 0 < len) (long : length counts₀ ≡ 4 ^ p.kmer)
    (b : BackwardState) (k : ScansQuick (setup_of p ln f) (window ring head len) (rest_of b counts₀)) (clear : b.paused ≡ false) (is_found : b.found ≡ 0 → ⊥) (start : ℕ) (at_start : b.found - 1 ≡ start) where
  abbrev S : Setup
  S = setup_of p ln f

  size : length (window ring head len) ≡ len
  size = window_length ring head len r.queued.head_in r.queued.len_in

  below_window : Below (4 ^ p.kmer) (window ring head len)
  below_window = subst (λ (m : ℕ). Below m (window ring head len)) long (queued_below r.queued)

  found_start : b.found ≡ suc start
  found_start = let d : b.found ≢ 0 = is_found in omega arith

  pub start_in : start < len
  start_in = omega (arith, found_start, size, quick_inside S (window ring head len) below_window (rest_of b counts₀) k clear (omega (arith, size)))

  pub low_in : b.low ≤ start
  low_in = omega (arith, found_start, k.here.best_read (omega (arith, found_start)))

  module _ (newest : ℕ) (is : newest ≡ newest_in ring head len) where
    pub newest_in_lem : newest / 2 < length counts₀
    newest_in_lem = subst (λ (z : ℕ). z / 2 < length counts₀) (sym is) (r.queued.below (len - 1) (omega arith))

    joins : window ring head len ≡ window ring head (len - 1) ++ decode newest ∷ []
    joins =
        window_newest ring head len r.queued.head_in some r.queued.len_in
        ∙ ap (λ (z : ℕ). window ring head (len - 1) ++ decode z ∷ []) (newest_at ring head len _ r.queued.head_in some r.queued.len_in refl ∙ sym is)

    -- Entries before `start` were taken out of the counts.
    module _ (counts : List ℕ) (w : Counted (length counts₀) counts (drop start (window ring head len))) where
      start_counted : Counted (4 ^ p.kmer) counts (drop start (window ring head len))
      start_counted =
          subst (λ (m : ℕ). Counted m counts (drop start (window ring head len))) long
          w

      pub count_in : (x : ℕ) → get_or counts x 0 < length ln
      count_in x =
          omega (arith, start_counted.counted x, count_le x (drop start (window ring head len)), length-drop start (window ring head len), size, r.queued.len_in, r.ln_long)

      pub carries_ahead : (c c' : Carry) → c.on ≡ true → Carried S (window ring head (len - 1)) start c → lt (b.best ⊕ slack) c.best ≡ false
          → c' ≡ carried_ahead S (len - start) counts (decode newest) c → CarriesAhead S (window ring head len) b c' counts
      carries_ahead c c' on carried low told =
          let q₀ : List Place = window ring head (len - 1) in
          let e : Place = decode newest in
          let l₀ : length q₀ ≡ len - 1 = window_length ring head (len - 1) r.queued.head_in (omega (arith, r.queued.len_in)) in
          subst (λ (z : List Place). CarriesAhead S z b c' counts) (sym joins)
          (subst (λ (z : Carry). CarriesAhead S (q₀ ++ e ∷ []) b z counts) (sym told)
          (ahead_told S q₀ e (subst (λ (z : List Place). Below (4 ^ p.kmer) z) joins below_window) b counts₀ (subst (λ (z : List Place). ScansQuick S z (rest_of b counts₀)) joins k) clear start found_start
          (omega (arith, start_in)) low_in c on carried low counts (subst (λ (z : List Place). Counted (4 ^ p.kmer) counts (drop start z)) joins start_counted) (len - start) (omega (arith, ap length joins, size))))

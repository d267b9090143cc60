-- The backward scan over a straight part of the ring while no place is best (`ScanningLow`): where it meets its first best place, it has gone over the newest of the part's entries (`low_raised`).
use Rattle.std.proofs.Common.{◌≡◌, refl, sym, ap, ◌∙◌, subst, Bool, true, false, ◌&&◌, List, ℕ, suc, ◌+◌, ◌-◌, ◌<◌, ◌≤◌, arith, length, get_or, drop, length-drop, get_or-drop, Float}
use lib.Ieee.{lt, le}
use Rattle.floats.specs.Arithmetic.{◌⊖◌}
use Rattle.floats.specs.Binary64.{zero64, tiny}
use Rattle.letters.specs.Place.{Place}
use Rattle.letters.specs.Terms.Entry.{decode, decoded}
use Rattle.scans.specs.declared.backward.BackwardState.{BackwardState}
use Rattle.scans.specs.Setup.{Setup, f_at}
use Rattle.scans.specs.Counts.{count}
use Rattle.scans.specs.Scans.{BackwardSums, is_noted}
use Rattle.scans.specs.Terms.Parts.{backward_of, AddsEntry, with_best_at, with_previous, rests_at, pauses, too_low, rest_of, rest_over, Coded, Room, NoneBest, GoesOver}
use Rattle.scans.proofs.Parts.{decoded_drop}
use Rattle.scans.proofs.BackwardScan.{not_above, some_found, count_drop, Scanning, scanning_start, scanning_end, scanning_ended, scanning_raised, scanning_paused, scanning_fallen}

-- ---- Without a best place no score is noted and none is too low.
module _ (b : BackwardSums) (n : NoneBest b) (sl : Float) where
  not_too_low : (limit : Float) → too_low limit b sl ≡ false
  not_too_low limit = rw n.none

  not_noted : is_noted b sl ≡ false
  not_noted = go (is_noted b sl) refl
    where
      go : (t : Bool) → is_noted b sl ≡ t → t ≡ false
      go true e = absurd (some_found b sl n.level (λ _. n.is_zero) e n.none)
      go false e = refl

  pauses_near : (quick : Bool) → pauses quick b sl ≡ (quick && lt (b.best ⊖ sl) tiny)
  pauses_near true = refl
  pauses_near false = not_noted

-- ---- The newest of a part's entries, u left out.
coded_drop : (n u : ℕ) (part : List ℕ) → Coded part n → Coded (drop u part) n
coded_drop n u part r = record { below = λ j l. rw (get_or-drop u part j 0) (r.below (u + j) (omega (arith, length-drop u part))) }

room_drop : (len u : ℕ) (window_counts counts part : List ℕ) → Room len window_counts counts (decoded part) → Room len window_counts counts (decoded (drop u part))
room_drop len u window_counts counts part r =
    record { at_most = r.at_most; left = λ x. omega (arith, r.left x, count_drop x u (decoded part), ap (λ (z : List Place). count x z) (decoded_drop u part)) }

-- The code's loop: what is left of the scan is the whole scan, of the part and of each newest of its entries.
pub record ScanningLow (S : Setup) (window_counts : List ℕ) (quick : Bool) (len : ℕ) (part : List ℕ) (a : BackwardState) (counts₀ : List ℕ) (i : ℕ) (b : BackwardState) (counts : List ℕ) : Type 0 where
  pub none_best : NoneBest (backward_of b)
  pub newest : (u : ℕ) → u ≤ i → Scanning S window_counts quick len (drop u part) (a.low - length (drop u part)) a counts₀ (i - u) b counts

module _ (S : Setup) (window_counts : List ℕ) (quick : Bool) (len : ℕ) (part : List ℕ) (a : BackwardState) (counts₀ : List ℕ) where
  abbrev Over : BackwardState → List ℕ → Type 0
  Over b counts = GoesOver S window_counts quick len part (rest_of a counts₀) (rest_of b counts)

  abbrev from : ℕ → ℕ
  from u = a.low - length (drop u part)

  pub whole_over : 0 < length part → (b : BackwardState) (counts : List ℕ)
      → rest_of b counts ≡ rest_over S window_counts quick len (decoded part) (a.low - length part) (length part) (backward_of a) counts₀ → Over b counts
  whole_over some b counts e = record { unread = 0; some = some; scanned = e }

  pub low_start : (i : ℕ) → i ≡ length part → Room len window_counts counts₀ (decoded part) → NoneBest (backward_of a) → ScanningLow S window_counts quick len part a counts₀ i a counts₀
  low_start i e r n =
      record {
        none_best = n;
        newest = λ u l. scanning_start S window_counts quick len (drop u part) (from u) a counts₀ (i - u) (omega (arith, length-drop u part)) (room_drop len u window_counts counts₀ part r);
      }

  module _ (i : ℕ) (b : BackwardState) (counts : List ℕ) (c : ScanningLow S window_counts quick len part a counts₀ i b counts) where
    pub low_whole : Scanning S window_counts quick len part (a.low - length part) a counts₀ i b counts
    low_whole = let e : i - 0 ≡ i = omega arith in subst (λ (z : ℕ). Scanning S window_counts quick len part (a.low - length part) a counts₀ z b counts) e (c.newest 0 (omega arith))

    pub low_end : 0 < length part → i ≤ 0 → (b' : BackwardState) → b' ≡ rests_at b (a.low - length part) false false → Over b' counts
    low_end some h b' z = whole_over some b' counts (scanning_end S window_counts quick len part (a.low - length part) a counts₀ i b counts low_whole h b' z)

    -- The next entry is the part's k-th, and the window's j-th.
    module _ (r : Coded part (length counts₀)) (low_in : length part ≤ a.low) (k j : ℕ) (i_is : i ≡ suc k) (j_is : j ≡ k + (a.low - length part)) where
      abbrev entry : ℕ
      entry = get_or part k 0

      some : 0 < length part
      some = omega (arith, low_whole.inside)

      -- The entry is added: b₁ with counts'.
      module _ (b₁ : BackwardState) (counts' : List ℕ) (adds : AddsEntry S.score_threshold window_counts S.ln (decode entry) b b₁ counts counts') where
        abbrev f_entry : Float
        f_entry = f_at S (len - j)

        abbrev score : Float
        score = b₁.s ⊖ f_entry

        still : NoneBest (backward_of b₁)
        still = rw adds.sums_are (record { none = c.none_best.none; is_zero = c.none_best.is_zero; level = c.none_best.level })

        pub low_ended : (b' : BackwardState) → b' ≡ rests_at b₁ j false true → lt (b₁.sw ⊖ f_entry) zero64 ≡ true → Over b' counts'
        low_ended b' z h = whole_over some b' counts' (scanning_ended S window_counts quick len part (a.low - length part) a counts₀ i b counts low_whole r k j i_is j_is b₁ counts' adds b' z h)

        module _ (on : lt (b₁.sw ⊖ f_entry) zero64 ≡ false) where
          -- The entry as one of the newest.
          added_newest : (u : ℕ) → u ≤ k → AddsEntry S.score_threshold window_counts S.ln (decode (get_or (drop u part) (k - u) 0)) b b₁ counts counts'
          added_newest u l =
              let e : u + (k - u) ≡ k = omega arith in
              subst (λ (z : ℕ). AddsEntry S.score_threshold window_counts S.ln (decode z) b b₁ counts counts') (sym (get_or-drop u part (k - u) 0 ∙ ap (λ (z : ℕ). get_or part z 0) e)) adds

          at_newest : (u : ℕ) → u ≤ k → j ≡ k - u + from u
          at_newest u l = omega (arith, length-drop u part, low_whole.inside)

          is_best : (t : Bool) → le zero64 score ≡ t → le b₁.best score ≡ t
          is_best t h = ap (λ (z : Float). le z score) still.is_zero ∙ h

          pub low_raised : le zero64 score ≡ true → (b₂ : BackwardState) → b₂ ≡ with_best_at b₁ score j → (b' : BackwardState) → b' ≡ rests_at b₂ j false false → Over b' counts'
          low_raised h b₂ z b' y =
              let l : k ≤ k = omega arith in
              let n : k < length part = omega (arith, low_whole.inside) in
              let e : j ≡ from k = omega (arith, at_newest k l) in
              let d = scanning_raised S window_counts quick len (drop k part) (from k) a counts₀ (i - k) b counts (c.newest k (omega arith)) (coded_drop (length counts₀) k part r) (k - k) j (omega arith) (at_newest k l)
              b₁ counts' (added_newest k l) on (is_best true h) b₂ z in
              record {
                unread = k;
                some = n;
                scanned = scanning_end S window_counts quick len (drop k part) (from k) a counts₀ (k - k) b₂ counts' d (omega arith) b' (y ∙ ap (λ (x : ℕ). rests_at b₂ x false false) e);
              }

          module _ (h : le zero64 score ≡ false) (b₂ : BackwardState) (z : b₂ ≡ with_previous b₁ score) where
            pub low_paused : quick && lt (b₁.best ⊖ score) tiny ≡ true → (b' : BackwardState) → b' ≡ rests_at b₂ j true false → Over b' counts'
            low_paused t b' y =
                whole_over some b' counts'
                (scanning_paused S window_counts quick len part (a.low - length part) a counts₀ i b counts low_whole r k j i_is j_is b₁ counts' adds on (is_best false h) b₂ z
                (pauses_near (backward_of b₁) still score quick ∙ t) false (sym (not_too_low (backward_of b₁) still score S.drop_limit)) b' y)

            pub low_fallen : quick && lt (b₁.best ⊖ score) tiny ≡ false → ScanningLow S window_counts quick len part a counts₀ k b₂ counts'
            low_fallen t =
                record {
                  none_best = rw z (record { none = still.none; is_zero = still.is_zero; level = not_above b₁.best score (is_best false h) });
                  newest = λ u l. scanning_fallen S window_counts quick len (drop u part) (from u) a counts₀ (i - u) b counts (c.newest u (omega arith)) (coded_drop (length counts₀) u part r) (k - u) j (omega arith) (at_newest u l)
                      b₁ counts' (added_newest u l) on (is_best false h) b₂ z (pauses_near (backward_of b₁) still score quick ∙ t) (not_too_low (backward_of b₁) still score S.drop_limit);
                }

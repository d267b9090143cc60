-- The backward scan, a turn at a time: over a straight part of the ring (`Scanning`), from one rest to the next over the window (`goes_on`), and the definition's scan from one rest to the next (`backward_rest`).
use Rattle.std.proofs.Common.{◌≡◌, refl, sym, ap, ap₂, ◌∙◌, subst, Bool, true, false, cond, not, ◌&&◌, ◌||◌, true≢false, List, [], ◌∷◌, ◌++◌, ℕ, zero, suc, ◌+◌, ◌-◌, ◌/◌, ◌%◌, ◌^◌, ◌<◌, ◌≤◌, arith, length, get_or, take, drop, replicate, length-drop, drop-cons, T, Float}
use lib.Seq.{drop-length}
use lib.Ieee.{nan, neg, lt, le, eq, of_bits, of_fields}
use Rattle.floats.specs.Arithmetic.{◌⊖◌}
use Rattle.floats.specs.Binary64.{zero64, near_zero}
use Rattle.floats.proofs.Order.{lt_self, le_lt_trans}
use Rattle.letters.specs.Place.{Place, ambiguous, plain, BelowAt, Below}
use Rattle.letters.specs.Terms.Entry.{decode, decoded}
use Rattle.letters.proofs.Entries.{decode_plain, decoded_length, decoded_at}
use Rattle.scans.specs.declared.Params.{Params}
use Rattle.scans.specs.declared.backward.BackwardState.{BackwardState}
use Rattle.scans.specs.Setup.{Setup, f_at, kmers}
use Rattle.scans.specs.Counts.{hit, count, raise}
use Rattle.scans.specs.Terms.Counted.{Counted}
use Rattle.scans.specs.Scans.{value, second_value, Candidate, candidate, BackwardSums, backward_start, is_noted, noted, is_dropped, backward_judged, Backward, backward_from}
use Rattle.scans.specs.Terms.Window.{window, counted_value, Windowed}
use Rattle.scans.specs.Terms.Run.{as_setup, entries_of, WindowCounted, PartTo}
use Rattle.scans.specs.declared.run.Setup.{Setup as RunSetup}
use Rattle.scans.specs.declared.run.Ring.{Ring}
use Rattle.scans.specs.Terms.Parts.{backward_of, left_value, AddsEntry, with_best_at, with_previous, rests_at, Fresh, pauses, too_low, Rest, rest_of, sums_with, raised_at, fallen_to, rest_over, rest_from, rest_after, Coded, Room, PartBefore, NoneBest, Backs, GoesOver, GoesOn}
use Rattle.scans.proofs.Counting.{hit_self, count_snoc, count_append, count_le, raise_counted, raise_hit, raise_length, cleared_counted}
use Rattle.scans.proofs.Values.{raised_value, decode_below}
use Rattle.scans.proofs.Parts.{Stands, stands_at, decoded_drop, newest_stands}
use Rattle.scans.proofs.Windows.{long}
use Rattle.scans.proofs.Walk.{windowed_queued, queued_below}

-- ---- The tests in the code's order.
-- A score not below the best is not below the score before, which is not above the best.
no_fall : (best sl previous : Float) → lt best previous ≡ false → le best sl ≡ true → lt sl previous ≡ false
no_fall best sl previous p h = go (lt sl previous) refl
  where
    go : (b : Bool) → lt sl previous ≡ b → b ≡ false
    go true e = absurd (subst T p (le_lt_trans best sl previous (subst T (sym h) tt) (subst T (sym e) tt)))
    go false e = refl

pub first_true : (b c : Bool) → b && c ≡ true → b ≡ true
first_true true c e = refl
first_true false c e = e

pub last_true : (b c : Bool) → b && c ≡ true → c ≡ true
last_true true c e = e
last_true false c e = absurd (true≢false (sym e))

-- A score below the best is not above it.
pub not_above : (best sl : Float) → le best sl ≡ false → lt best sl ≡ false
unfolding le
not_above best sl h = go (lt best sl) (eq best sl) h
  where
    go : (b c : Bool) → b || c ≡ false → b ≡ false
    go true c e = e
    go false c e = refl

-- ---- A scan, one entry on, at index j: b are the sums with it, fl its f entry.
module _ (S : Setup) (window_counts : List ℕ) (quick : Bool) (len : ℕ) (es : List Place) (at k j : ℕ) (j_is : j ≡ k + at) (a : BackwardSums) (counts : List ℕ) (e : Place) (pe : get_or es k ambiguous ≡ e)
    (b : BackwardSums) (raised : List ℕ) (rs : raised ≡ raise counts e) (bs : b ≡ sums_with S window_counts raised e a) where
  abbrev fl : Float
  fl = f_at S (len - j)

  abbrev sl : Float
  sl = b.s ⊖ fl

  abbrev scan : ℕ → BackwardSums → List ℕ → Rest
  scan = rest_over S window_counts quick len es at

  turn : scan (suc k) a counts
      ≡ cond (lt (b.sw ⊖ fl) zero64) (record { sums = b; low = j; paused = false; done = true; counts = raised })
      (cond (le b.best sl) (scan k (raised_at b sl j) raised)
      (cond (pauses quick b sl || too_low S.drop_limit b sl)
      (record { sums = fallen_to b sl; low = j; paused = pauses quick b sl; done = too_low S.drop_limit b sl; counts = raised }) (scan k (fallen_to b sl) raised)))
  unfolding rest_over
  turn = rw (j_is, bs, rs, pe)

-- ---- The code's loop over the entries of a part, the last first: what is left of the scan is the whole scan.
count_take : (x i : ℕ) (es : List Place) → i < length es → count x (take (suc i) es) ≡ hit x (get_or es i ambiguous) + count x (take i es)
count_take x i [] h = absurd (let b : ⊥ = omega arith in b)
count_take x zero (e ∷ es) h = refl
count_take x (suc i) (e ∷ es) h = omega (arith, count_take x i es (omega arith))

take_all : (es : List Place) → take (length es) es ≡ es
take_all [] = refl
take_all (e ∷ es) = ap (λ (z : List Place). e ∷ z) (take_all es)

pub record Scanning (S : Setup) (window_counts : List ℕ) (quick : Bool) (len : ℕ) (part : List ℕ) (at : ℕ) (a : BackwardState) (counts₀ : List ℕ) (i : ℕ) (b : BackwardState) (counts : List ℕ) : Type 0 where
  pub inside : i ≤ length part
  pub same : length counts ≡ length counts₀
  pub room : (x : ℕ) → get_or counts x 0 + count x (take i (decoded part)) ≤ get_or window_counts x 0
  pub rest : rest_over S window_counts quick len (decoded part) at (length part) (backward_of a) counts₀ ≡ rest_over S window_counts quick len (decoded part) at i (backward_of b) counts

module _ (S : Setup) (window_counts : List ℕ) (quick : Bool) (len : ℕ) (part : List ℕ) (at : ℕ) (a : BackwardState) (counts₀ : List ℕ) where
  pub scanning_start : (i : ℕ) → i ≡ length part → Room len window_counts counts₀ (decoded part) → Scanning S window_counts quick len part at a counts₀ i a counts₀
  scanning_start i e r =
      let n : i ≡ length (decoded part) = e ∙ sym (decoded_length part) in
      let t : take i (decoded part) ≡ decoded part = ap (λ (z : ℕ). take z (decoded part)) n ∙ take_all (decoded part) in
      record {
        inside = omega arith;
        same = refl;
        room = λ x. omega (arith, r.left x, ap (λ (z : List Place). count x z) t);
        rest = ap (λ (z : ℕ). rest_over S window_counts quick len (decoded part) at z (backward_of a) counts₀) (sym e);
      }

  module _ (i : ℕ) (b : BackwardState) (counts : List ℕ) (c : Scanning S window_counts quick len part at a counts₀ i b counts) where
    pub scanning_end : i ≤ 0 → (b' : BackwardState) → b' ≡ rests_at b at false false → rest_of b' counts ≡ rest_over S window_counts quick len (decoded part) at (length part) (backward_of a) counts₀
    unfolding rest_over
    scanning_end h b' z =
        let n : i ≡ 0 = omega arith in
        sym (c.rest ∙ ap (λ (x : ℕ). rest_over S window_counts quick len (decoded part) at x (backward_of b) counts) n ∙ sym (ap (λ (x : BackwardState). rest_of x counts) z))

    -- The next entry is the part's k-th, and the window's j-th.
    module _ (r : Coded part (length counts₀)) (k j : ℕ) (i_is : i ≡ suc k) (j_is : j ≡ k + at) where
      abbrev entry : ℕ
      entry = get_or part k 0

      abbrev e : Place
      e = decode entry

      entry_in : k < length part
      entry_in = omega (arith, c.inside)

      place : get_or (decoded part) k ambiguous ≡ e
      place = decoded_at part k entry_in

      below : entry / 2 < length counts
      below = omega (arith, r.below k entry_in, c.same)

      left : (x : ℕ) → get_or counts x 0 + (hit x e + count x (take k (decoded part))) ≤ get_or window_counts x 0
      left x =
          let n : count x (take i (decoded part)) ≡ hit x e + count x (take k (decoded part)) =
          ap (λ (z : ℕ). count x (take z (decoded part))) i_is ∙ count_take x k (decoded part) (omega (arith, entry_in, decoded_length part))
          ∙ ap (λ (y : Place). hit x y + count x (take k (decoded part))) place in
          omega (arith, c.room x)

      uncounted : entry % 2 ≡ 0 → get_or counts (entry / 2) 0 < get_or window_counts (entry / 2) 0
      uncounted h = omega (arith, left (entry / 2), ap (λ (y : Place). hit (entry / 2) y) (decode_plain entry h), hit_self (entry / 2))

      pub add_ready : (n : ℕ) → len ≤ 65535 → len < n → length window_counts ≡ length counts₀ → ((x : ℕ) → get_or window_counts x 0 ≤ len)
          → ((entry / 2 < length window_counts) × (entry / 2 < length counts) × (get_or window_counts (entry / 2) 0 ≤ 65535) × (get_or window_counts (entry / 2) 0 < n))
          × (entry % 2 ≡ 0 → get_or counts (entry / 2) 0 < get_or window_counts (entry / 2) 0)
      add_ready n small long same most = ((omega (arith, below, c.same), below, omega (arith, most (entry / 2)), omega (arith, most (entry / 2))), uncounted)

      -- The entry is added: b₁ with counts'.
      module _ (b₁ : BackwardState) (counts' : List ℕ) (adds : AddsEntry S.score_threshold window_counts S.ln e b b₁ counts counts') where
        abbrev f_entry : Float
        f_entry = f_at S (len - j)

        abbrev score : Float
        score = b₁.s ⊖ f_entry

        turned : rest_over S window_counts quick len (decoded part) at (length part) (backward_of a) counts₀
            ≡ cond (lt (b₁.sw ⊖ f_entry) zero64) (record { sums = backward_of b₁; low = j; paused = false; done = true; counts = counts' })
            (cond (le b₁.best score) (rest_over S window_counts quick len (decoded part) at k (raised_at (backward_of b₁) score j) counts')
            (cond (pauses quick (backward_of b₁) score || too_low S.drop_limit (backward_of b₁) score)
            (record { sums = fallen_to (backward_of b₁) score; low = j; paused = pauses quick (backward_of b₁) score; done = too_low S.drop_limit (backward_of b₁) score; counts = counts' })
            (rest_over S window_counts quick len (decoded part) at k (fallen_to (backward_of b₁) score) counts')))
        turned =
            c.rest ∙ ap (λ (z : ℕ). rest_over S window_counts quick len (decoded part) at z (backward_of b) counts) i_is
            ∙ turn S window_counts quick len (decoded part) at k j j_is (backward_of b) counts e place (backward_of b₁) counts' adds.counts_are (ap backward_of adds.sums_are)

        room_on : (x : ℕ) → get_or counts' x 0 + count x (take k (decoded part)) ≤ get_or window_counts x 0
        room_on x = omega (arith, left x, ap (λ (g : List ℕ). get_or g x 0) adds.counts_are ∙ raise_hit counts e x (decode_below (length counts) entry below))

        same_on : length counts' ≡ length counts₀
        same_on = ap length adds.counts_are ∙ raise_length counts e ∙ c.same

        pub scanning_ended : (b' : BackwardState) → b' ≡ rests_at b₁ j false true → lt (b₁.sw ⊖ f_entry) zero64 ≡ true
            → rest_of b' counts' ≡ rest_over S window_counts quick len (decoded part) at (length part) (backward_of a) counts₀
        scanning_ended b' z h = sym (turned ∙ rw (h, z))

        module _ (on : lt (b₁.sw ⊖ f_entry) zero64 ≡ false) where
          pub scanning_raised : le b₁.best score ≡ true → (b₂ : BackwardState) → b₂ ≡ with_best_at b₁ score j → Scanning S window_counts quick len part at a counts₀ k b₂ counts'
          scanning_raised h b₂ z = record { inside = omega (arith, entry_in); same = same_on; room = room_on; rest = turned ∙ rw (on, h, z) }

          module _ (h : le b₁.best score ≡ false) (b₂ : BackwardState) (z : b₂ ≡ with_previous b₁ score) where
            pub scanning_paused : pauses quick (backward_of b₁) score ≡ true → (low : Bool) → low ≡ too_low S.drop_limit (backward_of b₁) score → (b' : BackwardState) → b' ≡ rests_at b₂ j true low
                → rest_of b' counts' ≡ rest_over S window_counts quick len (decoded part) at (length part) (backward_of a) counts₀
            scanning_paused t low d b' y = sym (turned ∙ rw (on, h, t, y, z, d))

            module _ (n : pauses quick (backward_of b₁) score ≡ false) where
              pub scanning_stopped : too_low S.drop_limit (backward_of b₁) score ≡ true → (b' : BackwardState) → b' ≡ rests_at b₂ j false true
                  → rest_of b' counts' ≡ rest_over S window_counts quick len (decoded part) at (length part) (backward_of a) counts₀
              scanning_stopped t b' y = sym (turned ∙ rw (on, h, n, t, y, z))

              pub scanning_fallen : too_low S.drop_limit (backward_of b₁) score ≡ false → Scanning S window_counts quick len part at a counts₀ k b₂ counts'
              scanning_fallen t = record { inside = omega (arith, entry_in); same = same_on; room = room_on; rest = turned ∙ rw (on, h, n, t, z) }

at_same : (q es : List Place) (at : ℕ) → Stands q es at → (m : ℕ) → m < length es → get_or q (m + at) ambiguous ≡ get_or es m ambiguous
at_same q es at stands m l = let n : m + at ≡ at + m = omega arith in ap (λ (x : ℕ). get_or q x ambiguous) n ∙ stands_at q es at stands m l

-- ---- The scan of a part leads to where the scan of the window does.
module _ (S : Setup) (window_counts : List ℕ) (quick : Bool) (q : List Place) where
  abbrev after : Rest → Rest
  after r = rest_after S window_counts quick q r

  both : (t₁ t₂ pause low : Bool) (a b : BackwardSums) (j : ℕ) (counts : List ℕ) (higher later higher' later' : Rest) → higher ≡ after higher' → later ≡ after later'
      → cond t₁ (record { sums = a; low = j; paused = false; done = true; counts = counts }) (cond t₂ higher (cond (pause || low) (record { sums = b; low = j; paused = pause; done = low; counts = counts }) later))
      ≡ after (cond t₁ (record { sums = a; low = j; paused = false; done = true; counts = counts }) (cond t₂ higher' (cond (pause || low) (record { sums = b; low = j; paused = pause; done = low; counts = counts }) later')))
  both true t₂ pause low a b j counts higher later higher' later' h l = refl
  both false true pause low a b j counts higher later higher' later' h l = h
  both false false true low a b j counts higher later higher' later' h l = refl
  both false false false true a b j counts higher later higher' later' h l = refl
  both false false false false a b j counts higher later higher' later' h l = l

  module _ (es : List Place) (at : ℕ) (stands : Stands q es at) where
    abbrev over : ℕ → BackwardSums → List ℕ → Rest
    over m a counts = rest_over S window_counts quick (length q) es at m a counts

    part_of : (m : ℕ) → m ≤ length es → (a : BackwardSums) (counts : List ℕ) → rest_from S window_counts quick q (m + at) a counts ≡ after (over m a counts)
    unfolding rest_over
    part_of zero l a counts = let n : 0 + at ≡ at = omega arith in ap (λ (x : ℕ). rest_from S window_counts quick q x a counts) n
    part_of (suc m) l a counts =
        let e : Place = get_or es m ambiguous in
        let raised : List ℕ = raise counts e in
        let b : BackwardSums = sums_with S window_counts raised e a in
        let fl : Float = f_at S (length q - (m + at)) in
        let sl : Float = b.s ⊖ fl in
        let k : suc m + at ≡ suc (m + at) = omega arith in
        let z : m + at + 0 ≡ m + at = omega arith in
        ap (λ (x : ℕ). rest_from S window_counts quick q x a counts) k
        ∙ rw (z, at_same q es at stands m (omega arith))
        (both (lt (b.sw ⊖ fl) zero64) (le b.best sl) (pauses quick b sl) (too_low S.drop_limit b sl) b (fallen_to b sl) (m + at) raised _ _ (over m (raised_at b sl (m + at)) raised) (over m (fallen_to b sl) raised)
        (part_of m (omega arith) (raised_at b sl (m + at)) raised) (part_of m (omega arith) (fallen_to b sl) raised))

-- ---- What holds where a scan rests.
pub below_at : (m : ℕ) (q : List Place) (j : ℕ) → Below m q → j < length q → BelowAt m (get_or q j ambiguous)
below_at m [] j h l = absurd (let b : ⊥ = omega arith in b)
below_at m (e ∷ q) zero h l = h.0
below_at m (e ∷ q) (suc j) h l = below_at m q j h.1 (omega arith)

pub read_counted : (m : ℕ) (q : List Place) (j : ℕ) (counts : List ℕ) → Below m q → j < length q → Counted m counts (drop (suc j) q) → Counted m (raise counts (get_or q j ambiguous)) (drop j q)
read_counted m q j counts below l c =
    let e : Place = get_or q j ambiguous in
    let d = raise_counted m counts (drop (suc j) q) e (below_at m q j below l) c in
    record { long = d.long; counted = λ x. d.counted x ∙ count_snoc x (drop (suc j) q) e ∙ ap (λ (g : List Place). count x g) (sym (drop-cons q j ambiguous l)) }

abbrev pub rest_at : BackwardSums → ℕ → List ℕ → Rest
rest_at a low counts = record { sums = a; low = low; paused = false; done = false; counts = counts }

record Backed (S : Setup) (quick : Bool) (q : List Place) (low : ℕ) (a : BackwardSums) (r : Rest) : Type 0 where
  here : Backs (kmers S) q r
  down : r.low ≤ low
  kept : r.sums.found ≡ 0 → a.found ≡ 0
  peaked : quick ≡ false → r.paused ≡ true → r.sums.found ≡ 0 → ⊥

-- A peak above 0 has a best place.
pub some_found : (a : BackwardSums) (sl : Float) → lt a.best a.previous ≡ false → (a.found ≡ 0 → a.best ≡ zero64) → is_noted a sl ≡ true → a.found ≡ 0 → ⊥
some_found a sl level zero' t e =
    let above : lt zero64 a.previous ≡ true = first_true (lt zero64 a.previous) _ (last_true (lt sl a.previous) _ t) in
    true≢false (sym above ∙ ap (λ (x : Float). lt x a.previous) (sym (zero' e)) ∙ level)

-- One entry on, at index j: b are the sums with it.
module _ (S : Setup) (quick : Bool) (q : List Place) (j : ℕ) (l : j < length q) (a b : BackwardSums) (counts raised : List ℕ) (h : Backs (kmers S) q (rest_at a (suc j) counts)) (c : Counted (kmers S) raised (drop j q))
    (best_is : b.best ≡ a.best) (found_is : b.found ≡ a.found) (previous_is : b.previous ≡ a.previous) (sl : Float) (higher later : Rest) where
  level : lt b.best b.previous ≡ false
  level = rw (best_is, previous_is) h.level

  from_zero : b.found ≡ 0 → b.best ≡ zero64
  from_zero e = best_is ∙ h.from_zero (sym found_is ∙ e)

  resting : (x : BackwardSums) (pause done : Bool) → x.found ≡ b.found → x.best ≡ b.best → lt x.best x.previous ≡ false → Backs (kmers S) q (record { sums = x; low = j; paused = pause; done = done; counts = raised })
  resting x pause done f g v =
      record {
        low_in = omega arith;
        counted = c;
        found_in = omega (arith, h.found_in);
        best_read = λ s. let k = h.best_read (omega arith) in omega arith;
        level = v;
        from_zero = λ e. g ∙ from_zero (sym f ∙ e);
      }

  fallen : le b.best sl ≡ false → (pause done : Bool) → Backs (kmers S) q (record { sums = fallen_to b sl; low = j; paused = pause; done = done; counts = raised })
  fallen n pause done = resting (fallen_to b sl) pause done refl refl (not_above b.best sl n)

  raised_backs : Backs (kmers S) q (rest_at (raised_at b sl j) j raised)
  raised_backs =
      record {
        low_in = omega arith;
        counted = c;
        found_in = omega arith;
        best_read = λ s. omega arith;
        level = lt_self sl;
        from_zero = λ e. absurd (let n : ⊥ = omega arith in n);
      }

  backed_turn : (Backs (kmers S) q (rest_at (raised_at b sl j) j raised) → Backed S quick q j (raised_at b sl j) higher) → (Backs (kmers S) q (rest_at (fallen_to b sl) j raised) → Backed S quick q j (fallen_to b sl) later) → (t₁ : Bool)
      → Backed S quick q j a
      (cond t₁ (record { sums = b; low = j; paused = false; done = true; counts = raised })
      (cond (le b.best sl) higher
      (cond (pauses quick b sl || too_low S.drop_limit b sl) (record { sums = fallen_to b sl; low = j; paused = pauses quick b sl; done = too_low S.drop_limit b sl; counts = raised }) later)))
  backed_turn up down true = record { here = resting b false true refl refl level; down = omega arith; kept = λ e. sym found_is ∙ e; peaked = λ _ t _. absurd (true≢false (sym t)) }
  backed_turn up down false = go (le b.best sl) refl (pauses quick b sl) refl (too_low S.drop_limit b sl)
    where
      noted_some : (p : Bool) → pauses quick b sl ≡ p → quick ≡ false → p ≡ true → b.found ≡ 0 → ⊥
      noted_some p e k t = some_found b sl level from_zero (ap (λ (z : Bool). pauses z b sl) (sym k) ∙ e ∙ t)

      go : (t₂ : Bool) → le b.best sl ≡ t₂ → (p : Bool) → pauses quick b sl ≡ p → (d : Bool)
          → Backed S quick q j a (cond t₂ higher (cond (p || d) (record { sums = fallen_to b sl; low = j; paused = p; done = d; counts = raised }) later))
      go true n p e d =
          let k = up raised_backs in
          record { here = k.here; down = k.down; kept = λ f. absurd (let z : ⊥ = omega (arith, k.kept f) in z); peaked = k.peaked }
      go false n true e d = record { here = fallen n true d; down = omega arith; kept = λ f. sym found_is ∙ f; peaked = λ k t f. noted_some true e k t f }
      go false n false e true = record { here = fallen n false true; down = omega arith; kept = λ f. sym found_is ∙ f; peaked = λ _ t _. absurd (true≢false (sym t)) }
      go false n false e false =
          let k = down (fallen n false false) in
          record { here = k.here; down = k.down; kept = λ f. sym found_is ∙ k.kept f; peaked = k.peaked }

module _ (S : Setup) (window_counts : List ℕ) (quick : Bool) (q : List Place) (below : Below (kmers S) q) (es : List Place) (at : ℕ) (stands : Stands q es at) where
  backs_as : (a : BackwardSums) (m n : ℕ) (counts : List ℕ) → m ≡ n → Backs (kmers S) q (rest_at a m counts) → Backs (kmers S) q (rest_at a n counts)
  backs_as a m n counts e h = subst (λ (z : ℕ). Backs (kmers S) q (rest_at a z counts)) e h

  backed_as : (m n : ℕ) (a : BackwardSums) (r : Rest) → m ≤ n → Backed S quick q m a r → Backed S quick q n a r
  backed_as m n a r l k = record { here = k.here; down = omega (arith, k.down); kept = k.kept; peaked = k.peaked }

  backs_over : (m : ℕ) → m ≤ length es → (a : BackwardSums) (counts : List ℕ) → Backs (kmers S) q (rest_at a (m + at) counts)
      → Backed S quick q (m - 1 + at) a (rest_over S window_counts quick (length q) es at m a counts)
  unfolding rest_over
  backs_over zero l a counts h =
      record { here = backs_as a (0 + at) at counts (omega arith) h; down = omega arith; kept = λ e. e; peaked = λ _ t _. absurd (true≢false (sym t)) }
  backs_over (suc m) l a counts h =
      let e : Place = get_or es m ambiguous in
      let raised : List ℕ = raise counts e in
      let b : BackwardSums = sums_with S window_counts raised e a in
      let fl : Float = f_at S (length q - (m + at)) in
      let sl : Float = b.s ⊖ fl in
      let k : suc m + at ≡ suc (m + at) = omega arith in
      let n : m + at < length q = omega (arith, stands.inside) in
      let h' = backs_as a (suc m + at) (suc (m + at)) counts k h in
      let c : Counted (kmers S) raised (drop (m + at) q) =
      subst (λ (z : Place). Counted (kmers S) (raise counts z) (drop (m + at) q)) (at_same q es at stands m (omega arith)) (read_counted (kmers S) q (m + at) counts below n h'.counted) in
      backed_as (m + at) (suc m - 1 + at) a _ (omega arith)
      (backed_turn S quick q (m + at) n a b counts raised h' c refl refl refl sl _ _
      (λ g. backed_as (m - 1 + at) (m + at) _ _ (omega arith) (backs_over m (omega arith) (raised_at b sl (m + at)) raised g))
      (λ g. backed_as (m - 1 + at) (m + at) _ _ (omega arith) (backs_over m (omega arith) (fallen_to b sl) raised g)) (lt (b.sw ⊖ fl) zero64))

  -- A scan that rests at a goes on over the part before, to b.
  pub goes_on : (a b : Rest) → a.low ≡ length es + at → 0 < length es → Backs (kmers S) q a → b ≡ rest_over S window_counts quick (length q) es at (length es) a.sums a.counts → GoesOn S window_counts quick q a b
  goes_on a b e some h is =
      let k = backs_over (length es) (omega arith) a.sums a.counts (record {
        low_in = omega (arith, h.low_in);
        counted = subst (λ (z : ℕ). Counted (kmers S) a.counts (drop z q)) e h.counted;
        found_in = h.found_in;
        best_read = λ s. omega (arith, h.best_read s);
        level = h.level;
        from_zero = h.from_zero;
      }) in
      rw is
      (record {
        scanned = ap (λ (z : ℕ). rest_from S window_counts quick q z a.sums a.counts) e ∙ part_of S window_counts quick q es at stands (length es) (omega arith) a.sums a.counts;
        less = omega (arith, k.down);
        here = k.here;
        kept = k.kept;
        peaked = k.peaked;
      })

-- ---- The definition's scan, from one rest to the next.
-- The candidates with the place of a peak that the scan left.
abbrev pub with_peak : Rest → List Candidate → List Candidate
with_peak r cs = cond r.paused (cs ++ candidate (r.low + 1) r.sums.best ∷ []) cs

-- What a scan that rests at r answers in the end.
abbrev pub answer_after : Setup → List Place → Rest → List Candidate → Backward
answer_after S q r cs =
    cond r.done (record { best = r.sums.best; found = r.sums.found; counts = r.counts; candidates = with_peak r cs })
    (backward_from S q r.low (length q + 1 - r.low) r.sums r.counts (with_peak r cs))

pub left_second : (S : Setup) (q : List Place) (window_counts raised : List ℕ) (e : Place) → ((x : ℕ) → get_or window_counts x 0 ≡ count x q) → left_value S.ln window_counts raised e ≡ second_value S q raised e
left_second S q window_counts raised ambiguous h = refl
left_second S q window_counts raised (plain x) h = ap (λ (c : ℕ). get_or S.ln (c - get_or raised x 0 + 1) nan) (h x)

module _ (S : Setup) (window_counts : List ℕ) (q : List Place) (window_counted : Counted (kmers S) window_counts q) (below : Below (kmers S) q) where
  -- One entry on, at index m.
  module _ (m : ℕ) (l : m < length q) (a : BackwardSums) (counts : List ℕ) (c : Counted (kmers S) counts (drop (suc m) q)) where
    abbrev e' : Place
    e' = get_or q m ambiguous

    abbrev raised' : List ℕ
    raised' = raise counts e'

    abbrev b' : BackwardSums
    b' = sums_with S window_counts raised' e' a

    abbrev fl' : Float
    fl' = f_at S (length q - m)

    abbrev sl' : Float
    sl' = b'.s ⊖ fl'

    pub definition_turn : (cs : List Candidate) → backward_from S q (suc m) (length q + 1 - suc m) a counts cs
        ≡ cond (lt (b'.sw ⊖ fl') zero64) (record { best = a.best; found = a.found; counts = raised'; candidates = cs })
        (cond (is_dropped S b' sl')
        (record { best = (backward_judged b' b'.s b'.sw sl' m).best; found = (backward_judged b' b'.s b'.sw sl' m).found; counts = raised'; candidates = noted b' sl' m cs })
        (backward_from S q m (length q + 1 - m) (backward_judged b' b'.s b'.sw sl' m) raised' (noted b' sl' m cs)))
    unfolding backward_from
    definition_turn cs =
        let v : value S counts e' ≡ counted_value S.ln raised' e' = sym (raised_value S counts e' (subst (λ (n : ℕ). BelowAt n e') (sym c.long) (below_at (kmers S) q m below l))) in
        let w : second_value S q raised' e' ≡ left_value S.ln window_counts raised' e' = sym (left_second S q window_counts raised' e' window_counted.counted) in
        let n : length q + 1 - suc m ≡ length q - m = omega arith in
        let o : length q - m + 1 ≡ length q + 1 - m = omega arith in
        rw (n, o, v, w)

  module _ (m : ℕ) (l : m < length q) (a : BackwardSums) (counts : List ℕ) (c : Counted (kmers S) counts (drop (suc m) q)) (cs : List Candidate) (higher later : Rest) where
    abbrev b : BackwardSums
    b = b' m l a counts c

    abbrev raised : List ℕ
    raised = raised' m l a counts c

    abbrev x : Float
    x = sl' m l a counts c

    abbrev scan_from : BackwardSums → List Candidate → Backward
    scan_from y cs' = backward_from S q m (length q + 1 - m) y raised cs'

    cases : (t₁ t₂ p d : Bool) → (t₂ ≡ true → p ≡ false) → (t₂ ≡ true → scan_from (raised_at b x m) cs ≡ answer_after S q higher cs) → (t₂ ≡ false → scan_from (fallen_to b x) cs ≡ answer_after S q later cs)
        → cond t₁ (record { best = a.best; found = a.found; counts = raised; candidates = cs })
        (cond (not t₂ && d)
        (record { best = (cond t₂ (raised_at b x m) (fallen_to b x)).best; found = (cond t₂ (raised_at b x m) (fallen_to b x)).found; counts = raised; candidates = cond p (cs ++ candidate (m + 1) b.best ∷ []) cs })
        (scan_from (cond t₂ (raised_at b x m) (fallen_to b x)) (cond p (cs ++ candidate (m + 1) b.best ∷ []) cs)))
        ≡ answer_after S q
        (cond t₁ (record { sums = b; low = m; paused = false; done = true; counts = raised })
        (cond t₂ higher (cond (p || d) (record { sums = fallen_to b x; low = m; paused = p; done = d; counts = raised }) later))) cs
    cases true t₂ p d n up down = refl
    cases false true true d n up down = absurd (true≢false (n refl))
    cases false true false d n up down = up refl
    cases false false true true n up down = refl
    cases false false true false n up down = refl
    cases false false false true n up down = refl
    cases false false false false n up down = down refl

  pub backward_rest : (i : ℕ) → i ≤ length q → (a : BackwardSums) (counts : List ℕ) → Counted (kmers S) counts (drop i q) → lt a.best a.previous ≡ false → (cs : List Candidate)
      → backward_from S q i (length q + 1 - i) a counts cs ≡ answer_after S q (rest_from S window_counts false q i a counts) cs
  unfolding rest_over
  backward_rest zero l a counts c level cs = refl
  backward_rest (suc m) l a counts c level cs =
      let n : m < length q = omega arith in
      let x : BackwardSums = b' m n a counts c in
      let sl : Float = sl' m n a counts c in
      let raised : List ℕ = raised' m n a counts c in
      let c' : Counted (kmers S) raised (drop m q) = read_counted (kmers S) q m counts below n c in
      let z : m + 0 ≡ m = omega arith in
      definition_turn m n a counts c cs
      ∙ rw z
      (cases m n a counts c cs (rest_from S window_counts false q m (raised_at x sl m) raised) (rest_from S window_counts false q m (fallen_to x sl) raised)
      (lt (x.sw ⊖ fl' m n a counts c) zero64) (le a.best sl) (is_noted x sl) (too_low S.drop_limit x sl)
      (λ h. ap (λ (z : Bool). z && (lt zero64 a.previous && near_zero (a.previous ⊖ a.best))) (no_fall a.best sl a.previous level h))
      (λ _. backward_rest m (omega arith) (raised_at x sl m) raised c' (lt_self sl) cs) (λ h. backward_rest m (omega arith) (fallen_to x sl) raised c' (not_above a.best sl h) cs))

  -- The same where the scan goes on from a to b.
  pub backward_goes : (a b : Rest) → GoesOn S window_counts false q a b → Backs (kmers S) q a → (cs : List Candidate) → backward_from S q a.low (length q + 1 - a.low) a.sums a.counts cs ≡ answer_after S q b cs
  backward_goes a b g h cs =
      backward_rest a.low h.low_in a.sums a.counts h.counted h.level cs ∙ ap (λ (r : Rest). answer_after S q r cs) g.scanned ∙ go b.paused refl b.done refl
    where
      go : (p : Bool) → b.paused ≡ p → (d : Bool) → b.done ≡ d → answer_after S q (rest_after S window_counts false q b) cs ≡ answer_after S q b cs
      go true p d e = rw p
      go false p true e = rw (p, e)
      go false p false e = rw (p, e) (sym (backward_rest b.low g.here.low_in b.sums b.counts g.here.counted g.here.level cs))

-- ---- A scan begins.
start_level : lt backward_start.best backward_start.previous ≡ false
unfolding lt neg of_bits of_fields
start_level = refl

pub none_counted : (m : ℕ) (q : List Place) (counts : List ℕ) → counts ≡ replicate m 0 → Counted m counts (drop (length q) q)
none_counted m q counts clear = rw (clear, drop-length q) (cleared_counted m)

pub backs_start : (q : List Place) (len m : ℕ) (a : BackwardState) (counts : List ℕ) → length q ≡ len → Fresh len a → counts ≡ replicate m 0 → Backs m q (rest_of a counts)
backs_start q len m a counts l fresh clear =
    let low : length q ≡ a.low = l ∙ sym fresh.low_is in
    let f : a.found ≡ 0 = ap (λ (z : BackwardSums). z.found) fresh.sums_are in
    record {
      low_in = omega arith;
      counted = subst (λ (n : ℕ). Counted m counts (drop n q)) low (none_counted m q counts clear);
      found_in = omega arith;
      best_read = λ s. absurd (let b : ⊥ = omega arith in b);
      level = ap (λ (z : BackwardSums). lt z.best z.previous) fresh.sums_are ∙ start_level;
      from_zero = λ _. ap (λ (z : BackwardSums). z.best) fresh.sums_are;
    }

-- ---- The entries before `low` in a straight part of the ring.
pub count_drop : (x j : ℕ) (q : List Place) → count x (drop j q) ≤ count x q
count_drop x zero q = omega arith
count_drop x (suc j) [] = omega arith
count_drop x (suc j) (e ∷ q) = omega (arith, count_drop x j q)

pub window_counts_are : {p : Params} {ring : List ℕ} {head len n : ℕ} {window_counts : List ℕ} → Windowed p ring head len window_counts n → Counted (4 ^ p.kmer) window_counts (window ring head len)
window_counts_are w = record { long = w.counts_long; counted = w.counted }

pub window_below_lem : {p : Params} {ring : List ℕ} {head len n : ℕ} {window_counts : List ℕ} → Windowed p ring head len window_counts n → Below (4 ^ p.kmer) (window ring head len)
window_below_lem w = queued_below (windowed_queued w refl)

module _ (s : RunSetup) (r : Ring) {window_counts : List ℕ} (w : WindowCounted s r window_counts) (a : BackwardState) (counts : List ℕ) (h : Backs (4 ^ s.params.kmer) (entries_of r) (rest_of a counts)) (part : List ℕ) (t : PartTo r a.low part) where
  abbrev q : List Place
  q = entries_of r

  abbrev n : ℕ
  n = length part

  low_in : a.low ≤ r.len
  low_in = omega (arith, h.low_in, long w)

  to_low : a.low - n + length (decoded part) ≡ a.low
  to_low = omega (arith, decoded_length part, t.inside)

  stands : Stands q (decoded part) (a.low - n)
  stands = record { inside = omega (arith, to_low, low_in, long w); is = t.stands ∙ ap (λ (z : ℕ). decoded part ++ drop z q) (sym to_low) }

  room : Room r.len window_counts counts (decoded part)
  room = record {
    at_most = λ x. omega (arith, w.counted x, count_le x q, long w);
    left = λ x.
        let d : count x (drop (a.low - n) q) ≡ count x (decoded part) + count x (drop a.low q) =
        ap (λ (z : List Place). count x z) (stands.is ∙ ap (λ (z : ℕ). decoded part ++ drop z q) to_low) ∙ count_append x (decoded part) (drop a.low q) in
        omega (arith, h.counted.counted x, count_drop x (a.low - n) q, w.counted x);
  }

  part_before : s.params.window_size < length s.f.now → PartBefore a.low r.len (length s.ln.now) (length s.f.now) part window_counts counts
  part_before f_long = record {
    some = t.some;
    inside = t.inside;
    low_in = low_in;
    small = omega (arith, w.len_in, w.small);
    ln_long = omega (arith, w.len_in, w.ln_long);
    f_long = omega (arith, w.len_in, f_long);
    coded = t.coded (windowed_queued w h.counted.long);
    counts_long = omega (arith, w.counts_long, h.counted.long);
    room = room;
  }

  pub part_ready : s.params.window_size < length s.f.now → PartBefore a.low r.len (length s.ln.now) (length s.f.now) part window_counts counts × (a.found ≡ 0 → NoneBest (backward_of a))
  part_ready f_long = (part_before f_long, λ e. record { none = e; is_zero = h.from_zero e; level = h.level })

  newer_stands : (u : ℕ) → u < length part → Stands q (decoded (drop u part)) (a.low - length (drop u part))
  newer_stands u l =
      let e : a.low - n + u ≡ a.low - length (drop u part) = omega (arith, length-drop u part, t.inside) in
      rw (decoded_drop u part) (subst (λ (z : ℕ). Stands q (drop u (decoded part)) z) e (newest_stands q (decoded part) (a.low - n) u stands (omega (arith, decoded_length part))))

  pub part_goes_on : (quick : Bool) (b : BackwardState) (counts' : List ℕ) → GoesOver (as_setup s) window_counts quick r.len part (rest_of a counts) (rest_of b counts')
      → GoesOn (as_setup s) window_counts quick q (rest_of a counts) (rest_of b counts')
  part_goes_on quick b counts' g =
      let newer : List ℕ = drop g.unread part in
      let same : length newer ≡ length (decoded newer) = sym (decoded_length newer) in
      let long_is : length newer ≡ length part - g.unread = length-drop g.unread part in
      goes_on (as_setup s) window_counts quick q (window_below_lem w) (decoded newer) (a.low - length newer) (newer_stands g.unread g.some) (rest_of a counts) (rest_of b counts')
      (omega (arith, t.inside)) (omega (arith, g.some)) h
      (g.scanned ∙ ap₂ (λ (x y : ℕ). rest_over (as_setup s) window_counts quick x (decoded newer) (a.low - length newer) y (backward_of a) counts) (sym (long w)) same)

-- The scans of low starts in the code, a turn at a time: an entry read from the newest back, the scan that finds low starts, and the one over the newest entries that tells by them that nothing is found.
use Rattle.std.proofs.Common.{◌≡◌, refl, sym, ap, ◌∙◌, subst, Bool, true, false, not, true≢false, List, ◌⊎◌, inl, inr, ℕ, suc, ◌+◌, ◌*◌, ◌-◌, ◌/◌, ◌%◌, ◌^◌, ◌≤◌, ◌<◌, mul-le-mul_left, mul-le-mul_right, arith, Option, Some, None, IfSome, length, get_or, take, drop, replicate, length-take, length-drop, drop-cons, T, ltb, ltb→lt, Float}
use lib.Dec.{not_T}
use lib.Ieee.{binary64, lt, le, neg, of_bits, of_fields}
use Rattle.floats.specs.Arithmetic.{◌⊕◌, ◌⊖◌}
use Rattle.floats.specs.Binary64.{one, zero64, two_to20}
use Rattle.floats.proofs.Compare.{le_value, le_self}
use Rattle.floats.proofs.Order.{le_trans, lt_le, lt_nle, lt_le_trans}
use Rattle.floats.specs.Terms.Rounded.{Near, pos64, err}
use Rattle.letters.specs.Place.{Place, ambiguous, Below}
use Rattle.letters.specs.Terms.Entry.{decode}
use Rattle.letters.proofs.Entries.{decode_plain}
use Rattle.certificates.specs.declared.LowStarts.{LowStarts}
use Rattle.scans.specs.declared.Params.{Params}
use Rattle.scans.specs.declared.backward.BackwardState.{BackwardState}
use Rattle.scans.specs.Setup.{Setup, f_at, kmers}
use Rattle.scans.specs.Counts.{hit, count}
use Rattle.scans.specs.Terms.Counted.{Counted, Touched}
use Rattle.scans.specs.Terms.Numbers.{setup_of}
use Rattle.scans.specs.Terms.Shape.{Usual}
use Rattle.scans.specs.Terms.Window.{At, ring_index, window, Windowed}
use Rattle.scans.specs.Terms.Parts.{AddsEntry, Fresh, Queued}
use Rattle.scans.specs.Terms.Units.{distance, gain, loss}
use Rattle.search.specs.Terms.Certified.{KeptNumber}
use Rattle.certificates.specs.Terms.Made.{larger}
use Rattle.certificates.specs.Terms.Low.{near_starts, low_starts_to, LowBounds, ReadsNewest, ReadsLow, ReadsNear}
use Rattle.scans.proofs.Test.{by_test}
use Rattle.scans.proofs.Counting.{hit_self, count_le, below_drop, below_take}
use Rattle.scans.proofs.Gain.{gain_bound}
use Rattle.scans.proofs.Rings.{ring_index_at}
use Rattle.scans.proofs.Windows.{long, count_in, entry_in, entry_place}
use Rattle.scans.proofs.Walk.{windowed_queued, queued_below}
use Rattle.scans.proofs.Touched.{counted_touched}
use Rattle.certificates.proofs.CertainFind.{err_few, margin_one}
use Rattle.search.proofs.CertificateLow.{count_later, order_of}
use Rattle.certificates.proofs.Making.{lowest_kept, not_less}
use Rattle.certificates.proofs.NewestSums.{newest_score_lem, second_score_lem, newest_none, newest_next}
use Rattle.certificates.proofs.LowScan.{x, y, R, x_near, y_near, low_made, nothing_stops, nothing_low}

-- ---- Floats.
so : (b : Bool) → b ≡ true → T b
so b e = rw e tt

below_zero : (v : Float) → T (lt v (neg distance)) → T (lt v zero64)
unfolding neg of_bits of_fields le
below_zero v h = lt_le_trans v (neg distance) zero64 h tt

not_zero : (v : Float) → T (lt v (neg distance)) → T (not (le zero64 v))
not_zero v h = not_T (le zero64 v) (lt_nle v zero64 (below_zero v h))

module _ {a b : Float} (ka : KeptNumber 0 a) (kb : KeptNumber 0 b) where
  larger_kept : KeptNumber 0 (larger a b)
  larger_kept = by_test (KeptNumber 0) (lt a b) b a (λ _. kb) (λ _. ka)

  larger_left : T (le a (larger a b))
  larger_left = by_test (λ (v : Float). T (le a v)) (lt a b) b a (λ t. lt_le a b t) (λ _. le_self ka.ok)

  larger_right : T (le b (larger a b))
  larger_right = by_test (λ (v : Float). T (le b v)) (lt a b) b a (λ _. le_self kb.ok) (λ t. (le_value kb.ok ka.ok).1 (not_less ka.ok kb.ok t))

-- ---- Scores of tables in range are kept.
module _ (S : Setup) (u : Usual S) (q : List Place) (b : Below (kmers S) q) (in_window : length q ≤ S.window_size) (l : ℕ) (some : 0 < l) (inside : l ≤ length q) where
  near_kept : (v : Float) (P N : ℕ) → Near binary64 v P N (err (l + 1)) → P ≤ length q * (16 * one) → N ≤ length q * (16 * one) + 1048576 * one → KeptNumber 0 v
  near_kept v P N n p m =
      let e = err_few l (omega (arith, (R S u q b in_window).window_small)) in
      let o = margin_one in
      let few = mul-le-mul_right (16 * one) (let z : length q ≤ 65535 = omega (arith, (R S u q b in_window).window_small) in z) in
      record { ok = n.ok; high = omega (arith, n.upper); low = omega (arith, n.lower) }

  abbrev a : ℕ
  a = length q - l

  at : a + l ≡ length q
  at = omega arith

  lost : l * pos64 S.score_threshold + pos64 (f_at S l) ≤ l * (16 * one) + 1048576 * one
  lost = let r = R S u q b in_window in omega (arith, mul-le-mul_left l r.t_ranged.high, (r.f_ranged l some (omega arith)).high)

  shared : a * (16 * one) + l * (16 * one) ≡ length q * (16 * one)
  shared = omega (arith, ap (λ (z : ℕ). z * (16 * one)) at)

  x_kept : KeptNumber 0 (x S q l)
  x_kept =
      let g = gain_bound S (R S u q b in_window) (drop a q) (below_drop (kmers S) a q b) (omega (arith, length-drop a q)) in
      let e : length (drop a q) * (16 * one) ≡ l * (16 * one) = ap (λ (z : ℕ). z * (16 * one)) (let z : length (drop a q) ≡ l = omega (arith, length-drop a q) in z) in
      near_kept (x S q l) (gain S (drop a q)) (loss S l) (x_near S u q b in_window a l at some) (omega (arith, shared)) (omega (arith, lost, shared))

  y_kept : KeptNumber 0 (y S q l)
  y_kept =
      let g = gain_bound S (R S u q b in_window) q b in_window in
      let h = gain_bound S (R S u q b in_window) (take a q) (below_take (kmers S) a q b) (omega (arith, length-take a q)) in
      let e : length (take a q) * (16 * one) ≡ a * (16 * one) = ap (λ (z : ℕ). z * (16 * one)) (let z : length (take a q) ≡ a = omega (arith, length-take a q) in z) in
      near_kept (y S q l) (gain S q) (gain S (take a q) + loss S l) (y_near S u q b in_window a l at some) g (omega (arith, lost, shared))

-- The l newest entries are read, and the starts of all of them score below 0; bound is what is known of the others after `age` places.
pub record NearReading (S : Setup) (q : List Place) (age : ℕ) (score : Float) (l : ℕ) (a : BackwardState) (bound : Float) (counts : List ℕ) : Type 0 where
  pub newest : ReadsNewest S q l a counts
  pub near : l ≤ age + near_starts
  pub below : (k : ℕ) → 0 < k → k ≤ l → T (lt (x S q k) (neg distance))
  pub still : age ≡ 0 → bound ≡ score
  pub moved : 0 < age → age ≤ l → bound ≡ score ⊕ y S q age

-- The l newest entries are read, and the starts of more than the near ones score `score` or less.
pub record LowReading (S : Setup) (q : List Place) (l : ℕ) (a : BackwardState) (score : Float) (counts : List ℕ) : Type 0 where
  pub newest : ReadsNewest S q l a counts
  pub kept : KeptNumber 0 score
  pub low : (k : ℕ) → near_starts < k → k ≤ l → T (le (x S q k) score)

next : (l : ℕ) → l + 1 - 1 ≡ l
next l = omega arith

-- What holds up to l - 1 and of l.
one_more : (P : ℕ → Type 0) (l k : ℕ) → k ≤ l → (k ≤ l - 1 → P k) → P l → P k
one_more P l k h before here = go (order_of (l - 1) k)
  where
    go : (l - 1 < k) ⊎ (k ≤ l - 1) → P k
    go (inl o) = let z : l ≡ k = omega arith in subst P z here
    go (inr o) = before o

pub len_fits : {p : Params} {ring : List ℕ} {head len : ℕ} {counts : List ℕ} {n : ℕ} → Windowed p ring head len counts n
    → (len ≤ 65535) × (len ≤ p.window_size) × (head < length ring) × (len ≤ length ring) × (length ring ≤ 65535)
len_fits w = (omega (arith, w.len_in, w.small), w.len_in, omega (arith, w.ring_is, w.head_in), omega (arith, w.ring_is, w.len_in), omega (arith, w.ring_is, w.small))

pub clear_asks : {p : Params} {ring : List ℕ} {head len : ℕ} {window_counts : List ℕ} {n : ℕ} → Windowed p ring head len window_counts n → {at : ℕ} {counts : List ℕ}
    → at ≤ length (window ring head len) → Counted (4 ^ p.kmer) counts (drop at (window ring head len)) → Queued ring head len (length counts) × ((at ≤ len) × Touched counts (drop at (window ring head len)))
clear_asks w h c = (windowed_queued w c.long, (omega (arith, long w), counted_touched _ _ _ c))

module _ (p : Params) (ring : List ℕ) (head len : ℕ) (window_counts : List ℕ) (ln f : List Float) (w : Windowed p ring head len window_counts (length ln)) where
  abbrev S : Setup
  S = setup_of p ln f

  abbrev q : List Place
  q = window ring head len

  abbrev t : Float
  t = p.score_threshold

  q_below : Below (kmers S) q
  q_below = queued_below (windowed_queued w refl)

  in_window : length q ≤ S.window_size
  in_window = omega (arith, long w, w.len_in)

  -- ---- The l-th newest entry is read after the newer ones, which stands at index `at` of the ring.
  module _ (l : ℕ) (a : BackwardState) (counts : List ℕ) (k : ReadsNewest S q (l - 1) a counts) where
    pub read_inside : l - 1 ≤ len
    read_inside = omega (arith, k.inside, long w)

    read_counted : Counted (kmers S) counts (drop (len - (l - 1)) q)
    read_counted = subst (λ (n : ℕ). Counted (kmers S) counts (drop (n - (l - 1)) q)) (long w) k.counted

    module _ (some : 0 < l) (more : l < len + 1) (at : ℕ) (i : at ≡ ring_index (length ring) head (len - l)) where
      abbrev entry : ℕ
      entry = get_or ring at 0

      abbrev e : ℕ
      e = len - l

      here : At (length ring) head e at
      here = rw i (ring_index_at (length ring) head e (len_fits w).2 (omega (arith, (len_fits w).3)))

      place : get_or q e ambiguous ≡ decode entry
      place = entry_place w e at (omega arith) here

      -- The window has one place more of its k-mer than the entries read.
      uncounted : entry % 2 ≡ 0 → get_or counts (entry / 2) 0 < get_or window_counts (entry / 2) 0
      uncounted h =
          let z : len - (l - 1) ≡ suc e = omega arith in
          let c : Counted (kmers S) counts (drop (suc e) q) = subst (λ (n : ℕ). Counted (kmers S) counts (drop n q)) z read_counted in
          omega (
            arith,
            c.counted (entry / 2),
            ap (count (entry / 2)) (drop-cons q e ambiguous (omega (arith, long w))),
            ap (hit (entry / 2)) (place ∙ decode_plain entry h),
            hit_self (entry / 2),
            count_later (entry / 2) 0 e q (omega arith),
            w.counted (entry / 2),
          )

      pub add_asks : ((entry / 2 < length window_counts) × (entry / 2 < length counts) × (get_or window_counts (entry / 2) 0 ≤ 65535) × (get_or window_counts (entry / 2) 0 < length ln))
          × (entry % 2 ≡ 0 → get_or counts (entry / 2) 0 < get_or window_counts (entry / 2) 0)
      add_asks =
          let b = entry_in w e at (omega arith) here in
          ((b, omega (arith, k.counted.long, w.counts_long), omega (arith, w.counted (entry / 2), count_le (entry / 2) q, long w, (len_fits w).0), count_in w (entry / 2)), uncounted)

      module _ (b : BackwardState) (counts' : List ℕ) (adds : AddsEntry t window_counts ln (decode entry) a b counts counts') where
        read_next : ReadsNewest S q l b counts'
        read_next =
            let o : l - 1 + 1 ≡ l = omega arith in
            let here : AddsEntry t window_counts ln (get_or q (length q - l) ambiguous) a b counts counts' =
            subst (λ (z : Place). AddsEntry t window_counts ln z a b counts counts') (sym (ap (λ (n : ℕ). get_or q (n - l) ambiguous) (long w) ∙ place)) adds in
            subst (λ (n : ℕ). ReadsNewest S q n b counts') o (newest_next S q q_below window_counts w.counted k (omega (arith, long w)) (rw o here))

        x_here : b.s ⊖ f_at S l ≡ x S q l
        x_here = ap (λ (v : Float). v ⊖ f_at S l) read_next.sum ∙ newest_score_lem S q l read_next.inside

        y_here : b.sw ⊖ f_at S l ≡ y S q l
        y_here = ap (λ (v : Float). v ⊖ f_at S l) read_next.second ∙ second_score_lem S q l read_next.inside

        counted_here : Counted (kmers S) counts' (drop (len - l) q)
        counted_here = subst (λ (n : ℕ). Counted (kmers S) counts' (drop (n - l) q)) (long w) read_next.counted

  -- ---- The scan over the newest entries.
  module _ (low : LowStarts) (age : ℕ) (inside : age + near_starts < len) (known : LowBounds S (take (len - age) q) low) where
    abbrev Near' : ℕ → BackwardState → Float → List ℕ → Type 0
    Near' = NearReading S q age low.score

    pub near_start : (a : BackwardState) (counts : List ℕ) → Fresh len a → counts ≡ replicate (4 ^ p.kmer) 0 → Near' 0 a low.score counts
    near_start a counts fresh clear =
        record { newest = newest_none S q a len counts fresh clear; near = omega arith; below = λ k some h. absurd (let z : ⊥ = omega arith in z); still = λ _. refl; moved = λ some h. absurd (let z : ⊥ = omega arith in z) }

    module _ (l : ℕ) (a : BackwardState) (bound : Float) (counts : List ℕ) (k : Near' (l - 1) a bound counts) where
      pub near_end : age + near_starts + 1 ≤ l → ReadsNear S q (record { told = lt bound (neg distance); at = len - (age + near_starts) }) counts
      near_end ended =
          record {
            inside = omega (arith, long w);
            counted = let e : l - 1 ≡ age + near_starts = omega (arith, k.near) in subst (λ (n : ℕ). Counted (kmers S) counts (drop (len - n) q)) e (read_counted l a counts k.newest);
            told = λ told.
                nothing_low S q q_below in_window age low (subst (λ (n : ℕ). LowBounds S (take (n - age) q) low) (sym (long w)) known) (omega (arith, long w)) bound k.still (λ some. k.moved some (omega arith)) (so _ told)
                (λ j some h. not_zero (x S q j) (k.below j some (omega arith)));
          }

      module _ (some : 0 < l) (more : l < age + near_starts + 1) (at : ℕ) (i : at ≡ ring_index (length ring) head (len - l)) (b : BackwardState) (counts' : List ℕ)
          (adds : AddsEntry t window_counts ln (decode (get_or ring at 0)) a b counts counts') where
        in_len : l < len + 1
        in_len = omega arith

        abbrev near_read : ReadsNewest S q l b counts'
        near_read = read_next l a counts k.newest some in_len at i b counts' adds

        pub near_stops : lt (b.sw ⊖ f_at S l) (neg distance) ≡ true → ReadsNear S q (record { told = true; at = len - l }) counts'
        near_stops test =
            let y_is = y_here l a counts k.newest some in_len at i b counts' adds in
            record {
              inside = omega (arith, long w);
              counted = counted_here l a counts k.newest some in_len at i b counts' adds;
              told = λ _. nothing_stops S q l (omega arith) near_read.inside (λ j some h. not_zero (x S q j) (k.below j some (omega arith))) (below_zero (y S q l) (subst (λ (z : Float). T (lt z (neg distance))) y_is (so _ test)));
            }

        pub near_high : ReadsNear S q (record { told = false; at = len - l }) counts'
        near_high = record { inside = omega (arith, long w); counted = counted_here l a counts k.newest some in_len at i b counts' adds; told = λ e. absurd (true≢false (sym e)) }

        module _ (test : lt (b.s ⊖ f_at S l) (neg distance) ≡ true) where
          below_next : (j : ℕ) → 0 < j → j ≤ l → T (lt (x S q j) (neg distance))
          below_next j far h =
              let x_is = x_here l a counts k.newest some in_len at i b counts' adds in
              one_more (λ (j : ℕ). T (lt (x S q j) (neg distance))) l j h (k.below j far) (subst (λ (z : Float). T (lt z (neg distance))) x_is (so _ test))

          pub near_next : (l ≡ age → ⊥) → Near' (l + 1 - 1) b bound counts'
          near_next apart =
              rw (next l)
              record { newest = near_read; near = omega arith; below = below_next; still = k.still; moved = λ some h. k.moved some (omega (arith, apart)) }

          pub near_moved : l ≡ age → Near' (l + 1 - 1) b (low.score ⊕ (b.sw ⊖ f_at S l)) counts'
          near_moved e =
              let y_is = y_here l a counts k.newest some in_len at i b counts' adds in
              rw (next l)
              record {
                newest = near_read;
                near = omega arith;
                below = below_next;
                still = λ z. absurd (let o : ⊥ = omega arith in o);
                moved = λ some h. ap (λ (z : Float). low.score ⊕ z) (y_is ∙ ap (y S q) e);
              }

  -- ---- The scan that finds low starts.
  module _ (u : Usual S) where
    pub low_start : (a : BackwardState) (counts : List ℕ) → Fresh len a → counts ≡ replicate (4 ^ p.kmer) 0 → LowReading S q 0 a (neg two_to20) counts
    low_start a counts fresh clear = record { newest = newest_none S q a len counts fresh clear; kept = lowest_kept; low = λ k far h. absurd (let z : ⊥ = omega arith in z) }

    known_to : (l : ℕ) → l ≤ length q → (score : Float) → KeptNumber 0 score → ((k : ℕ) → near_starts < k → k ≤ l → T (le (x S q k) score)) → T (le (y S q l) score) ⊎ (l ≡ length q) → IfSome (low_starts_to l score) (LowBounds S q)
    known_to l inside score kept low ends =
        by_test (λ (c : Option LowStarts). IfSome c (LowBounds S q)) (ltb near_starts l) (Some (record { reach = l; score = score })) None
        (λ far. low_made S u q q_below in_window l (ltb→lt near_starts l far) inside score kept low ends) (λ _. tt)

    module _ (l : ℕ) (a : BackwardState) (score : Float) (counts : List ℕ) (k : LowReading S q (l - 1) a score counts) where
      pub low_end : len + 1 ≤ l → (c : Option LowStarts) → c ≡ low_starts_to len score → ReadsLow S q (record { low = c; at = 0 }) counts
      low_end ended c is =
          let e : l - 1 ≡ len = omega (arith, read_inside l a counts k.newest) in
          let z : len - (l - 1) ≡ 0 = omega arith in
          record {
            inside = omega arith;
            counted = subst (λ (n : ℕ). Counted (kmers S) counts (drop n q)) z (read_counted l a counts k.newest);
            low = rw is (known_to len (omega (arith, long w)) score k.kept (λ j far h. k.low j far (omega arith)) (inr (sym (long w))));
          }

      module _ (some : 0 < l) (more : l < len + 1) (at : ℕ) (i : at ≡ ring_index (length ring) head (len - l)) (b : BackwardState) (counts' : List ℕ)
          (adds : AddsEntry t window_counts ln (decode (get_or ring at 0)) a b counts counts') where
        abbrev low_read : ReadsNewest S q l b counts'
        low_read = read_next l a counts k.newest some more at i b counts' adds

        abbrev counted : Counted (kmers S) counts' (drop (len - l) q)
        counted = counted_here l a counts k.newest some more at i b counts' adds

        -- A near start is not judged.
        pub low_near : l ≤ near_starts → LowReading S q (l + 1 - 1) b score counts'
        low_near h = rw (next l) record { newest = low_read; kept = k.kept; low = λ j far o. absurd (let z : ⊥ = omega arith in z) }

        pub low_none : ReadsLow S q (record { low = None; at = len - l }) counts'
        low_none = record { inside = omega (arith, long w); counted = counted; low = tt }

        module _ (score' : Float) (s_is : score' ≡ larger score (b.s ⊖ f_at S l)) where
          x_is : b.s ⊖ f_at S l ≡ x S q l
          x_is = x_here l a counts k.newest some more at i b counts' adds

          x_number : KeptNumber 0 (b.s ⊖ f_at S l)
          x_number = rw x_is (x_kept S u q q_below in_window l (omega arith) low_read.inside)

          kept_next : KeptNumber 0 score'
          kept_next = rw s_is (larger_kept k.kept x_number)

          low_upto : (j : ℕ) → near_starts < j → j ≤ l → T (le (x S q j) score')
          low_upto j far h =
              one_more (λ (j : ℕ). T (le (x S q j) score')) l j h (λ o. rw s_is (le_trans (x S q j) score (larger score (b.s ⊖ f_at S l)) (k.low j far o) (larger_left k.kept x_number)))
              (rw s_is (subst (λ (z : Float). T (le z (larger score (b.s ⊖ f_at S l)))) x_is (larger_right k.kept x_number)))

          pub low_next : LowReading S q (l + 1 - 1) b score' counts'
          low_next = rw (next l) record { newest = low_read; kept = kept_next; low = low_upto }

          pub low_stops : (score'' : Float) → score'' ≡ larger score' (b.sw ⊖ f_at S l) → (c : Option LowStarts) → c ≡ low_starts_to l score'' → ReadsLow S q (record { low = c; at = len - l }) counts'
          low_stops score'' e c is =
              let y_is = y_here l a counts k.newest some more at i b counts' adds in
              let y_number : KeptNumber 0 (b.sw ⊖ f_at S l) = rw y_is (y_kept S u q q_below in_window l (omega arith) low_read.inside) in
              record {
                inside = omega (arith, long w);
                counted = counted;
                low =
                    rw (is, e)
                    (known_to l low_read.inside (larger score' (b.sw ⊖ f_at S l)) (larger_kept kept_next y_number)
                    (λ j far h. le_trans (x S q j) score' (larger score' (b.sw ⊖ f_at S l)) (low_upto j far h) (larger_left kept_next y_number))
                    (inl (subst (λ (z : Float). T (le z (larger score' (b.sw ⊖ f_at S l)))) y_is (larger_right kept_next y_number))));
              }
          -- ---- The counts are cleared again.

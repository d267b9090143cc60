-- The window as the code moves it: the entry that leaves and the one that joins, in the ring, the window counts and the sum,
-- against the definitions' `leave` and `join`.
use Rattle.std.proofs.Common.{◌≡◌, refl, sym, ap, ◌∙◌, subst, List, [], ◌∷◌, ◌++◌, ◌≢◌, ◌⊎◌, inl, inr, ℕ, suc, ◌+◌, ◌-◌, ◌/◌, ◌^◌, ◌≤◌, ◌<◌, eq-or-lt_of_le, arith, length, get_or, set, take, drop, length-set, take-append-drop, take-take, ℤ, Some, Float}
use mathlib.Core.List.{map-append}
use lib.ListN.{get_or-append}
use lib.Seq.{get_or_at, take-append_seam}
use lib.Ieee.{nan}
use borrow.Author.Tests.{le-leb, lt-leb}
use Rattle.floats.specs.Arithmetic.{◌⊕◌, ◌⊖◌}
use Rattle.letters.specs.Place.{Place, ambiguous, plain, Below}
use Rattle.letters.specs.Terms.Entry.{decode, decoded}
use Rattle.scans.specs.declared.Params.{Params}
use Rattle.search.specs.declared.Carry.{Carry}
use Rattle.scans.specs.Setup.{Setup}
use Rattle.scans.specs.Terms.Numbers.{setup_of}
use Rattle.scans.specs.Counts.{count, raise, lower}
use Rattle.scans.specs.Terms.Window.{queue, ring_index, window, raised_count, Windowed}
use Rattle.scans.proofs.Counting.{Counted, hit_self, count_le, raise_counted, lower_counted}
use Rattle.scans.proofs.Rings.{ring_index_at, queue_length, queue_join, queue_leave, window_join, window_leave, window_length}
use Rattle.scans.proofs.Values.{decode_below, decoded_below, entry_plain, count_raised, counts_entry}
use Rattle.scans.proofs.Windows.{long}
use Rattle.scans.proofs.BackwardScan.{window_below_lem}
use Rattle.step.specs.Step.{sum_without, sum_with, last_q_without, without_oldest, leave, join}
use Rattle.step.specs.declared.window.Window.{Window}
use Rattle.step.specs.Terms.KnownCounts.{KnownCounts, ends, counts_less, carry_less}
use Rattle.step.specs.Terms.Entering.{held_by, sum_less, sum_more, Left, Joined}
use Rattle.step.proofs.KnownCounts.{known_same, known_oldest, known_less}

-- ---- The sum, by window counts that are those of the places q.
module _ (S : Setup) (counts : List ℕ) (q : List Place) (c : (x : ℕ) → get_or counts x 0 ≡ count x q) (sum : Float) where
  less_is : (e : Place) → sum_less S.ln counts sum e ≡ sum_without S q sum e
  less_is ambiguous = refl
  less_is (plain x) = ap (λ (n : ℕ). sum ⊖ get_or S.ln n nan) (c x)

  more_is : (e : Place) → sum_more S.ln counts sum e ≡ sum_with S q sum e
  more_is ambiguous = refl
  more_is (plain x) = ap (λ (n : ℕ). sum ⊕ get_or S.ln n nan) (c x)

-- An entry whose raised count is c joins.
pub more_plain : (ln : List Float) (counts : List ℕ) (sum : Float) (e c : ℕ) → Some c ≡ raised_count counts (decode e) → e / 2 < length counts
    → sum ⊕ get_or ln c nan ≡ sum_more ln (raise counts (decode e)) sum (decode e)
more_plain ln counts sum e c r h = rw ((counts_entry counts e c r ln h).value_is, entry_plain counts e c r)

-- ---- The places of a queue.
queue_less : (ring : List ℕ) (head n len : ℕ) → n ≤ len → queue ring head n ≡ take n (queue ring head len)
unfolding queue
queue_less ring head n len h = sym (take-take n len (drop head ring ++ take head ring) h)

-- The older places of a window, and the others.
pub window_split : (ring : List ℕ) (head n len : ℕ) → n ≤ len → window ring head len ≡ window ring head n ++ decoded (drop n (queue ring head len))
unfolding decoded
window_split ring head n len h =
    let newer : List ℕ = drop n (queue ring head len) in
    ap decoded (sym (take-append-drop n (queue ring head len)) ∙ ap (λ (l : List ℕ). l ++ newer) (sym (queue_less ring head n len h)))
    ∙ map-append decode (queue ring head n) newer

-- ---- A window in its ring.
module _ {p : Params} {ring : List ℕ} {head len : ℕ} {counts : List ℕ} {n : ℕ} (w : Windowed p ring head len counts n) where
  head_within : head < length ring
  head_within = omega (arith, w.ring_is, w.head_in)

  len_within : len ≤ length ring
  len_within = omega (arith, w.ring_is, w.len_in)

  counts_are : Counted (4 ^ p.kmer) counts (window ring head len)
  counts_are = record { long = w.counts_long; counted = w.counted }

  -- The places before the newest.
  pub older_long : length (window ring head (len - 1)) ≡ len - 1
  older_long = window_length ring head (len - 1) head_within (omega (arith, len_within))

  -- The oldest entry of a full queue stands at the head.
  module _ (full : len ≡ p.window_size) where
    abbrev oldest : ℕ
    oldest = get_or ring head 0

    abbrev second : ℕ
    second = ring_index p.window_size head 1

    second_in : second < p.window_size
    second_in = (ring_index_at p.window_size head 1 w.head_in (omega (arith, w.wide))).0

    one_more : len ≡ len - 1 + 1
    one_more = omega (arith, w.wide)

    fewer : len - 1 < length ring
    fewer = omega (arith, len_within, w.wide)

    left_queue : queue ring head len ≡ oldest ∷ queue ring second (len - 1)
    left_queue =
        ap (λ (m : ℕ). queue ring head m) one_more
        ∙ queue_leave ring head (len - 1) head_within fewer
        ∙ ap (λ (m : ℕ). oldest ∷ queue ring (ring_index m head 1) (len - 1)) w.ring_is

    left_window : window ring head len ≡ decode oldest ∷ window ring second (len - 1)
    left_window =
        ap (λ (m : ℕ). window ring head m) one_more
        ∙ window_leave ring head (len - 1) head_within fewer
        ∙ ap (λ (m : ℕ). decode oldest ∷ window ring (ring_index m head 1) (len - 1)) w.ring_is

    pub oldest_below : oldest / 2 < 4 ^ p.kmer
    oldest_below = rw left_queue at (w.below 0 (omega (arith, w.wide)))

    pub oldest_counted : decode oldest ≡ plain (oldest / 2) → 0 < get_or counts (oldest / 2) 0
    oldest_counted h =
        let rest = window ring second (len - 1) in
        let q : window ring head len ≡ plain (oldest / 2) ∷ rest = left_window ∙ ap (λ (e : Place). e ∷ rest) h in
        omega (arith, w.counted (oldest / 2) ∙ ap (λ (z : List Place). count (oldest / 2) z) q, hit_self (oldest / 2))

    left_counted : Counted (4 ^ p.kmer) (lower counts (decode oldest)) (window ring second (len - 1))
    left_counted =
        lower_counted (4 ^ p.kmer) counts (decode oldest) (window ring second (len - 1)) (decode_below (4 ^ p.kmer) oldest oldest_below)
        (rw left_window at counts_are)

    left_below : (j : ℕ) → j < len - 1 → get_or (queue ring second (len - 1)) j 0 / 2 < 4 ^ p.kmer
    left_below j h = rw left_queue at (w.below (suc j) (omega arith))

    left_windowed : Windowed p ring second (len - 1) (lower counts (decode oldest)) n
    left_windowed =
        record {
          ring_is = w.ring_is;
          wide = w.wide;
          small = w.small;
          head_in = second_in;
          len_in = omega arith;
          ln_long = w.ln_long;
          counts_long = left_counted.long;
          below = left_below;
          counted = left_counted.counted;
        }

  -- An entry joins past the newest one.
  module _ (room : len < p.window_size) where
    abbrev next : ℕ
    next = ring_index p.window_size head len

    -- A window count is at most the number of entries.
    pub count_room : (x : ℕ) → (get_or counts x 0 < 65535) × (get_or counts x 0 + 1 < n)
    count_room x =
        let c : get_or counts x 0 ≤ len = omega (arith, w.counted x, count_le x (window ring head len), long w) in
        (omega (arith, w.small), omega (arith, w.ln_long))

    module _ (e : ℕ) (e_below : e / 2 < 4 ^ p.kmer) where
      next_is : next ≡ ring_index (length ring) head len
      next_is = ap (λ (m : ℕ). ring_index m head len) (sym w.ring_is)

      joined_queue : queue (set ring next e) head (len + 1) ≡ queue ring head len ++ e ∷ []
      joined_queue = rw next_is (queue_join ring head len e head_within (omega (arith, w.ring_is)))

      joined_window : window (set ring next e) head (len + 1) ≡ window ring head len ++ decode e ∷ []
      joined_window = rw next_is (window_join ring head len e head_within (omega (arith, w.ring_is)))

      -- Without the newest entry it is the window as it was.
      joined_before : window (set ring next e) head (len + 1 - 1) ≡ window ring head len
      joined_before =
          let one_less : len + 1 - 1 ≡ len = omega arith in
          let long_is = queue_length ring head len head_within len_within in
          ap decoded
          (queue_less (set ring next e) head (len + 1 - 1) (len + 1) (omega arith)
          ∙ ap (λ (n : ℕ). take n (queue (set ring next e) head (len + 1))) (one_less ∙ sym long_is)
          ∙ ap (λ (l : List ℕ). take (length (queue ring head len)) l) joined_queue
          ∙ take-append_seam (queue ring head len) (e ∷ []))

      joined_counted : Counted (4 ^ p.kmer) (raise counts (decode e)) (window ring head len ++ decode e ∷ [])
      joined_counted = raise_counted (4 ^ p.kmer) counts (window ring head len) (decode e) (decode_below (4 ^ p.kmer) e e_below) counts_are

      joined_below : (j : ℕ) → (j ≡ len) ⊎ (j < len) → get_or (queue ring head len ++ e ∷ []) j 0 / 2 < 4 ^ p.kmer
      joined_below j (inl h) = rw (get_or_at (queue ring head len) e [] 0 j (queue_length ring head len head_within len_within ∙ sym h)) e_below
      joined_below j (inr h) =
          let m : j < length (queue ring head len) = omega (arith, queue_length ring head len head_within len_within) in
          rw (get_or-append (queue ring head len) (e ∷ []) 0 j m) (w.below j h)

      joined_windowed : Windowed p (set ring next e) head (len + 1) (raise counts (decode e)) n
      joined_windowed =
          record {
            ring_is = length-set ring next e ∙ w.ring_is;
            wide = w.wide;
            small = w.small;
            head_in = w.head_in;
            len_in = omega arith;
            ln_long = w.ln_long;
            counts_long = joined_counted.long;
            below = λ j h. rw joined_queue (joined_below j (eq-or-lt_of_le (omega arith)));
            counted = rw joined_window joined_counted.counted;
          }

-- ---- The oldest entry leaves a full queue.
abbrev pub less_oldest : Window → Float → Carry → Window
less_oldest w sum carry = record { sum = sum; last_q = w.last_q; head = w.head; len = w.len; live = w.live; carry = carry }

-- b is the window whose sum and carried scan are without the entry.
module _ {p : Params} {ln : List Float} {a b : Window} {ring counts scan_counts counts' scan_counts' : List ℕ} {sum : Float} {last : ℤ} {head : ℕ} where
  pub left : Windowed p ring a.head a.len counts (length ln) → a.len ≡ p.window_size → b ≡ less_oldest a sum (carry_less (ends a.live a.last_q) a.carry)
      → sum ≡ sum_less ln counts a.sum (decode (get_or ring a.head 0)) → last ≡ last_q_without a.last_q → head ≡ ring_index p.window_size a.head 1
      → counts' ≡ lower counts (decode (get_or ring a.head 0)) → scan_counts' ≡ counts_less (ends a.live a.last_q) scan_counts (decode (get_or ring a.head 0))
      → Left p ln a (record { sum = b.sum; last_q = last; head = head; len = b.len - 1; live = b.live; carry = b.carry }) ring scan_counts counts' scan_counts'
  unfolding leave
  left w full b_is sum_is last_is head_is counts_is scan_is =
      let q = window ring a.head a.len in
      rw b_is
      (record {
        known = λ f k.
            rw (head_is, scan_is)
            (known_oldest (subst (λ (z : List Place). Below (4 ^ p.kmer) z) (left_window w full) (window_below_lem w)) (omega (arith, ap length (left_window w full), long w, w.len_in)) (subst (λ (z : List Place). KnownCounts (setup_of p ln f) z a scan_counts) (left_window w full) k) last_is refl refl);
        run_is = λ f o saved k.
            rw (le-leb p.window_size (length q) (omega (arith, long w)), head_is, last_is, scan_is ∙ known_less (decode (get_or ring a.head 0)) k, sum_is)
            (rw (less_is (setup_of p ln f) counts q w.counted a.sum (decode (get_or ring a.head 0)))
            (ap (λ (z : List Place). without_oldest (setup_of p ln f) (held_by a o ring scan_counts saved) z) (sym (left_window w full))));
        windowed = rw (head_is, counts_is) (left_windowed w full);
        room = omega (arith, w.wide);
        live_is = refl;
      })

-- A queue that is not full has room.
pub left_none : {p : Params} {ln : List Float} {a : Window} {ring counts scan_counts : List ℕ} → Windowed p ring a.head a.len counts (length ln)
    → a.len ≢ p.window_size → Left p ln a a ring scan_counts counts scan_counts
unfolding leave
left_none {p} {a = a} {ring} w h =
    record {
      known = λ f k. k;
      run_is = λ f o saved k. rw (lt-leb p.window_size (length (window ring a.head a.len)) (omega (arith, long w, w.len_in)));
      windowed = w;
      room = omega (arith, w.len_in);
      live_is = refl;
    }

-- ---- A new entry joins.
module _ {p : Params} {ln : List Float} {a : Window} {ring counts counts' : List ℕ} {e i : ℕ} {sum : Float} where
  pub joined : Windowed p ring a.head a.len counts (length ln) → a.len < p.window_size → e / 2 < 4 ^ p.kmer
      → i ≡ ring_index p.window_size a.head a.len → sum ≡ sum_more ln counts' a.sum (decode e) → counts' ≡ raise counts (decode e)
      → Joined p ln a (record { sum = sum; last_q = a.last_q; head = a.head; len = a.len + 1; live = a.live; carry = a.carry }) e ring (set ring i e) counts'
  unfolding join
  joined w room below i_is sum_is counts_is =
      let q = window ring a.head a.len ++ decode e ∷ [] in
      record {
        known = λ f scan_counts k.
            rw i_is
            (known_same (subst (λ (z : List Place). KnownCounts (setup_of p ln f) z a scan_counts) (sym (joined_before w room e below)) k) refl refl refl);
        run_is = λ f o scan_counts saved.
            rw (i_is, joined_window w room e below, sum_is, counts_is)
            (rw (more_is (setup_of p ln f) (raise counts (decode e)) q (joined_counted w room e below).counted a.sum (decode e)));
        newest = rw i_is (joined_window w room e below ∙ ap (λ (z : List Place). z ++ decode e ∷ []) (sym (joined_before w room e below)));
        windowed = rw (i_is, counts_is) (joined_windowed w room e below);
        some = omega arith;
        live_is = refl;
      }

-- The laws by which `sum_with` is proved.
pub ruleset joining = (count_raised, more_plain)

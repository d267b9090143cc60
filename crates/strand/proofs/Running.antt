-- The loop over a strand's letters: where the run stands before letter i, that there is room to save there, and what is left at the end.
use Rattle.std.proofs.Common.{◌≡◌, refl, sym, ap, ◌∙◌, subst, false, List, [], ℕ, ◌+◌, ◌/◌, ◌^◌, ◌≤◌, ◌<◌, arith, length, replicate, take_all, length-take-le, ℤ, pos, negsuc, Float}
use lib.ListN.{length-replicate}
use Rattle.letters.specs.Place.{Place, place_at, places}
use Rattle.letters.specs.Terms.Entry.{decoded}
use Rattle.letters.specs.Terms.Rolling.{kmer_after, entry_of}
use Rattle.letters.proofs.Places.{places_length, place_read}
use Rattle.letters.proofs.Rolling.{kmer_none}
use Rattle.intervals.specs.declared.Interval.{Interval}
use Rattle.scans.specs.declared.Params.{Params}
use Rattle.scans.specs.Setup.{Setup}
use Rattle.scans.specs.Terms.Numbers.{setup_of}
use Rattle.search.specs.declared.Scanned.{Scanned}
use Rattle.scans.specs.Counts.{cleared}
use Rattle.scans.specs.Terms.Window.{queue, window}
use Rattle.scans.proofs.Counting.{cleared_counted}
use Rattle.scans.proofs.Windows.{long}
use Rattle.scans.proofs.BackwardScan.{window_below_lem}
use Rattle.step.specs.Step.{Run, begin, is_at, whole, save_from, look, run_from, run, intervals_of_places, intervals_of}
use Rattle.step.specs.declared.hand.Open.{Open}
use Rattle.step.specs.declared.state.State.{State}
use Rattle.step.specs.declared.state.Look.{Look}
use Rattle.step.specs.declared.state.Look.TheVariants.{Pass, Extension, Scan}
use Rattle.step.specs.Terms.KnownCounts.{KnownCounts, Sought, sought, Passing, extended_of, answered_by}
use Rattle.step.specs.Terms.Like.{Like}
use Rattle.step.specs.Terms.Entering.{held, newest_of, Entered, unread}
use Rattle.step.specs.Terms.Searching.{Looks}
use Rattle.step.specs.Terms.Finding.{Closing, saved_in, Saving, TakesFind, PassedOn, StartOk, ShapedList}
use Rattle.strand.specs.Terms.ReadingOn.{run_to, Skims, Stops}
use Rattle.strand.specs.Terms.Running.{StrandLent, Finished, Before, ScanAnswer, Asking, Due, StrandList}
use Rattle.step.proofs.Shape.{ShapedAt, shaped_more, saved_room, begin_shaped, step_shaped}
use Rattle.step.proofs.KnownCounts.{known_unread}
use Rattle.step.proofs.Like.{ended, like_refl, like_window, like_start, like_end, like_saved}
use Rattle.step.proofs.Placing.{window_newest, enters_newest}
use Rattle.step.proofs.Searching.{passing, seeks_answered, looked_counts, seeks_passed, seeks_extended, seeks_scanned}
use Rattle.step.proofs.Letter.{Settled, SeeksAt, found_within, settles, passed_find, stepped}
use Rattle.strand.proofs.ReadingOn.{places_take, run_turn}

-- ---- Room to save.
closing_of : (k i : ℕ) (start end : ℤ) → 0 < k → i < 2147483648 → whole end ≤ i → StartOk k start (whole end) → Closing start end
closing_of k i (pos s) (pos e) a b c d = (omega arith, omega arith)
closing_of k i (pos s) (negsuc e) a b c d = absurd (let b : ⊥ = omega arith in b)
closing_of k i (negsuc s) end a b c d = tt

pub saving : {k i : ℕ} {o : Open} {list : List Interval} (n : ℕ) → 0 < k → n < 2147483648 → i ≤ n → (n + 1) / (k + 1) ≤ length list → o.count ≤ length list
    → ShapedList k i o.start o.end (saved_in o.count list) → Saving o list
saving {k} {i} {o} {list} n some small l long count_in h =
    let r = saved_room n k i o.start o.end (saved_in o.count list) l h in
    record {
      closing = closing_of k i o.start o.end some (omega arith) h.end_in h.start_ok;
      room = count_in;
      room_after = omega (arith, r.1, long);
    }

-- ---- Cleared counts.
pub cleared_is : {counts : List ℕ} {n m : ℕ} → n ≡ m → counts ≡ replicate n 0 → counts ≡ replicate m 0
cleared_is e h = h ∙ ap (λ (n : ℕ). replicate n 0) e

-- ---- No letter yet.
begun_is : (S : Setup) (ring counts : List ℕ) (list : List Interval) → counts ≡ cleared S → held unread ring counts (saved_in 0 list) ≡ begin S
unfolding begin queue decoded
begun_is S ring counts list h = rw h

begun_known : (S : Setup) (ring counts : List ℕ) → counts ≡ cleared S → KnownCounts S (window ring 0 0) unread.window counts
unfolding queue decoded
begun_known S ring counts h = rw h known_unread

module _ {p : Params} {codes : List ℕ} {ln f : List Float} {ring window_counts counts : List ℕ} {list : List Interval} where
  pub inv_start : {n_f n_window_counts n_counts n_candidates n_list : ℕ} {a : State}
      → StrandLent p (length codes) (length ln) n_f (length ring) n_window_counts n_counts n_candidates n_list
      → (a ≡ unread) × (window_counts ≡ replicate n_window_counts 0) × (counts ≡ replicate n_counts 0)
      → Before p codes ln f a ring window_counts counts list
  unfolding run run_from queue decoded
  inv_start l (e, hw, hc) =
      let S = setup_of p ln f in
      let window_clear = cleared_is l.window_counts_are hw in
      let clear = cleared_is l.part.counts_is hc in
      let b = begun_is S ring counts list clear in
      rw e
      (record {
        read = record {
          i_in = omega arith;
          kmer_is = kmer_none p.kmer codes;
          windowed = record {
            ring_is = l.ring_is;
            wide = l.wide;
            small = l.small;
            head_in = omega (arith, l.wide);
            len_in = omega arith;
            ln_long = l.ln_long;
            counts_long = rw window_clear (length-replicate (4 ^ p.kmer) 0);
            below = λ j m. absurd (let b : ⊥ = omega (arith, m) in b);
            counted = rw window_clear (cleared_counted (4 ^ p.kmer)).counted;
          };
          known = begun_known S ring counts clear;
        };
        shaped = subst (λ (z : Run). ShapedAt S 0 z) (sym b) (begin_shaped S);
        count_in = omega arith;
        like = subst (λ (z : Run). Like 0 (held unread ring counts (saved_in 0 list)) z) b like_refl;
      })

run_end : (S : Setup) (codes : List ℕ) (i : ℕ) → length codes ≤ i → run_to S codes i ≡ run S (places S.kmer codes)
run_end S codes i h = ap (λ (ps : List Place). run S ps) (take_all i (places S.kmer codes) (omega (arith, places_length S.kmer codes)))

module _ {p : Params} {codes : List ℕ} {ln f : List Float} {a : State} {ring window_counts counts : List ℕ} {list : List Interval}
    (v : Before p codes ln f a ring window_counts counts list) where
  -- ---- A letter that is searched from.
  module _ {r : State} {ring' window_counts' counts₁ : List ℕ} (s : Stops p codes ln f a r ring counts ring' window_counts' counts₁) (l : r.i < length codes) where
    -- The interval in hand is the same.
    pub stopped_hand : r.hand ≡ a.hand
    stopped_hand = s.enters.hand_is ∙ s.skims.hand_is

    pub stopped_further : a.i ≤ r.i
    stopped_further = omega (arith, s.enters.i_is, s.skims.further)

    -- No interval ends past the letters that were read.
    not_ended : (o : Open) {i : ℕ} → o ≡ a.hand → a.i ≤ i → is_at o.end (i + 1) ≡ false
    not_ended o same l = ended o.end (omega (arith, v.shaped.end_in, ap (λ (o : Open). whole o.end) same))

    pub past : is_at r.hand.end (r.i + 1) ≡ false
    past = not_ended r.hand stopped_hand stopped_further

    pub inv_turn : {a' : State} {counts' : List ℕ} {list' : List Interval}
        → Settled p ln f r a' ring' window_counts' counts₁ (saved_in r.hand.count list) counts' (saved_in a'.hand.count list')
        → a'.hand.count ≤ length list' → Before p codes ln f a' ring' window_counts' counts' list'
    inv_turn {a'} {counts'} {list'} t count_in =
        let S = setup_of p ln f in
        let i = s.before.i in
        let e = place_at p.kmer codes i in
        let saved = saved_in a.hand.count list in
        let saved' = saved_in a'.hand.count list' in
        let b = held s.before s.ring₀ s.counts₀ saved in
        let x = s.skims.onward saved v.shaped.end_in v.like in
        let at_end = not_ended s.before.hand s.skims.hand_is s.skims.further in
        let now : Like (r.i + 1) (held a' ring' counts' saved') (look S r.i (held r ring' counts₁ saved) (newest_of p r)) =
        subst (λ (o : Open). Like (r.i + 1) (held a' ring' counts' saved') (look S r.i (held r ring' counts₁ (saved_in o.count list)) (newest_of p r))) stopped_hand t.like in
        let code = stepped saved s.enters at_end now (like_refl {a = b}) in
        let i_after : a'.i ≡ i + 1 = t.i_is ∙ ap (λ (i : ℕ). i + 1) s.enters.i_is in
        let shaped = subst (λ (o : Open). ShapedList p.kmer a.i o.start o.end saved) (sym s.skims.hand_is) v.shaped in
        record {
          read = record { i_in = omega (arith, t.i_is, l); kmer_is = t.kmer_is ∙ s.enters.kmer_is ∙ ap (kmer_after p.kmer codes) (sym i_after); windowed = t.windowed; known = t.known };
          shaped = rw i_after
              (subst (λ (z : Run). ShapedAt S (i + 1) z) (sym code.run_is)
              (step_shaped S i b e (place_read p.kmer codes i) (shaped_more p.kmer a.i i s.before.hand.start s.before.hand.end saved s.skims.further shaped)));
          count_in = count_in;
          like = rw (i_after, run_turn S codes i (omega (arith, s.enters.i_is, l))) (stepped saved s.enters at_end now x);
        }

    -- The letter has entered the definition's window too.
    pub entered_window : window ring' r.window.head r.window.len ≡ (run_to (setup_of p ln f) codes (r.i + 1)).window
    entered_window =
        let S = setup_of p ln f in
        let i = s.before.i in
        let ps = places p.kmer codes in
        let some : 0 < p.window_size = omega (arith, v.read.windowed.wide) in
        let n = places_length p.kmer codes in
        let in_strand : i < length codes = omega (arith, s.enters.i_is, l) in
        let saved = saved_in a.hand.count list in
        let before = like_window (s.skims.onward saved v.shaped.end_in v.like) ∙ window_newest S some ps i (omega arith) in
        ap (λ (z : Run). z.window) (s.enters.run_is saved)
        ∙ enters_newest S some ps i (held s.before s.ring₀ s.counts₀ saved) (place_at p.kmer codes i) (places_take p.kmer codes i in_strand) (omega arith) before
        ∙ sym (window_newest S some ps (i + 1) (omega arith))
        ∙ ap (λ (j : ℕ). (run_to S codes (j + 1)).window) (sym s.enters.i_is)

  -- ---- All letters.
  pub inv_end : {a' : State} {ring' counts' : List ℕ} → Skims p codes ln f a a' ring counts ring' counts' → length codes ≤ a'.i
      → Saving a.hand list → Finished p codes ln f a'.hand list
  inv_end {a'} s h c =
      let x = s.onward (saved_in a.hand.count list) v.shaped.end_in v.like in
      let all = run_end (setup_of p ln f) codes a'.i h in
      record {
        start_is = like_start x ∙ ap (λ (z : Run). z.start) all;
        end_is = like_end x ∙ ap (λ (z : Run). z.end) all;
        saved_is = ap (λ (o : Open). saved_in o.count list) s.hand_is ∙ like_saved x ∙ ap (λ (z : Run). z.saved) all;
        saving = subst (λ (o : Open). Saving o list) (sym s.hand_is) c;
      }

-- ---- A letter that is searched from, by what the look answers.
module _ {p : Params} {codes : List ℕ} {ln f : List Float} {a : State} {ring₀ window_counts₀ counts₀ : List ℕ} {list : List Interval}
    (v : Before p codes ln f a ring₀ window_counts₀ counts₀ list)
    {r : State} {ring window_counts counts : List ℕ} (s : Stops p codes ln f a r ring₀ counts₀ ring window_counts counts) (l : r.i < length codes)
    {look : Look} {counts₁ : List ℕ}
    (k : (saved : List Interval) → Looks (setup_of p ln f) r.i (held r ring counts saved) (newest_of p r) look counts₁) where
  abbrev entered : Entered p ln f r.window (entry_of p.kmer r.kmer) ring window_counts counts
  entered = s.enters.entered

  -- Before the next letter, when what was sought is taken.
  before_next : {q : Sought} {a' : State} {counts' : List ℕ} {list' : List Interval} → SeeksAt p ln f r ring counts q counts'
      → TakesFind p.kmer r q a' (saved_in r.hand.count list) (saved_in a'.hand.count list')
      → a'.hand.count ≤ length list' → Before p codes ln f a' ring window_counts counts' list'
  before_next t h count_in = inv_turn v s l (settles (past v s l) entered.windowed t h) count_in

  -- A look that does not extend leaves the scan counts as they were.
  entered_as : counts₁ ≡ counts → Entered p ln f r.window (entry_of p.kmer r.kmer) ring window_counts counts₁
  entered_as e = subst (λ (z : List ℕ). Entered p ln f r.window (entry_of p.kmer r.kmer) ring window_counts z) (sym e) entered

  -- Nothing more.
  pub look_passing : {n_f : ℕ} → look ≡ Pass → length counts₁ ≡ 4 ^ p.kmer → p.window_size < n_f
      → Passing p r.window ring window_counts (length ln) n_f counts₁
  look_passing e = passing (entered_as (looked_counts (k []) e))

  pub before_passed : {a' : State} {counts' : List ℕ} → look ≡ Pass → PassedOn p ln f ring r a' counts₁ counts' → Before p codes ln f a' ring window_counts counts' list
  before_passed {a'} e t =
      let saved = saved_in r.hand.count list in
      before_next {q = sought a'.window 0}
      (λ saved. seeks_passed (k saved) entered.known entered.newest e (window_below_lem entered.windowed) t.passes)
      (subst (λ (o : Open). TakesFind p.kmer r (sought a'.window 0) a' saved (saved_in o.count list)) (sym t.hand_is) (passed_find saved t))
      (subst (λ (o : Open). o.count ≤ length list) (sym (t.hand_is ∙ stopped_hand v s l)) v.count_in)

  -- A find by extension.
  pub before_extended : {a' : State} {list' : List Interval} → look ≡ Extension
      → TakesFind p.kmer r (extended_of r.window) a' (saved_in r.hand.count list) (saved_in a'.hand.count list')
      → a'.hand.count ≤ length list' → Before p codes ln f a' ring window_counts counts₁ list'
  before_extended e h = before_next {q = extended_of r.window} (λ saved. seeks_extended (k saved) entered.known entered.newest e refl) h

  -- The backward scan is due.
  module _ (e : look ≡ Scan) where
    abbrev entered_still : Entered p ln f r.window (entry_of p.kmer r.kmer) ring window_counts counts₁
    entered_still = entered_as (looked_counts (k []) e)

    pub scan_asking : length counts₁ ≡ 4 ^ p.kmer → p.window_size < length f → Asking p ln f r.window ring window_counts counts₁
    scan_asking c h = record { some = entered.some; windowed = entered.windowed; known = entered_still.known; counts_is = c; f_long = h }

    answer_seeks : {b : Scanned} {counts' : List ℕ} → ScanAnswer (setup_of p ln f) r.window ring b counts'
        → SeeksAt p ln f r ring counts (answered_by r.window b.found b.carry) counts'
    answer_seeks h saved =
        seeks_scanned (k saved) e (seeks_answered (omega (arith, long entered.windowed, entered.some)) (window_below_lem entered.windowed) h refl)

    -- A carried scan tells its answer.
    pub answer_within : {b : Scanned} {counts' : List ℕ} → ScanAnswer (setup_of p ln f) r.window ring b counts' → b.found ≤ r.window.len
    answer_within h = found_within (setup_of p ln f) r.i r.hand entered (answer_seeks h [])

    pub before_answered : {b : Scanned} {a' : State} {counts' : List ℕ} {list' : List Interval} → ScanAnswer (setup_of p ln f) r.window ring b counts'
        → TakesFind p.kmer r (answered_by r.window b.found b.carry) a' (saved_in r.hand.count list) (saved_in a'.hand.count list')
        → a'.hand.count ≤ length list' → Before p codes ln f a' ring window_counts counts' list'
    before_answered {b} h = before_next {q = answered_by r.window b.found b.carry} (answer_seeks h)

    pub due_scan : {counts₂ : List ℕ} → counts₂ ≡ replicate (4 ^ p.kmer) 0 → Saving r.hand list → Due p codes ln f r ring window_counts counts₂ list
    due_scan clear can_save =
        record {
          some = entered.some;
          windowed = entered.windowed;
          window_is = entered_window v s l;
          clear = clear;
          carried = entered_still.known.carried;
          saving = can_save;
          within = λ b counts' h. answer_within h;
          leads = λ b a' counts' list' h t. before_answered h t;
        }

-- The last interval is saved.
pub last_saved : {p : Params} {codes : List ℕ} {ln f : List Float} {o : Open} {list list' : List Interval} {r : ℕ} → Finished p codes ln f o list
    → saved_in r list' ≡ save_from (saved_in o.count list) o.start o.end → r ≤ length list' → StrandList (setup_of p ln f) codes list' r
unfolding intervals_of intervals_of_places
last_saved {p} {codes} {ln} {f} {list' = list'} {r} ran h l =
    let same : saved_in r list' ≡ intervals_of (setup_of p ln f) codes = h ∙ rw (ran.saved_is, ran.start_is, ran.end_is) in
    record { list_is = same; count_is = sym (length-take-le r list' l) ∙ ap (λ (is : List Interval). length is) same }

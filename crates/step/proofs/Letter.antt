-- One letter as the code takes it: the entry that enters the window, what it leads to and what a find does,
-- put together to the definitions' `step`.
use Rattle.std.proofs.Common.{◌≡◌, refl, sym, ap, ap₂, ◌∙◌, subst, Bool, true, false, cond, List, [], ℕ, zero, suc, ◌+◌, ◌≤◌, ◌<◌, arith, length, leb, ℤ, pos, Float}
use Rattle.letters.specs.Place.{Place, ambiguous, plain, place_at}
use Rattle.letters.specs.Terms.Entry.{decode}
use Rattle.letters.specs.Terms.Rolling.{kmer_after, entry_of}
use Rattle.letters.proofs.Rolling.{entry_below, entry_place}
use Rattle.intervals.specs.declared.Interval.{Interval}
use Rattle.scans.specs.declared.Params.{Params}
use Rattle.scans.specs.Setup.{Setup}
use Rattle.scans.specs.Terms.Numbers.{setup_of}
use Rattle.scans.specs.Counts.{count}
use Rattle.scans.specs.Scans.{Find, none, at, Outcome}
use Rattle.search.specs.declared.Carry.{Carry}
use Rattle.scans.specs.Terms.Window.{window, find_of, Windowed}
use Rattle.scans.proofs.Test.{by_test}
use Rattle.scans.proofs.Windows.{long}
use Rattle.step.specs.Dropping.{look_by}
use Rattle.step.specs.Step.{Run, join, is_at, search, first_letter, start_after, saved_after, found_by, found, look, step}
use Rattle.step.specs.declared.window.Window.{Window}
use Rattle.step.specs.declared.hand.Open.{Open}
use Rattle.step.specs.declared.state.State.{State}
use Rattle.step.specs.Terms.KnownCounts.{KnownCounts, Sought, sought, rescanned}
use Rattle.step.specs.Terms.Like.{Like}
use Rattle.step.specs.Terms.Entering.{held_by, held, newest_of, Left, Joined, Entered, Enters}
use Rattle.step.specs.Terms.Finding.{last_q_by, Found, TakesFind, PassedOn}
use Rattle.step.proofs.Searching.{Seeks}
use Rattle.step.proofs.Shape.{InWindow, search_inside}
use Rattle.step.proofs.Like.{like_end, like_trans, like_found, like_step}

-- ---- What a new entry leads to.
module _ (S : Setup) (i : ℕ) (a : Run) where
  abbrev nothing : Outcome
  nothing = record { find = none; counts = a.counts }

  pub look_is : (e : Place) → look S i a e ≡ found_by S i a (look_by S i a e).counts (look_by S i a e).find
  unfolding look look_by found found_by
  look_is ambiguous = refl
  look_is (plain x) = go (leb S.min_start_cnt (count x a.window))
    where
      go : (b : Bool) → cond b (found S i a (search S i a x)) a
          ≡ found_by S i a (cond b (search S i a x) nothing).counts (cond b (search S i a x) nothing).find
      go true = refl
      go false = refl

  look_inside : (e : Place) → 0 < length a.window → InWindow a.window (look_by S i a e).find
  unfolding look_by
  look_inside ambiguous some = tt
  look_inside (plain x) some =
      by_test (λ (o : Outcome). InWindow a.window o.find) (leb S.min_start_cnt (count x a.window)) (search S i a x) nothing
      (λ _. search_inside S i a x some) (λ _. tt)

inside_le : (q : List Place) (r : ℕ) → InWindow q (find_of r) → r ≤ length q
inside_le q zero h = omega arith
inside_le q (suc j) h = omega arith

-- A find lies in the window.
pub found_within : (S : Setup) (i : ℕ) (o : Open) {p : Params} {ln f : List Float} {w : Window} {e : ℕ} {s : Sought} {q : List Place}
    {ring window_counts counts counts' : List ℕ} → Entered p ln f w e ring window_counts counts → Seeks S q w (look_by S i (held_by w o ring counts []) (decode e)) s counts' → s.found ≤ w.len
found_within S i o {w = w} {e} {s} {ring = ring} {counts = counts} j t =
    let q = window ring w.head w.len in
    let n = long j.windowed in
    let h = look_inside S i (held_by w o ring counts []) (decode e) (omega (arith, j.some)) in
    omega (arith, inside_le q s.found (subst (λ (find : Find). InWindow q find) (sym t.find_is) h))

-- ---- What a find does.
module _ (S : Setup) (i : ℕ) (w : Window) (o o' : Open) (ring counts counts' : List ℕ) (saved saved' : List Interval)
    (n : length (window ring w.head w.len) ≡ w.len) where
  by_start : ℕ → ℤ → Run
  by_start j s =
      record {
        window = window ring w.head w.len;
        sum = w.sum;
        counts = counts';
        start = start_after o.start o.end s;
        end = pos (i + 1);
        last_q = pos j;
        saved = saved_after saved o.start o.end s;
      }

  -- Whatever the search left of the carried scan.
  found_is : (live : Bool) (carry : Carry) (find : Find) → Found S.kmer i w.len o o' find saved saved'
      → held_by (last_q_by (rescanned w live carry) find) o' ring counts' saved' ≡ found_by S i (held_by w o ring counts saved) counts' find
  unfolding found_by by_start
  found_is live carry none h = rw (h.start_is, h.end_is, h.saved_is)
  found_is live carry (at j) h = rw (h.start_is, h.end_is, h.saved_is) (ap (λ (len : ℕ). by_start j (first_letter S.kmer i len j)) (sym n))

-- Where the window stands does not change.
last_q_head : (w : Window) (find : Find) → (last_q_by w find).head ≡ w.head
last_q_head w none = refl
last_q_head w (at j) = refl

last_q_len : (w : Window) (find : Find) → (last_q_by w find).len ≡ w.len
last_q_len w none = refl
last_q_len w (at j) = refl

module _ (w : Window) {u : Window} (r : Sought) (same : r.window ≡ rescanned w r.window.live r.window.carry) (u_is : u ≡ last_q_by r.window (find_of r.found)) where
  head_same : u.head ≡ w.head
  head_same = ap (λ (z : Window). z.head) u_is ∙ last_q_head r.window (find_of r.found) ∙ ap (λ (z : Window). z.head) same

  len_same : u.len ≡ w.len
  len_same = ap (λ (z : Window). z.len) u_is ∙ last_q_len r.window (find_of r.found) ∙ ap (λ (z : Window). z.len) same

-- ---- After the search: where the window stands, its scan counts, and the run.
module _ {S : Setup} {w w' : Window} {x : Outcome} {r : Sought} (ring : List ℕ) {counts' : List ℕ} (t : Seeks S (window ring w.head w.len) w x r counts')
    (u : w' ≡ last_q_by r.window (find_of r.found)) where
  pub looked_windowed : {p : Params} {window_counts : List ℕ} {n : ℕ} → Windowed p ring w.head w.len window_counts n → Windowed p ring w'.head w'.len window_counts n
  looked_windowed n = rw (head_same w r t.same u, len_same w r t.same u) n

  pub looked_known : KnownCounts S (window ring w'.head w'.len) w' counts'
  looked_known =
      let places = ap₂ (λ (head len : ℕ). window ring head len) (head_same w r t.same u) (len_same w r t.same u) in
      subst (λ (q : List Place). KnownCounts S q w' counts') (sym places) (subst (λ (z : Window). KnownCounts S (window ring w.head w.len) z counts') (sym u) t.known)

  pub looked_like : (i : ℕ) (e : Place) (o : Open) (counts : List ℕ) (saved : List Interval) {o' : Open} {saved' : List Interval} → length (window ring w.head w.len) ≡ w.len
      → is_at o.end (i + 1) ≡ false → x ≡ look_by S i (held_by w o ring counts saved) e → Found S.kmer i w.len o o' (find_of r.found) saved saved'
      → Like (i + 1) (held_by w' o' ring counts' saved') (look S i (held_by w o ring counts saved) e)
  looked_like i e o counts saved {o'} {saved'} n ended x_is h =
      let a = held_by w o ring counts saved in
      let find = find_of r.found in
      let now : held_by w' o' ring counts' saved' ≡ found_by S i a counts' find =
      ap (λ (z : Window). held_by z o' ring counts' saved') (u ∙ ap (λ (z : Window). last_q_by z find) t.same)
      ∙ found_is S i w o o' ring counts counts' saved saved' n r.window.live r.window.carry find h in
      let then : found_by S i a x.counts x.find ≡ look S i a e = ap (λ (z : Outcome). found_by S i a z.counts z.find) x_is ∙ sym (look_is S i a e) in
      subst (λ (z : Run). Like (i + 1) z (look S i a e)) (sym now)
      (subst (λ (z : Run). Like (i + 1) (found_by S i a counts' find) z) then
      (like_found S i a counts' x r.found ended t.find_is t.counts_are))

-- Letter a.i has entered and is settled: the state a' before the next letter.
pub record Settled (p : Params) (ln f : List Float) (a a' : State) (ring window_counts counts : List ℕ) (saved : List Interval) (counts' : List ℕ) (saved' : List Interval) : Type 0 where
  pub kmer_is : a'.kmer ≡ a.kmer
  pub i_is : a'.i ≡ a.i + 1
  pub like : Like (a.i + 1) (held a' ring counts' saved') (look (setup_of p ln f) a.i (held a ring counts saved) (newest_of p a))
  pub windowed : Windowed p ring a'.window.head a'.window.len window_counts (length ln)
  pub known : KnownCounts (setup_of p ln f) (window ring a'.window.head a'.window.len) a'.window counts'

-- What the look leads to was sought from the window of a, whatever is saved.
abbrev pub SeeksAt : (p : Params) (ln f : List Float) (a : State) (ring counts : List ℕ) (r : Sought) (counts' : List ℕ) → Type 0
SeeksAt p ln f a ring counts r counts' =
    (saved : List Interval) → Seeks (setup_of p ln f) (window ring a.window.head a.window.len) a.window
    (look_by (setup_of p ln f) a.i (held a ring counts saved) (newest_of p a)) r counts'

module _ {p : Params} {ln f : List Float} {a a' : State} {r : Sought} {ring window_counts counts counts' : List ℕ} {saved saved' : List Interval} where
  pub settles : is_at a.hand.end (a.i + 1) ≡ false → Windowed p ring a.window.head a.window.len window_counts (length ln)
      → SeeksAt p ln f a ring counts r counts' → TakesFind p.kmer a r a' saved saved'
      → Settled p ln f a a' ring window_counts counts saved counts' saved'
  settles ended n t h =
      let s = t saved in
      let len : r.window.len ≡ a.window.len = ap (λ (z : Window). z.len) s.same in
      record {
        kmer_is = h.kmer_is;
        i_is = h.i_is;
        like = looked_like ring s h.window_is a.i (newest_of p a) a.hand counts saved (long n) ended refl
            (subst (λ (l : ℕ). Found p.kmer a.i l a.hand a'.hand (find_of r.found) saved saved') len h.found);
        windowed = looked_windowed ring s h.window_is n;
        known = looked_known ring s h.window_is;
      }

-- Without a find.
pub passed_find : {p : Params} {ln f : List Float} {ring : List ℕ} {a a' : State} {counts counts' : List ℕ} (saved : List Interval)
    → PassedOn p ln f ring a a' counts counts' → TakesFind p.kmer a (sought a'.window 0) a' saved saved
passed_find saved t =
    record {
      kmer_is = t.kmer_is;
      i_is = t.i_is;
      window_is = refl;
      found = record { start_is = ap (λ (o : Open). o.start) t.hand_is; end_is = ap (λ (o : Open). o.end) t.hand_is; saved_is = refl };
    }

-- ---- The next letter enters the window, which then leads to the definitions' step.
module _ {p : Params} {codes : List ℕ} {ln : List Float} (f : List Float) {a a' : State} {w₁ : Window} {ring counts window_counts₁ ring' window_counts' counts' : List ℕ} where
  pub entering : a'.kmer ≡ kmer_after p.kmer codes (a.i + 1) → a'.i ≡ a.i → a'.hand ≡ a.hand
      → KnownCounts (setup_of p ln f) (window ring a.window.head a.window.len) a.window counts → Left p ln a.window w₁ ring counts window_counts₁ counts'
      → Joined p ln w₁ a'.window (entry_of p.kmer a'.kmer) ring ring' window_counts' → Enters p codes ln f a a' ring counts ring' window_counts' counts'
  entering kmer_is i_is hand_is k l j =
      let S = setup_of p ln f in
      let place = entry_place p.kmer codes a.i a'.kmer kmer_is in
      record {
        run_is = λ saved.
            j.run_is f a'.hand counts' saved
            ∙ ap (λ (o : Open). join S (held_by w₁ o ring counts' saved) (newest_of p a')) hand_is
            ∙ ap₂ (λ (z : Run) (e : Place). join S z e) (l.run_is f a.hand saved k) place;
        place_is = place;
        kmer_is = kmer_is;
        i_is = i_is;
        hand_is = hand_is;
        entered = record {
          some = j.some;
          below = entry_below p.kmer codes (a.i + 1) a'.kmer kmer_is;
          windowed = j.windowed;
          known = j.known f counts' (l.known f k);
          newest = j.newest;
        };
        live_is = j.live_is ∙ l.live_is;
      }

module _ {p : Params} {codes : List ℕ} {ln f : List Float} {a a' : State} {ring counts ring' window_counts' counts' : List ℕ} (saved : List Interval) where
  pub stepped : {x real : Run} → Enters p codes ln f a a' ring counts ring' window_counts' counts' → is_at a.hand.end (a.i + 1) ≡ false
      → Like (a'.i + 1) x (look (setup_of p ln f) a'.i (held a' ring' counts' saved) (newest_of p a')) → Like a.i (held a ring counts saved) real
      → Like (a.i + 1) x (step (setup_of p ln f) a.i real (place_at p.kmer codes a.i))
  unfolding step
  stepped {x} n ended l before =
      let S = setup_of p ln f in
      let e = place_at p.kmer codes a.i in
      let i_same = subst (λ (i : ℕ). Like (i + 1) x (look S i (held a' ring' counts' saved) (newest_of p a'))) n.i_is l in
      let e_same = subst (λ (z : Place). Like (a.i + 1) x (look S a.i (held a' ring' counts' saved) z)) n.place_is i_same in
      like_trans (subst (λ (z : Run). Like (a.i + 1) x (look S a.i z e)) (n.run_is saved) e_same)
      (like_step S e before (subst (λ (z : ℤ). is_at z (a.i + 1) ≡ false) (like_end before) ended))

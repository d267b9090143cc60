-- What the newest entry leads to, as the code asks for it: whether extend is tried, the extension, the back check, the carried scan and the backward scan,
-- against the definitions' `search`.
use Rattle.std.proofs.Common.{◌≡◌, refl, sym, ap, ◌∙◌, subst, Bool, true, false, cond, ◌&&◌, true≢false, List, [], ◌∷◌, ◌++◌, ℕ, zero, suc, ◌-◌, ◌/◌, ◌%◌, ◌^◌, ◌≤◌, ◌<◌, arith, length, get_or, drop, replicate, length-drop, leb, eqb, Float}
use lib.Seq.{drop-append-le}
use borrow.Author.Tests.{le-leb, leb-true, eqb-true, eqb-false}
use Rattle.letters.specs.Place.{Place, ambiguous, plain, Below}
use Rattle.letters.specs.Terms.Entry.{decode, decoded}
use Rattle.letters.proofs.Entries.{decode_plain, decode_ambiguous}
use Rattle.intervals.specs.declared.Interval.{Interval}
use Rattle.scans.specs.declared.Params.{Params}
use Rattle.search.specs.declared.Scanned.{Scanned}
use Rattle.scans.specs.Setup.{Setup, kmers}
use Rattle.scans.specs.Terms.Numbers.{setup_of}
use Rattle.scans.specs.Counts.{count, raise}
use Rattle.scans.specs.Scans.{Find, none, at, Outcome, extends, if_backward, dust_backward}
use Rattle.scans.specs.Terms.Counted.{Touched}
use Rattle.scans.specs.Terms.Window.{queue, window, find_of, Windowed}
use Rattle.search.specs.Terms.Carry.{counts_left, Answers}
use Rattle.scans.proofs.Counting.{count_le}
use Rattle.scans.proofs.Windows.{long}
use Rattle.scans.proofs.Touched.{touched_more}
use Rattle.step.specs.Dropping.{look_by}
use Rattle.step.specs.Step.{Run, whole, window_score, extend_tried, search}
use Rattle.step.specs.declared.window.Window.{Window}
use Rattle.step.specs.declared.state.State.{State}
use Rattle.step.specs.declared.state.Look.{Look}
use Rattle.step.specs.declared.state.Look.TheVariants.{Pass, Extension, Scan}
use Rattle.step.specs.Terms.KnownCounts.{KnownCounts, Sought, Passing, Passes, Clearing, rescanned, extended_of, answered_by}
use Rattle.step.specs.Terms.Entering.{held, Entered}
use Rattle.step.specs.Terms.Searching.{is_searched, tried_by, Extended, looked_as, counts_looked, Looks}
use Rattle.step.specs.Terms.Finding.{last_q_by}
use Rattle.step.proofs.Moving.{window_split, older_long}
use Rattle.step.proofs.KnownCounts.{known_passed, known_extended, known_answered}

-- The search from a window w of the places q answers the outcome's find, with its scan counts where something is found.
pub record Seeks (S : Setup) (q : List Place) (w : Window) (o : Outcome) (r : Sought) (counts' : List ℕ) : Type 0 where
  pub find_is : find_of r.found ≡ o.find
  pub counts_are : 0 < r.found → counts' ≡ o.counts
  pub known : KnownCounts S q (last_q_by r.window (find_of r.found)) counts'
  pub same : r.window ≡ rescanned w r.window.live r.window.carry

-- ---- The extension.
-- In a window that holds, it is the definitions' extension.
module _ {p : Params} {ln f : List Float} {a : State} {x : ℕ} {r : Bool} {counts counts' : List ℕ}
    (h : Extended p ln f a x counts r counts') {ring window_counts : List ℕ} (w : Windowed p ring a.window.head a.window.len window_counts (length ln)) (saved : List Interval) where
  abbrev S : Setup
  S = setup_of p ln f

  abbrev A : Run
  A = held a ring counts saved

  tried_is : tried_by p f a ≡ extend_tried S a.i A
  unfolding extend_tried window_score
  tried_is = rw (long w)

  pub extended_is : r ≡ extend_tried S a.i A && extends S counts (length A.window) x
  extended_is = h.answer ∙ rw (tried_is, long w)

-- ---- What the look answers. A letter that is not searched from leads to nothing.
pub look_unsearched : (S : Setup) (i : ℕ) (a : Run) (e : Place) (window_counts : List ℕ) → ((x : ℕ) → get_or window_counts x 0 ≡ count x a.window)
    → is_searched S.min_start_cnt window_counts e ≡ false → Looks S i a e Pass a.counts
unfolding look_by
look_unsearched S i a ambiguous window_counts n h = record { outcome_is = refl; counts_are = refl }
look_unsearched S i a (plain x) window_counts n h = record { outcome_is = rw (sym (n x), h); counts_are = refl }

-- An entry that is searched from is plain, and stands often enough in the window.
module _ (least e : ℕ) (window_counts : List ℕ) where
  searched_odd : decode e ≡ ambiguous → is_searched least window_counts (decode e) ≡ false
  searched_odd h = ap (is_searched least window_counts) h

  pub searched_plain : is_searched least window_counts (decode e) ≡ true → decode e ≡ plain (e / 2)
  searched_plain t = go (eqb (e % 2) 0) refl
    where
      go : (b : Bool) → eqb (e % 2) 0 ≡ b → decode e ≡ plain (e / 2)
      go true h = decode_plain e (eqb-true (e % 2) 0 h)
      go false h = absurd (true≢false (sym t ∙ searched_odd (decode_ambiguous e (eqb-false (e % 2) 0 h))))

  pub searched_often : is_searched least window_counts (decode e) ≡ true → least ≤ get_or window_counts (e / 2) 0
  searched_often t = leb-true least (get_or window_counts (e / 2) 0) (sym (ap (is_searched least window_counts) (searched_plain t)) ∙ t)

module _ (S : Setup) (i : ℕ) (a : Run) (e : ℕ) where
  module _ (h : decode e ≡ plain (e / 2)) where
    -- The search from its k-mer.
    module _ (l : S.min_start_cnt ≤ count (e / 2) a.window) {b : Bool} {counts : List ℕ} (answer : b ≡ extend_tried S i a && extends S a.counts (length a.window) (e / 2))
        (counts_are : counts ≡ cond b (raise a.counts (plain (e / 2))) a.counts) where
      often : leb S.min_start_cnt (count (e / 2) a.window) ≡ true
      often = le-leb S.min_start_cnt (count (e / 2) a.window) l

      counts_by : {t : Bool} → b ≡ t → counts ≡ cond t (raise a.counts (plain (e / 2))) a.counts
      counts_by t = counts_are ∙ ap (λ (z : Bool). cond z (raise a.counts (plain (e / 2))) a.counts) t

      pub look_extended : b ≡ true → Looks S i a (decode e) Extension counts
      unfolding look_by search
      look_extended t = rw h (record { outcome_is = rw (often, sym answer ∙ t, counts_by t); counts_are = counts_by t })

      module _ {back : Bool} (t : b ≡ false) (y : back ≡ if_backward S a.window) where
        pub look_back : back ≡ true → Looks S i a (decode e) Scan counts
        unfolding look_by search
        look_back s = rw h (record { outcome_is = rw (often, sym answer ∙ t, sym y ∙ s); counts_are = counts_by t })

        pub look_none : back ≡ false → Looks S i a (decode e) Pass counts
        unfolding look_by search
        look_none s = rw h (record { outcome_is = rw (often, sym answer ∙ t, sym y ∙ s, counts_by t); counts_are = counts_by t })

-- ---- No find: what the carried scan makes of the newest entry.
module _ {S : Setup} {q : List Place} {w : Window} {counts : List ℕ} where
  pub passes_off : w.carry.on ≡ false → Passes S q w w counts counts
  passes_off off = record { off = λ _. (refl, refl); same = λ _. refl; on = λ on. absurd (true≢false (sym on ∙ off)) }

-- A carried scan can go on to an entry that has entered.
pub passing : {p : Params} {ln f : List Float} {w : Window} {e n_f : ℕ} {ring window_counts counts : List ℕ} → Entered p ln f w e ring window_counts counts
    → length counts ≡ 4 ^ p.kmer → p.window_size < n_f → Passing p w ring window_counts (length ln) n_f counts
passing {w = w} {ring = ring} n c f =
    let k = n.known in
    let h = n.windowed in
    let q = window ring w.head (w.len - 1) in
    let j = whole w.last_q in
    record {
      f_long = f;
      joining = λ on. record {
        windowed = h;
        some = n.some;
        long = c;
        few = λ x. omega (arith, (k.counted on).counted x, count_le x (drop j q), length-drop j q, older_long h, n.some);
      };
      inside = λ on. omega (arith, k.inside (k.live on), older_long h, n.some);
    }

passes_same : {S : Setup} {q : List Place} {w w' : Window} {counts counts' : List ℕ} → Passes S q w w' counts counts'
    → w' ≡ rescanned w w'.live w'.carry
passes_same {w = w} {w' = w'} h = go w.carry.on refl
  where
    go : (t : Bool) → w.carry.on ≡ t → w' ≡ rescanned w w'.live w'.carry
    go false off = rw (h.off off).0
    go true on =
        let same = h.same on in
        same ∙ ap (λ (l : Bool). rescanned w l w'.carry) (sym (ap (λ (z : Window). z.live) same))

-- ---- The backward scan. Scan counts that places before the newest have raised are cleared with those of all.
module _ {S : Setup} {p : Params} {w : Window} {counts ring window_counts : List ℕ} {head len n : ℕ} (k : KnownCounts S (window ring head (len - 1)) w counts)
    (h : Windowed p ring head len window_counts n) where
  pub touched_all : {l : ℕ} → l ≡ whole w.last_q → w.live ≡ true → (l ≤ len) × Touched counts (drop l (window ring head len))
  touched_all l_is on =
      let older : List Place = window ring head (len - 1) in
      let newer : List Place = decoded (drop (len - 1) (queue ring head len)) in
      let j : ℕ = whole w.last_q in
      rw l_is (
        omega (arith, k.inside on, older_long h),
        subst (λ (z : List Place). Touched counts z)
            (sym (ap (λ (z : List Place). drop j z) (window_split ring head (len - 1) len (omega arith)) ∙ drop-append-le j older newer (k.inside on)))
            (touched_more counts (drop j older) newer (k.touched on)),
      )

  pub clearing : w.len ≡ len → length counts ≡ kmers S → Clearing w (window ring head len) counts
  clearing e c =
      record {
        touched = λ on. rw e (touched_all refl on);
        clear = λ off. k.clear off ∙ ap (λ (n : ℕ). replicate n 0) (sym c);
      }

left_found : (S : Setup) (o : Outcome) (r : ℕ) → find_of r ≡ o.find → 0 < r → counts_left S o.find o.counts ≡ o.counts
left_found S o zero h l = absurd (let b : ⊥ = omega arith in b)
left_found S o (suc j) h l = ap (λ (z : Find). counts_left S z o.counts) (sym h)

pub seeks_answered : {S : Setup} {q : List Place} {w : Window} {r : Scanned} {s : Sought} {counts' : List ℕ} → 0 < length q → Below (kmers S) q
    → Answers S q (dust_backward S q) r counts' → s ≡ answered_by w r.found r.carry → Seeks S q w (dust_backward S q) s counts'
seeks_answered {S} {q} {w} {r} some b h e =
    rw e
    (record {
      find_is = h.settles.find_is;
      counts_are = λ l. h.settles.counts_are ∙ left_found S (dust_backward S q) r.found h.settles.find_is l;
      known = known_answered w some b h;
      same = refl;
    })

-- ---- The search by what the look answers.
abbrev IsNone : Find → Type 0
IsNone none = Unit {0}
IsNone (at j) = ⊥

-- Only a plain entry is extended from.
extended_known : (S : Setup) (i : ℕ) (a : Run) (e : Place) {q : List Place} {w : Window} {counts : List ℕ} → KnownCounts S q w a.counts
    → look_by S i a e ≡ record { find = at 0; counts = counts } → counts ≡ raise a.counts e → KnownCounts S (q ++ e ∷ []) (last_q_by (extended_of w).window (at 0)) counts
unfolding look_by
extended_known S i a ambiguous k o c = absurd (subst (λ (z : Outcome). IsNone z.find) o tt)
extended_known S i a (plain x) k o c = rw c (known_extended x k)

module _ {S : Setup} {i : ℕ} {a : Run} {e : Place} {r : Look} {counts : List ℕ} (h : Looks S i a e r counts) where
  outcome_by : {r' : Look} → r ≡ r' → look_by S i a e ≡ looked_as S a r' counts
  outcome_by t = h.outcome_is ∙ ap (λ (z : Look). looked_as S a z counts) t

  pub looked_counts : {r' : Look} → r ≡ r' → counts ≡ counts_looked r' a.counts e
  looked_counts t = h.counts_are ∙ ap (λ (z : Look). counts_looked z a.counts e) t

  module _ {q : List Place} {w : Window} (k : KnownCounts S q w a.counts) (newest : a.window ≡ q ++ e ∷ []) where
    pub seeks_passed : {w' : Window} {counts' : List ℕ} → r ≡ Pass → Below (kmers S) a.window → Passes S a.window w w' counts counts'
        → Seeks S a.window w (look_by S i a e) (record { window = w'; found = 0 }) counts'
    seeks_passed t b p =
        record {
          find_is = sym (ap (λ (o : Outcome). o.find) (outcome_by t));
          counts_are = λ l. absurd (let b : ⊥ = omega (arith, l) in b);
          known = rw newest
              (known_passed q e (subst (λ (z : List Place). Below (kmers S) z) newest b) newest (subst (λ (z : List ℕ). KnownCounts S q w z) (sym (looked_counts t)) k) p);
          same = passes_same p;
        }

    pub seeks_extended : {s : Sought} → r ≡ Extension → s ≡ extended_of w → Seeks S a.window w (look_by S i a e) s counts
    seeks_extended t u =
        rw u
        (record {
          find_is = sym (ap (λ (o : Outcome). o.find) (outcome_by t));
          counts_are = λ _. sym (ap (λ (o : Outcome). o.counts) (outcome_by t));
          known = rw newest (extended_known S i a e k (outcome_by t) (looked_counts t));
          same = refl;
        })

  pub seeks_scanned : {w : Window} {s : Sought} {counts' : List ℕ} → r ≡ Scan → Seeks S a.window w (dust_backward S a.window) s counts'
      → Seeks S a.window w (look_by S i a e) s counts'
  seeks_scanned {w} {s} {counts'} t o = subst (λ (z : Outcome). Seeks S a.window w z s counts') (sym (outcome_by t)) o

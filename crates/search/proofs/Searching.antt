-- The search for candidates, a turn at a time: the scan goes on and leaves a peak or none, and when it is over the best place joins.
use Rattle.std.proofs.Common.{◌≡◌, refl, sym, ap, ◌∙◌, subst, Bool, true, false, cond, ◌||◌, true≢false, List, [], ◌∷◌, ◌++◌, ◌≢◌, ℕ, ◌+◌, ◌-◌, ◌<◌, ◌≤◌, arith, length, get_or, set, length-append, length-set, eqb, ltb}
use lib.Seq.{get_or_at}
use borrow.Author.Tests.{eqb-true, eqb-false}
use Rattle.letters.specs.Place.{Place, Below}
use Rattle.scans.specs.declared.ForwardPosition.{ForwardPosition}
use Rattle.scans.specs.declared.backward.BackwardState.{BackwardState}
use Rattle.search.specs.declared.candidates.Search.{Search}
use Rattle.scans.specs.Setup.{Setup, kmers}
use Rattle.scans.specs.Counts.{cleared}
use Rattle.scans.specs.Terms.Counted.{Counted}
use Rattle.scans.specs.Scans.{Candidate, candidate, no_candidate, BackwardSums, backward_start, Backward, backward_from, with_best}
use Rattle.scans.specs.Terms.Parts.{backward_of, rest_of, GoesOn}
use Rattle.search.specs.Terms.Search.{candidate_of, no_position, candidates_in, candidates_of, FreshSearch, noting_at, resting_at, gone_on, finished_of, to_try, with_fresh, resumed, sought, Noted, Searches, Ended, NextCandidate, ScansBackward}
use Rattle.scans.proofs.Test.{by_test, neither}
use Rattle.search.proofs.Noting.{AllBelow, backward_scanned, candidates_fit}
use Rattle.search.proofs.Slices.{candidates_length, candidates_at, candidates_push}
use Rattle.scans.proofs.BackwardScan.{with_peak, backs_start, backward_goes}

no_entries : (l : List Candidate) → length l ≡ 0 → l ≡ []
no_entries [] e = refl
no_entries (c ∷ l) e = absurd (let b : ⊥ = omega arith in b)

-- ---- The candidates that a search has noted.
module _ (a : Search) (cs : List Candidate) (n : Noted a cs) where
  noted_same : (scan : BackwardState) (on : Bool) → Noted (resting_at a scan on) cs
  noted_same scan on = record { many = n.many; last_is = n.last_is }

  noted_more : (scan : BackwardState) (on : Bool) (found : ℕ) → Noted (noting_at (resting_at a scan on) found) (cs ++ candidate (found - 1) scan.best ∷ [])
  noted_more scan on found =
      let c : Candidate = candidate (found - 1) scan.best in
      let l : length (cs ++ c ∷ []) ≡ length cs + 1 = length-append cs (c ∷ []) in
      record { many = l ∙ ap (λ (z : ℕ). z + 1) n.many; last_is = λ _. get_or_at cs c [] no_candidate (length (cs ++ c ∷ []) - 1) (omega arith) }

  -- The best place is older than all noted.
  joins : (found : ℕ) → eqb (length cs) 0 || ltb found ((get_or cs (length cs - 1) no_candidate).place + 1) ≡ eqb a.noted 0 || ltb found (a.last.pos + 1)
  joins found = ap (λ (z : ℕ). eqb z 0 || ltb found ((get_or cs (length cs - 1) no_candidate).place + 1)) n.many ∙ go (eqb a.noted 0) refl
    where
      go : (b : Bool) → eqb a.noted 0 ≡ b → b || ltb found ((get_or cs (length cs - 1) no_candidate).place + 1) ≡ b || ltb found (a.last.pos + 1)
      go true e = refl
      go false e =
          let d : a.noted ≢ 0 = eqb-false a.noted 0 e in
          ap (λ (c : Candidate). ltb found (c.place + 1)) (n.last_is (omega arith))

-- With no entry left a scan answers its best.
none_left : (S : Setup) (q : List Place) (low l : ℕ) (x : BackwardSums) (counts : List ℕ) (cs : List Candidate) → low ≡ 0
    → backward_from S q low l x counts cs ≡ record { best = x.best; found = x.found; counts = counts; candidates = cs }
unfolding backward_from
none_left S q low l x counts cs z = rw z

-- ---- A turn.
module _ (S : Setup) (q : List Place) (a : Search) (counts : List ℕ) (c : Searches (kmers S) q a counts) where
  abbrev ended : List Candidate → Backward
  ended cs = record { best = a.scan.best; found = a.scan.found; counts = counts; candidates = cs }

  begun : (cs : List Candidate) → sought S q a counts cs ≡ to_try (resumed S q a.scan counts cs)
  begun cs = rw c.on

  -- The scan is over.
  module _ (e : a.scan.done || eqb a.scan.low 0 ≡ true) where
    resumed_ended : (cs : List Candidate) → resumed S q a.scan counts cs ≡ ended cs
    resumed_ended cs = go a.scan.done e
      where
        go : (b : Bool) → b || eqb a.scan.low 0 ≡ true → cond b (ended cs) (backward_from S q a.scan.low (length q + 1 - a.scan.low) (backward_of a.scan) counts cs) ≡ ended cs
        go true t = refl
        go false t = none_left S q a.scan.low (length q + 1 - a.scan.low) (backward_of a.scan) counts cs (eqb-true a.scan.low 0 t)

    abbrev rests : Search
    rests = resting_at a a.scan false

    pub next_finished : (b : Search) → b ≡ finished_of a → NextCandidate S q a b counts counts
    next_finished b z =
        rw z
        (go (eqb a.scan.found 0) refl (eqb a.noted 0 || ltb a.scan.found (a.last.pos + 1)) refl)
      where
        turns_left : (o d : Bool) → o ≡ true → 0 < cond o (cond d 1 (a.scan.low + 2)) 0
        turns_left false d h = absurd (true≢false (sym h))
        turns_left true true h = omega arith
        turns_left true false h = omega arith

        go : (t : Bool) → eqb a.scan.found 0 ≡ t → (j : Bool) → eqb a.noted 0 || ltb a.scan.found (a.last.pos + 1) ≡ j
            → NextCandidate S q a (cond t rests (cond j (noting_at rests a.scan.found) rests)) counts counts
        go true h j k =
            record {
              same = λ cs n. begun cs ∙ ap to_try (resumed_ended cs) ∙ rw h (sym (no_entries cs (n.many ∙ c.none (eqb-true a.scan.found 0 h))));
              noted = λ cs n. noted_same a cs n a.scan false;
              less = turns_left a.on a.scan.done c.on;
              next = λ f. absurd (true≢false (sym f));
              ended = λ _. record { low_in = c.scan.low_in; counted = c.scan.counted; last_read = c.last_read };
            }
        go false h true k =
            record {
              same = λ cs n. begun cs ∙ ap to_try (resumed_ended cs) ∙ rw (h, joins a cs n a.scan.found, k);
              noted = λ cs n. noted_more a cs n a.scan false a.scan.found;
              less = turns_left a.on a.scan.done c.on;
              next = λ f. absurd (true≢false (sym f));
              ended = λ _.
                  let d : a.scan.found ≢ 0 = eqb-false a.scan.found 0 h in
                  record { low_in = c.scan.low_in; counted = c.scan.counted; last_read = λ _. omega (arith, c.scan.best_read (omega arith)) };
            }
        go false h false k =
            record {
              same = λ cs n. begun cs ∙ ap to_try (resumed_ended cs) ∙ rw (h, joins a cs n a.scan.found, k);
              noted = λ cs n. noted_same a cs n a.scan false;
              less = turns_left a.on a.scan.done c.on;
              next = λ f. absurd (true≢false (sym f));
              ended = λ _. record { low_in = c.scan.low_in; counted = c.scan.counted; last_read = c.last_read };
            }

  -- The scan goes on.
  module _ (e : a.scan.done || eqb a.scan.low 0 ≡ false) (scan : BackwardState) (counts' : List ℕ) {window_counts : List ℕ} (window_counted : Counted (kmers S) window_counts q)
      (below : Below (kmers S) q) (k : GoesOn S window_counts false q (rest_of a.scan counts) (rest_of scan counts')) where
    going : a.scan.done ≡ false
    going = (neither a.scan.done (eqb a.scan.low 0) e).0

    scanned : (cs : List Candidate) → sought S q a counts cs ≡ to_try (resumed S q scan counts' (with_peak (rest_of scan counts') cs))
    scanned cs = begun cs ∙ rw going (ap to_try (backward_goes S window_counts q window_counted below (rest_of a.scan counts) (rest_of scan counts') k c.scan cs))

    fewer : (d o : Bool) → o ≡ true → cond o (cond d 1 (scan.low + 2)) 0 < cond a.on (cond a.scan.done 1 (a.scan.low + 2)) 0
    fewer d false h = absurd (true≢false (sym h))
    fewer true true h = rw (c.on, going) (omega arith)
    fewer false true h = rw (c.on, going) (omega (arith, k.less))

    abbrev on_at : Search
    on_at = resting_at a scan a.on

    pub next_on : (b : Search) → b ≡ gone_on a scan → NextCandidate S q a b counts counts'
    next_on b z = rw z (go scan.paused refl)
      where
        go : (t : Bool) → scan.paused ≡ t → NextCandidate S q a (cond t (noting_at on_at (scan.low + 2)) on_at) counts counts'
        go true p =
            let one : scan.low + 2 - 1 ≡ scan.low + 1 = omega arith in
            record {
              same = λ cs n. scanned cs ∙ rw (p, c.on, one);
              noted = λ cs n. noted_more a cs n scan a.on (scan.low + 2);
              less = fewer scan.done a.on c.on;
              next = λ _. record {
                on = c.on;
                scan = k.here;
                few = omega (arith, c.few, k.less);
                none = λ f. absurd (k.peaked refl p f);
                last_read = λ _. omega arith;
              };
              ended = λ f. absurd (true≢false (sym c.on ∙ f));
            }
        go false p =
            record {
              same = λ cs n. scanned cs ∙ rw (p, c.on);
              noted = λ cs n. noted_same a cs n scan a.on;
              less = fewer scan.done a.on c.on;
              next = λ _. record {
                on = c.on;
                scan = k.here;
                few = omega (arith, c.few, k.less);
                none = λ f. c.none (k.kept f);
                last_read = λ s. omega (arith, c.last_read s, k.less);
              };
              ended = λ f. absurd (true≢false (sym c.on ∙ f));
            }

-- ---- All the turns: what the slice holds are the candidates noted so far.
-- All candidates to try are places of the window, and no more than it has.
pub to_try_fit : (S : Setup) (q : List Place) → 0 < length q → (length (candidates_of S q) ≤ length q) × AllBelow (length q) (candidates_of S q)
to_try_fit S q some =
    let b : Backward = backward_from S q (length q) 1 backward_start (cleared S) [] in
    by_test (λ (l : List Candidate). (length l ≤ length q) × AllBelow (length q) l) (eqb b.found 0) [] (with_best b.best b.found b.candidates)
    (λ _. (omega arith, tt)) (λ _. candidates_fit (length q) b (backward_scanned S q some))

pub record Seeking (S : Setup) (q : List Place) (counts₀ : List ℕ) (records₀ : List ForwardPosition) (a : Search) (counts : List ℕ) (records : List ForwardPosition) : Type 0 where
  pub same_counts : length counts ≡ length counts₀
  pub same_records : length records ≡ length records₀
  pub next : a.on ≡ true → Searches (kmers S) q a counts
  pub ended : a.on ≡ false → Ended (kmers S) q a counts
  pub noted : Noted a (candidates_in a.noted records)
  pub rest : candidates_of S q ≡ sought S q a counts (candidates_in a.noted records)

module _ (S : Setup) (q : List Place) (counts₀ : List ℕ) (records₀ : List ForwardPosition) where
  pub seeking_start : (len : ℕ) → length q ≡ len → (a : Search) → FreshSearch len a → counts₀ ≡ cleared S → Seeking S q counts₀ records₀ a counts₀ records₀
  unfolding candidates_in
  seeking_start len l a f clear =
      let low : a.scan.low ≡ length q = f.scan.low_is ∙ sym l in
      let one : length q + 1 - length q ≡ 1 = omega arith in
      record {
        same_counts = refl;
        same_records = refl;
        next = λ _. record {
          on = f.on;
          scan = backs_start q len (kmers S) a.scan counts₀ l f.scan clear;
          few = omega (arith, f.none_noted);
          none = λ _. f.none_noted;
          last_read = λ s. absurd (let n : ⊥ = omega (arith, f.none_noted) in n);
        };
        ended = λ e. absurd (true≢false (sym f.on ∙ e));
        noted = record { many = candidates_length a.noted records₀; last_is = λ s. absurd (let n : ⊥ = omega (arith, f.none_noted) in n) };
        rest = rw (f.on, f.scan.going.1, low, one, f.scan.sums_are, clear, f.none_noted);
      }

  module _ (a : Search) (counts : List ℕ) (records : List ForwardPosition) (c : Seeking S q counts₀ records₀ a counts records) where
    pub seeking_end : a.on ≡ false → ScansBackward S q (record { noted = a.noted; low = a.scan.low; oldest = a.last.pos; newest = (get_or records 0 no_position).pos }) counts (candidates_in a.noted records)
    seeking_end e =
        let l : List Candidate = candidates_in a.noted records in
        let all : l ≡ candidates_of S q = sym (c.rest ∙ rw e) in
        let over = c.ended e in
        record {
          all = all;
          searched = record {
            many = ap length (sym all) ∙ c.noted.many;
            low_in = over.low_in;
            counted = over.counted;
            oldest_read = over.last_read;
            oldest_is = λ s. subst (λ (z : List Candidate). (get_or z (length z - 1) no_candidate).place ≡ a.last.pos) all (ap (λ (d : Candidate). d.place) (c.noted.last_is s));
            newest_is = λ s. subst (λ (z : List Candidate). (get_or z 0 no_candidate).place ≡ (get_or records 0 no_position).pos) all (ap (λ (d : Candidate). d.place) (candidates_at a.noted records 0 s));
          };
        }

    module _ (b : Search) (counts' : List ℕ) (k : NextCandidate S q a b counts counts') (same : length counts' ≡ length counts) where
      abbrev cs : List Candidate
      cs = candidates_in a.noted records

      turned : (records' : List ForwardPosition) → length records' ≡ length records → candidates_in b.noted records' ≡ with_fresh b cs
          → Seeking S q counts₀ records₀ b counts' records'
      turned records' l e =
          record {
            same_counts = same ∙ c.same_counts;
            same_records = l ∙ c.same_records;
            next = k.next;
            ended = k.ended;
            noted = subst (λ (l : List Candidate). Noted b l) (sym e) (k.noted cs c.noted);
            rest = c.rest ∙ k.same cs c.noted ∙ ap (λ (l : List Candidate). sought S q b counts' l) (sym e);
          }

      pub seeking_kept : b.fresh ≡ false → Seeking S q counts₀ records₀ b counts' records
      seeking_kept f =
          let w : with_fresh b cs ≡ cs = rw f in
          let n : b.noted ≡ a.noted = sym (k.noted cs c.noted).many ∙ ap length w ∙ c.noted.many in
          turned records refl (ap (λ (m : ℕ). candidates_in m records) n ∙ sym w)

      module _ (f : b.fresh ≡ true) where
        with_last : with_fresh b cs ≡ cs ++ candidate_of b.last ∷ []
        with_last = rw f

        one_more : b.noted ≡ a.noted + 1
        one_more = sym (k.noted cs c.noted).many ∙ ap length with_last ∙ length-append cs (candidate_of b.last ∷ []) ∙ ap (λ (m : ℕ). m + 1) c.noted.many

        pub fresh_some : 1 ≤ b.noted
        fresh_some = omega (arith, one_more)

        -- There is room for it.
        pub fresh_room : 0 < length q → b.noted ≤ length q
        fresh_room some = go b.on refl
          where
            go : (t : Bool) → b.on ≡ t → b.noted ≤ length q
            go true e = omega (arith, (k.next e).few)
            go false e =
                let l : candidates_of S q ≡ with_fresh b cs = c.rest ∙ k.same cs c.noted ∙ rw e in
                omega (arith, (k.noted cs c.noted).many, ap length l, (to_try_fit S q some).0)

        pub seeking_put : b.noted - 1 < length records → Seeking S q counts₀ records₀ b counts' (set records (b.noted - 1) b.last)
        seeking_put r =
            let m : b.noted - 1 ≡ a.noted = omega (arith, one_more) in
            let n : b.noted - 1 + 1 ≡ b.noted = omega (arith, one_more) in
            turned (set records (b.noted - 1) b.last) (length-set records (b.noted - 1) b.last)
            (ap (λ (x : ℕ). candidates_in x (set records (b.noted - 1) b.last)) (sym n) ∙ candidates_push (b.noted - 1) records b.last r
            ∙ ap (λ (x : ℕ). candidates_in x records ++ candidate_of b.last ∷ []) m ∙ sym with_last)

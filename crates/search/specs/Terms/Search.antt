-- The candidates of the paper, 'Step and scans', as the code notes them in the lent slice and then tries them, one after the other: the terms of its contracts.
use Rattle.std.specs.Prelude.{◌≡◌, Bool, true, false, cond, ◌||◌, List, [], ◌∷◌, ◌++◌, ℕ, zero, suc, ◌+◌, ◌-◌, ◌<◌, ◌≤◌, length, get_or, drop, eqb, ltb}
use Rattle.std.specs.Float.{nan}
use Rattle.letters.specs.Place.{Place}
use Rattle.scans.specs.declared.ForwardPosition.{ForwardPosition}
use Rattle.scans.specs.declared.backward.BackwardState.{BackwardState}
use Rattle.search.specs.declared.candidates.Search.{Search}
use Rattle.search.specs.declared.candidates.Searched.{Searched}
use Rattle.scans.specs.Setup.{Setup, kmers}
use Rattle.scans.specs.Counts.{cleared}
use Rattle.scans.specs.Terms.Counted.{Counted}
use Rattle.scans.specs.Scans.{Candidate, candidate, no_candidate, backward_start, Backward, backward_from, with_best}
use Rattle.scans.specs.Terms.Parts.{backward_of, Fresh, rest_of, Backs}

abbrev pub candidate_of : ForwardPosition → Candidate
candidate_of c = candidate c.pos c.max_score

-- What stands past the end of a slice.
abbrev pub no_position : ForwardPosition
no_position = record { pos = 0; max_score = nan }

-- The first n candidates that a slice holds.
unfoldable pub candidates_in : ℕ → List ForwardPosition → List Candidate
candidates_in zero records = []
candidates_in (suc n) records = candidates_in n records ++ candidate_of (get_or records n no_position) ∷ []

-- ---- The candidates are noted.
-- A search that has noted nothing.
pub record FreshSearch (len : ℕ) (a : Search) : Type 0 where
  pub scan : Fresh len a.scan
  pub none_noted : a.noted ≡ 0
  pub on : a.on ≡ true

-- One candidate more, the place before `found`.
abbrev pub noting_at : Search → ℕ → Search
noting_at a found =
    record { scan = a.scan; noted = a.noted + 1; last = record { pos = found - 1; max_score = a.scan.best }; fresh = true; on = a.on }

-- The same candidates.
abbrev pub resting_at : Search → BackwardState → Bool → Search
resting_at a scan on = record { scan = scan; noted = a.noted; last = a.last; fresh = false; on = on }

-- The scan has gone on.
abbrev pub gone_on : Search → BackwardState → Search
gone_on a scan = cond scan.paused (noting_at (resting_at a scan a.on) (scan.low + 2)) (resting_at a scan a.on)

-- The scan is over.
abbrev pub finished_of : Search → Search
finished_of a =
    let b : Search = resting_at a a.scan false in
    let found : ℕ = a.scan.found in
    cond (eqb found 0) b (cond (eqb a.noted 0 || ltb found (a.last.pos + 1)) (noting_at b found) b)

-- All candidates to try: those noted, with the best place.
abbrev pub to_try : Backward → List Candidate
to_try b = cond (eqb b.found 0) [] (with_best b.best b.found b.candidates)

-- The candidates with one that is still to be put to them.
abbrev pub with_fresh : Search → List Candidate → List Candidate
with_fresh a cs = cond a.fresh (cs ++ candidate_of a.last ∷ []) cs

-- What a scan that rests at a answers in the end.
abbrev pub resumed : Setup → List Place → BackwardState → List ℕ → List Candidate → Backward
resumed S q a counts cs =
    cond a.done (record { best = a.best; found = a.found; counts = counts; candidates = cs }) (backward_from S q a.low (length q + 1 - a.low) (backward_of a) counts cs)

-- What a search at a with the candidates cs finds in the end.
abbrev pub sought : Setup → List Place → Search → List ℕ → List Candidate → List Candidate
sought S q a counts cs = cond a.on (to_try (resumed S q a.scan counts cs)) cs

-- cs are as many candidates as the search has noted, and end in the last.
pub record Noted (a : Search) (cs : List Candidate) : Type 0 where
  pub many : length cs ≡ a.noted
  pub last_is : 0 < a.noted → get_or cs (length cs - 1) no_candidate ≡ candidate_of a.last

-- A search that may go on: no more candidates than entries read are noted, and none without a best place; the last noted is one of the entries read.
pub record Searches (m : ℕ) (q : List Place) (a : Search) (counts : List ℕ) : Type 0 where
  pub on : a.on ≡ true
  pub scan : Backs m q (rest_of a.scan counts)
  pub few : a.noted + a.scan.low ≤ length q
  pub none : a.scan.found ≡ 0 → a.noted ≡ 0
  pub last_read : 0 < a.noted → a.scan.low ≤ a.last.pos

-- A search that is over: the counts are those of the entries read.
pub record Ended (m : ℕ) (q : List Place) (a : Search) (counts : List ℕ) : Type 0 where
  pub low_in : a.scan.low ≤ length q
  pub counted : Counted m counts (drop a.scan.low q)
  pub last_read : 0 < a.noted → a.scan.low ≤ a.last.pos

-- How many turns a search has left at most.
abbrev pub turns : Search → ℕ
turns a = cond a.on (cond a.scan.done 1 (a.scan.low + 2)) 0

-- A search goes on from a to b, and finds the same in the end.
pub record NextCandidate (S : Setup) (q : List Place) (a b : Search) (counts counts' : List ℕ) : Type 0 where
  pub same : (cs : List Candidate) → Noted a cs → sought S q a counts cs ≡ sought S q b counts' (with_fresh b cs)
  pub noted : (cs : List Candidate) → Noted a cs → Noted b (with_fresh b cs)
  pub less : turns b < turns a
  pub next : b.on ≡ true → Searches (kmers S) q b counts'
  pub ended : b.on ≡ false → Ended (kmers S) q b counts'

-- All candidates of a window, in the order noted.
abbrev pub candidates_of : Setup → List Place → List Candidate
candidates_of S q = to_try (backward_from S q (length q) 1 backward_start (cleared S) [])

-- What a whole search answers; the counts are those of the entries read.
pub record SearchedAll (S : Setup) (q : List Place) (r : Searched) (counts : List ℕ) : Type 0 where
  pub many : length (candidates_of S q) ≡ r.noted
  pub low_in : r.low ≤ length q
  pub counted : Counted (kmers S) counts (drop r.low q)
  pub oldest_read : 0 < r.noted → r.low ≤ r.oldest
  pub oldest_is : 0 < r.noted → (get_or (candidates_of S q) (length (candidates_of S q) - 1) no_candidate).place ≡ r.oldest
  pub newest_is : 0 < r.noted → (get_or (candidates_of S q) 0 no_candidate).place ≡ r.newest

-- The whole search has found cs.
pub record ScansBackward (S : Setup) (q : List Place) (r : Searched) (counts : List ℕ) (cs : List Candidate) : Type 0 where
  pub all : cs ≡ candidates_of S q
  pub searched : SearchedAll S q r counts

-- ---- The candidates are tried.
-- The candidates of a slice are places of the window.
pub record HoldsCandidates (len : ℕ) (records : List ForwardPosition) : Type 0 where
  pub inside : (j : ℕ) → j < length records → (get_or records j no_position).pos < len

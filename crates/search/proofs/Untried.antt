-- For any float bits: where no candidate's forward scan is best at the newest place, nothing is found (`none_found`); and all candidates lie between the last noted and the first (`candidates_between`).
use Rattle.std.proofs.Common.{◌≡◌, refl, sym, subst, Bool, true, false, cond, List, [], ◌≢◌, ⊎_elim, ℕ, zero, suc, ◌+◌, ◌-◌, ◌≤◌, ◌<◌, max, eq-or-lt_of_le, arith, length, get_or, eqb, ltb, eqb→eq}
use borrow.Author.Tests.{eqb-false}
use Rattle.letters.specs.Place.{Place}
use Rattle.scans.specs.Setup.{Setup}
use Rattle.scans.specs.Counts.{cleared}
use Rattle.scans.specs.Scans.{none, at, Outcome, Forward, dust_forward, Candidate, no_candidate, with_best, try_from, tried, dust_backward}
use Rattle.search.specs.declared.candidates.Searched.{Searched}
use Rattle.search.specs.Terms.Search.{candidates_of, SearchedAll}
use Rattle.search.specs.Terms.Fails.{NoneEnds, FallsShort, TellsNone}
use Rattle.scans.proofs.Test.{by_test}
use Rattle.search.proofs.Noted.{Fall, scanned, candidates_fall}
use Rattle.search.proofs.Searching.{to_try_fit}
use Rattle.search.proofs.BackwardOutcome.{below_at}

module _ (S : Setup) (q : List Place) where
  abbrev FindsNone : Outcome → Type 0
  FindsNone o = o.find ≡ none

  module _ (cs : List Candidate) (fails : (i : ℕ) → i < length cs → (dust_forward S q (get_or cs i no_candidate).place (get_or cs i no_candidate).score).sums.found ≡ length q → ⊥) where
    none_tried : (i furthest : ℕ) (counts : List ℕ) → i ≤ length cs → FindsNone (try_from S q cs i furthest counts)
    unfolding try_from
    none_tried zero furthest counts l = refl
    none_tried (suc i) furthest counts l =
        let c : Candidate = get_or cs i no_candidate in
        let r : Forward = dust_forward S q c.place c.score in
        let skipped : Outcome = try_from S q cs i furthest counts in
        let later : Outcome = try_from S q cs i (max furthest r.sums.found) r.counts in
        let stopped : Outcome = record { find = none; counts = r.counts } in
        let success : Outcome = record { find = at c.place; counts = r.counts } in
        by_test FindsNone (ltb (c.place + 1) furthest) skipped (cond (eqb r.sums.found (length q)) success (cond S.approx stopped later))
        (λ _. none_tried i furthest counts (omega arith))
        (λ _. by_test FindsNone (eqb r.sums.found (length q)) success (cond S.approx stopped later)
        (λ t. absurd (fails i (omega arith) (eqb→eq r.sums.found (length q) t)))
        (λ _. by_test FindsNone S.approx stopped later (λ _. refl) (λ _. none_tried i (max furthest r.sums.found) r.counts (omega arith))))

  -- All candidates of the window's backward scan, in the order noted.
  abbrev cs : List Candidate
  cs = candidates_of S q

  cs_fall : Fall cs
  cs_fall = go (eqb (scanned S q).found 0) refl
    where
      go : (t : Bool) → eqb (scanned S q).found 0 ≡ t → Fall (cond t [] (with_best (scanned S q).best (scanned S q).found (scanned S q).candidates))
      go true e = record { falls = λ i j h l. absurd (let b : ⊥ = omega arith in b) }
      go false e =
          let d : (scanned S q).found ≢ 0 = eqb-false (scanned S q).found 0 e in
          candidates_fall S q ((scanned S q).found - 1) (let s : (scanned S q).found ≡ suc ((scanned S q).found - 1) = omega arith in s)

  candidates_between : (i : ℕ) → i < length cs → ((get_or cs (length cs - 1) no_candidate).place ≤ (get_or cs i no_candidate).place) × ((get_or cs i no_candidate).place ≤ (get_or cs 0 no_candidate).place)
  candidates_between i l = (
    ⊎_elim (λ (e : i ≡ length cs - 1). subst (λ (j : ℕ). (get_or cs j no_candidate).place ≤ (get_or cs i no_candidate).place) e (omega arith)) (λ (h : i < length cs - 1). omega (arith, cs_fall.falls i (length cs - 1) h (omega arith)))
        (eq-or-lt_of_le (let k : i ≤ length cs - 1 = omega arith in k)),
    ⊎_elim (λ (e : 0 ≡ i). subst (λ (j : ℕ). (get_or cs i no_candidate).place ≤ (get_or cs j no_candidate).place) (sym e) (omega arith)) (λ (h : 0 < i). omega (arith, cs_fall.falls 0 i h l))
        (eq-or-lt_of_le (let k : 0 ≤ i = omega arith in k)),
  )

  tries_none : FindsNone (try_from S q cs (length cs) 0 (scanned S q).counts) → FindsNone (tried S q (scanned S q))
  unfolding tried try_from
  tries_none h = go (eqb (scanned S q).found 0) (with_best (scanned S q).best (scanned S q).found (scanned S q).candidates) h
    where
      go : (e : Bool) (cs : List Candidate) → FindsNone (try_from S q (cond e [] cs) (length (cond e [] cs)) 0 (scanned S q).counts)
          → FindsNone (cond e (record { find = none; counts = (scanned S q).counts }) (try_from S q cs (length cs) 0 (scanned S q).counts))
      go true cs h = refl
      go false cs h = h

  -- No candidate, or none that ends at the newest place.
  none_found : (oldest newest : ℕ) → (0 < length cs → ((get_or cs (length cs - 1) no_candidate).place ≡ oldest) × ((get_or cs 0 no_candidate).place ≡ newest) × NoneEnds S q oldest newest)
      → (dust_backward S q).find ≡ none
  unfolding dust_backward
  none_found oldest newest h =
      tries_none
      (none_tried cs
      (λ i l. let k = h (omega arith) in let w = candidates_between i l in k.2.fails (get_or cs i no_candidate).place (get_or cs i no_candidate).score (omega (arith, w.0, k.0)) (omega (arith, w.1, k.1)))
      (length cs) 0 (scanned S q).counts (omega arith))

  -- ---- What the code asks and tells, for a search that has noted candidates or none.
  module _ (r : Searched) (before : List ℕ) (a : SearchedAll S q r before) where
    pub searched_within : 0 < length q → 0 < r.noted → (r.oldest ≤ r.newest) × (r.newest < length q)
    searched_within some k =
        let first = a.newest_is k in
        let last = a.oldest_is k in
        let n = a.many in
        (omega (arith, (candidates_between (length cs - 1) (omega arith)).1), omega (arith, below_at (length q) cs 0 (to_try_fit S q some).1 (omega arith)))

    pub tells_empty : (counts : List ℕ) → r.noted ≡ 0 → counts ≡ cleared S → TellsNone S q true counts
    tells_empty counts z clear = record { told = λ _. none_found 0 0 (λ k. absurd (let b : ⊥ = omega (arith, a.many) in b)); clear = clear }

    pub tells_short : (t : Bool) (counts counts' : List ℕ) → (r.noted ≡ 0 → ⊥) → FallsShort S q r.oldest r.newest t counts → counts' ≡ cleared S → TellsNone S q t counts'
    tells_short t counts counts' d k clear =
        let some : 0 < r.noted = let d' : r.noted ≢ 0 = d in omega arith in
        record { told = λ e. none_found r.oldest r.newest (λ _. (a.oldest_is some, a.newest_is some, k.told e)); clear = clear }

-- What the backward scan can answer, for any float bits: none, or a place whose forward scan was best at the newest entry, with that scan's counts. So a property of finds and counts that both have, its answer has.
use Rattle.std.proofs.Common.{◌≡◌, ℕ, zero, suc, ◌+◌, max, cond, List, [], length, get_or, eqb, ltb, eqb→eq, Float}
use Rattle.letters.specs.Place.{Place}
use Rattle.scans.specs.Setup.{Setup}
use Rattle.scans.specs.Counts.{cleared}
use Rattle.scans.specs.Scans.{Find, none, at, Outcome, Forward, dust_forward, Candidate, no_candidate, Backward, with_best, try_from, tried, backward_from, backward_start, dust_backward}
use Rattle.scans.proofs.Test.{by_test}

module _ (S : Setup) (q : List Place) (P : Find → List ℕ → Type 0) (p : (counts : List ℕ) → P none counts)
    (h : (j : ℕ) (m : Float) → (dust_forward S q j m).sums.found ≡ length q → P (at j) (dust_forward S q j m).counts) where
  abbrev Of : Outcome → Type 0
  Of o = P o.find o.counts

  try_facts : (cs : List Candidate) (i furthest : ℕ) (counts : List ℕ) → Of (try_from S q cs i furthest counts)
  unfolding try_from
  try_facts cs zero furthest counts = p counts
  try_facts cs (suc i) furthest counts =
      let c : Candidate = get_or cs i no_candidate in
      let r : Forward = dust_forward S q c.place c.score in
      let skipped : Outcome = try_from S q cs i furthest counts in
      let later : Outcome = try_from S q cs i (max furthest r.sums.found) r.counts in
      let stopped : Outcome = record { find = none; counts = r.counts } in
      let success : Outcome = record { find = at c.place; counts = r.counts } in
      by_test Of (ltb (c.place + 1) furthest) skipped (cond (eqb r.sums.found (length q)) success (cond S.approx stopped later))
      (λ _. try_facts cs i furthest counts)
      (λ _. by_test Of (eqb r.sums.found (length q)) success (cond S.approx stopped later)
      (λ t. h c.place c.score (eqb→eq r.sums.found (length q) t))
      (λ _. by_test Of S.approx stopped later (λ _. p r.counts) (λ _. try_facts cs i (max furthest r.sums.found) r.counts)))

  tried_facts : (b : Backward) → Of (tried S q b)
  unfolding tried
  tried_facts b =
      let cs : List Candidate = with_best b.best b.found b.candidates in
      by_test Of (eqb b.found 0) (record { find = none; counts = b.counts }) (try_from S q cs (length cs) 0 b.counts)
      (λ _. p b.counts) (λ _. try_facts cs (length cs) 0 b.counts)

  pub backward_facts : P (dust_backward S q).find (dust_backward S q).counts
  unfolding dust_backward
  backward_facts = tried_facts (backward_from S q (length q) 1 backward_start (cleared S) [])

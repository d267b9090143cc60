-- Scan counts are at most as many as the places that were counted, whatever the tables are.
use Rattle.std.proofs.Common.{◌≡◌, refl, cond, List, [], ◌∷◌, ℕ, zero, suc, ◌+◌, ◌-◌, ◌≤◌, max, arith, length, get_or, set, drop, replicate, length-drop, eqb, ltb, Float}
use lib.Ieee.{lt}
use Rattle.floats.specs.Arithmetic.{◌⊕◌, ◌⊖◌}
use Rattle.floats.specs.Binary64.{zero64}
use Rattle.letters.specs.Place.{Place, ambiguous, plain}
use Rattle.scans.specs.Setup.{Setup, f_at, kmers}
use Rattle.scans.specs.Counts.{raise, lower, cleared}
use Rattle.scans.specs.Scans.{none, at, Outcome, value, Forward, dust_forward, Candidate, second_value, BackwardSums, backward_start, is_dropped, backward_judged, noted, Backward, backward_from, no_candidate, with_best, try_from, tried, dust_backward}
use Rattle.scans.specs.Terms.Parts.{UpTo}
use Rattle.scans.proofs.Test.{by_test}
use Rattle.scans.proofs.Counting.{count_le, cleared_counted}
use Rattle.scans.proofs.Touched.{dust_forward_touched}

up_to_set : (counts : List ℕ) (x c n : ℕ) → UpTo n counts → c ≤ n → UpTo n (set counts x c)
up_to_set counts x c n u h = record { at_most = go counts x u.at_most }
  where
    go : (l : List ℕ) (x : ℕ) → ((y : ℕ) → get_or l y 0 ≤ n) → (y : ℕ) → get_or (set l x c) y 0 ≤ n
    go [] x a y = a y
    go (b ∷ l) zero a zero = h
    go (b ∷ l) zero a (suc y) = a (suc y)
    go (b ∷ l) (suc x) a zero = a zero
    go (b ∷ l) (suc x) a (suc y) = go l x (λ z. a (suc z)) y

pub up_to_cleared : (counts : List ℕ) (m n : ℕ) → counts ≡ replicate m 0 → UpTo n counts
up_to_cleared counts m n e = rw e (record { at_most = λ x. omega (arith, (cleared_counted m).counted x) })

pub up_to_more : {counts : List ℕ} {n m : ℕ} → n ≤ m → UpTo n counts → UpTo m counts
up_to_more h u = record { at_most = λ x. omega (arith, u.at_most x) }

pub up_to_raise : (counts : List ℕ) (e : Place) (n : ℕ) → UpTo n counts → UpTo (n + 1) (raise counts e)
up_to_raise counts ambiguous n u = up_to_more (omega arith) u
up_to_raise counts (plain x) n u = up_to_set counts x (get_or counts x 0 + 1) (n + 1) (up_to_more (omega arith) u) (omega (arith, u.at_most x))

pub up_to_lower : (counts : List ℕ) (e : Place) (n : ℕ) → UpTo n counts → UpTo n (lower counts e)
up_to_lower counts ambiguous n u = u
up_to_lower counts (plain x) n u = up_to_set counts x (get_or counts x 0 - 1) n u (omega (arith, u.at_most x))

-- ---- The scans over a window q.
module _ (S : Setup) (q : List Place) where
  forward_up_to : (j : ℕ) (m : Float) → UpTo (length q) (dust_forward S q j m).counts
  forward_up_to j m =
      let t = dust_forward_touched S q j m in
      record { at_most = λ x. omega (arith, t.at_most x, count_le x (drop j q), length-drop j q) }

  backward_up_to : (i n l : ℕ) (a : BackwardSums) (counts : List ℕ) (cs : List Candidate) → UpTo n counts → UpTo (n + i) (backward_from S q i l a counts cs).counts
  unfolding backward_from
  backward_up_to zero n l a counts cs u = up_to_more (omega arith) u
  backward_up_to (suc i) n l a counts cs u =
      let e : Place = get_or q i ambiguous in
      let counts' : List ℕ = raise counts e in
      let s : Float = a.s ⊕ (value S counts e ⊖ S.score_threshold) in
      let sl : Float = s ⊖ f_at S l in
      let sw : Float = a.sw ⊕ (second_value S q counts' e ⊖ S.score_threshold) in
      let a' : BackwardSums = backward_judged a s sw sl i in
      let cs' : List Candidate = noted a sl i cs in
      let dropped : Backward = record { best = a'.best; found = a'.found; counts = counts'; candidates = cs' } in
      let later : Backward = backward_from S q i (l + 1) a' counts' cs' in
      let u' : UpTo (n + 1) counts' = up_to_raise counts e n u in
      let r = backward_up_to i (n + 1) (l + 1) a' counts' cs' u' in
      by_test (λ (b : Backward). UpTo (n + suc i) b.counts) (lt (sw ⊖ f_at S l) zero64)
      (record { best = a.best; found = a.found; counts = counts'; candidates = cs }) (cond (is_dropped S a sl) dropped later)
      (λ _. up_to_more (omega arith) u')
      (λ _. by_test (λ (b : Backward). UpTo (n + suc i) b.counts) (is_dropped S a sl) dropped later (λ _. up_to_more (omega arith) u') (λ _. up_to_more (omega arith) r))

  abbrev Few : Outcome → Type 0
  Few o = UpTo (length q) o.counts

  try_up_to : (cs : List Candidate) (i furthest : ℕ) (counts : List ℕ) → UpTo (length q) counts → UpTo (length q) (try_from S q cs i furthest counts).counts
  unfolding try_from
  try_up_to cs zero furthest counts u = u
  try_up_to cs (suc i) furthest counts u =
      let c : Candidate = get_or cs i no_candidate in
      let r : Forward = dust_forward S q c.place c.score in
      let p : UpTo (length q) r.counts = forward_up_to c.place c.score in
      let found : Outcome = record { find = at c.place; counts = r.counts } in
      let one : Outcome = record { find = none; counts = r.counts } in
      let later : Outcome = try_from S q cs i (max furthest r.sums.found) r.counts in
      by_test Few (ltb (c.place + 1) furthest) (try_from S q cs i furthest counts) (cond (eqb r.sums.found (length q)) found (cond S.approx one later))
      (λ _. try_up_to cs i furthest counts u)
      (λ _. by_test Few (eqb r.sums.found (length q)) found (cond S.approx one later)
      (λ _. p)
      (λ _. by_test Few S.approx one later (λ _. p) (λ _. try_up_to cs i (max furthest r.sums.found) r.counts p)))

  pub dust_up_to : UpTo (length q) (dust_backward S q).counts
  unfolding dust_backward tried
  dust_up_to =
      let b : Backward = backward_from S q (length q) 1 backward_start (cleared S) [] in
      let cs : List Candidate = with_best b.best b.found b.candidates in
      let u : UpTo (length q) b.counts = up_to_more (omega arith) (backward_up_to (length q) 0 1 backward_start (cleared S) [] (up_to_cleared (cleared S) (kmers S) 0 refl)) in
      by_test Few (eqb b.found 0) (record { find = none; counts = b.counts }) (try_from S q cs (length cs) 0 b.counts)
      (λ _. u)
      (λ _. try_up_to cs (length cs) 0 b.counts u)

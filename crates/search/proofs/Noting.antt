-- The candidates of a backward scan over n entries, for any float bits: at most n with the best place among them, and each a place of the window.
use Rattle.std.proofs.Common.{◌≡◌, refl, sym, ap, subst, ℕ, zero, suc, ◌+◌, ◌-◌, ◌≤◌, ◌<◌, arith, Bool, true, false, cond, ◌&&◌, ◌||◌, List, [], ◌∷◌, ◌++◌, length, get_or, length-append, eqb, ltb, Float}
use lib.Ieee.{binary64, add, sub, neg, lt, le, of_bits, of_fields}
use Rattle.floats.specs.Binary64.{zero64}
use Rattle.letters.specs.Place.{Place, ambiguous}
use Rattle.scans.specs.Setup.{Setup, f_at}
use Rattle.scans.specs.Counts.{raise, cleared}
use Rattle.scans.specs.Scans.{value, Candidate, candidate, no_candidate, second_value, BackwardSums, backward_start, is_noted, noted, is_dropped, backward_judged, Backward, backward_from, with_best}
use Rattle.scans.proofs.Test.{by_test}

abbrev pub AllBelow : ℕ → List Candidate → Type 0
AllBelow n [] = Unit {0}
AllBelow n (c ∷ cs) = (c.place < n) × AllBelow n cs

all_snoc : (n : ℕ) (cs : List Candidate) (c : Candidate) → AllBelow n cs → c.place < n → AllBelow n (cs ++ c ∷ [])
all_snoc n [] c h l = (l, tt)
all_snoc n (d ∷ cs) c h l = (h.0, all_snoc n cs c h.1 l)

-- Noted are fewer than the entries, since the first entry read is never noted.
pub record NotedFit (n : ℕ) (b : Backward) : Type 0 where
  pub few : length b.candidates + 1 ≤ n
  pub all_below : AllBelow n b.candidates
  pub found_in : b.found ≤ n

noted_few : (a : BackwardSums) (sl : Float) (i : ℕ) (cs : List Candidate) → length (noted a sl i cs) ≤ length cs + 1
noted_few a sl i cs =
    by_test (λ (l : List Candidate). length l ≤ length cs + 1) (is_noted a sl) (cs ++ candidate (i + 1) a.best ∷ []) cs
    (λ _. omega (arith, length-append cs (candidate (i + 1) a.best ∷ []))) (λ _. omega arith)

noted_below : (n : ℕ) (a : BackwardSums) (sl : Float) (i : ℕ) (cs : List Candidate) → AllBelow n cs → i + 1 < n → AllBelow n (noted a sl i cs)
noted_below n a sl i cs h l =
    by_test (λ (z : List Candidate). AllBelow n z) (is_noted a sl) (cs ++ candidate (i + 1) a.best ∷ []) cs (λ _. all_snoc n cs (candidate (i + 1) a.best) h l) (λ _. h)

judged_in : (n : ℕ) (a : BackwardSums) (s sw sl : Float) (i : ℕ) → a.found ≤ n → i < n → (backward_judged a s sw sl i).found ≤ n
judged_in n a s sw sl i h l =
    by_test (λ (z : BackwardSums). z.found ≤ n) (le a.best sl) (record { s = s; sw = sw; previous = sl; best = sl; found = i + 1 })
    (record { s = s; sw = sw; previous = sl; best = a.best; found = a.found })
    (λ _. omega arith) (λ _. h)

-- The last score is -1.0 at first, which is no peak above 0.
pub first_not_noted : (sl : Float) → is_noted backward_start sl ≡ false
unfolding lt neg of_bits of_fields
first_not_noted sl = go (lt sl backward_start.previous)
  where
    go : (t : Bool) → t && false ≡ false
    go true = refl
    go false = refl

module _ (S : Setup) (q : List Place) (n : ℕ) where
  -- How a scan goes on after its first entry, with i entries left.
  abbrev LaterFit : ℕ → Type 0
  LaterFit i = (l : ℕ) (a : BackwardSums) (counts : List ℕ) (cs : List Candidate) → length cs + (i + 1) ≤ n → AllBelow n cs → a.found ≤ n → NotedFit n (backward_from S q i l a counts cs)

  entry_scanned : (i l : ℕ) (a : BackwardSums) (counts : List ℕ) (cs : List Candidate) → i < n → length cs + 1 ≤ n → AllBelow n cs → a.found ≤ n
      → ((sl : Float) → (length (noted a sl i cs) + (i + 1) ≤ n) × AllBelow n (noted a sl i cs)) → LaterFit i → NotedFit n (backward_from S q (suc i) l a counts cs)
  unfolding backward_from
  entry_scanned i l a counts cs hi hc ha hf hn later =
      let e : Place = get_or q i ambiguous in
      let counts' : List ℕ = raise counts e in
      let s : Float = add binary64 a.s (sub binary64 (value S counts e) S.score_threshold) in
      let sl : Float = sub binary64 s (f_at S l) in
      let sw : Float = add binary64 a.sw (sub binary64 (second_value S q counts' e) S.score_threshold) in
      let a' : BackwardSums = backward_judged a s sw sl i in
      let cs' : List Candidate = noted a sl i cs in
      let ends : Backward = record { best = a.best; found = a.found; counts = counts'; candidates = cs } in
      let dropped : Backward = record { best = a'.best; found = a'.found; counts = counts'; candidates = cs' } in
      let rest : Backward = backward_from S q i (l + 1) a' counts' cs' in
      let few = (hn sl).0 in
      let hf' = judged_in n a s sw sl i hf hi in
      by_test (λ (b : Backward). NotedFit n b) (lt (sub binary64 sw (f_at S l)) zero64) ends (cond (is_dropped S a sl) dropped rest)
      (λ _. record { few = hc; all_below = ha; found_in = hf })
      (λ _. by_test (λ (b : Backward). NotedFit n b) (is_dropped S a sl) dropped rest
      (λ _. record { few = omega arith; all_below = (hn sl).1; found_in = hf' })
      (λ _. later (l + 1) a' counts' cs' few (hn sl).1 hf'))

  later_scanned : (i : ℕ) → LaterFit i
  unfolding backward_from
  later_scanned zero l a counts cs hc ha hf = record { few = hc; all_below = ha; found_in = hf }
  later_scanned (suc i) l a counts cs hc ha hf =
      entry_scanned i l a counts cs (omega arith) (omega arith) ha hf (λ sl. (omega (arith, noted_few a sl i cs), noted_below n a sl i cs ha (omega arith))) (later_scanned i)

first_scanned : (S : Setup) (q : List Place) (i : ℕ) → NotedFit (suc i) (backward_from S q (suc i) 1 backward_start (cleared S) [])
first_scanned S q i =
    entry_scanned S q (suc i) i 1 backward_start (cleared S) [] (omega arith) (omega arith) tt (omega arith)
    (λ sl.
    let none : noted backward_start sl i [] ≡ [] = ap (λ (t : Bool). cond t (candidate (i + 1) backward_start.best ∷ []) []) (first_not_noted sl) in
    (omega (arith, ap length none), subst (λ (z : List Candidate). AllBelow (suc i) z) (sym none) tt))
    (later_scanned S q (suc i) i)

pub backward_scanned : (S : Setup) (q : List Place) → 0 < length q → NotedFit (length q) (backward_from S q (length q) 1 backward_start (cleared S) [])
backward_scanned S q some = go (length q) some
  where
    go : (n : ℕ) → 0 < n → NotedFit n (backward_from S q n 1 backward_start (cleared S) [])
    go zero l = absurd (omega arith)
    go (suc i) l = first_scanned S q i

-- With the best place.
pub candidates_fit : (n : ℕ) (b : Backward) → NotedFit n b → (length (with_best b.best b.found b.candidates) ≤ n) × AllBelow n (with_best b.best b.found b.candidates)
candidates_fit n b h =
    let cs : List Candidate = b.candidates in
    let c : Candidate = candidate (b.found - 1) b.best in
    by_test (λ (l : List Candidate). (length l ≤ n) × AllBelow n l) (eqb (length cs) 0 || ltb b.found ((get_or cs (length cs - 1) no_candidate).place + 1)) (cs ++ c ∷ []) cs
    (λ _. (omega (arith, length-append cs (c ∷ []), h.few), all_snoc n cs c h.all_below (omega (arith, h.few, h.found_in))))
    (λ _. (omega (arith, h.few), h.all_below))

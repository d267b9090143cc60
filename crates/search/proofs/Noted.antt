-- 'The best place joins the candidates if it is older than all noted': each place noted is older than all noted before it, so that the last noted, which the definition asks, is the oldest.
use Rattle.std.proofs.Common.{◌≡◌, refl, subst, ℕ, zero, suc, ◌+◌, ◌-◌, ◌<◌, arith, Bool, true, false, cond, ◌||◌, List, [], ◌∷◌, ◌++◌, length, get_or, eqb, ltb, Float}
use borrow.Author.Tests.{ltb-true, ltb-false, lt-ltb, ne_eqb}
use lib.Ieee.{lt}
use Rattle.floats.specs.Arithmetic.{◌⊕◌, ◌⊖◌}
use Rattle.floats.specs.Binary64.{zero64}
use Rattle.letters.specs.Place.{Place, ambiguous}
use Rattle.scans.specs.Setup.{Setup, f_at}
use Rattle.scans.specs.Counts.{raise, cleared}
use Rattle.scans.specs.Scans.{value, Candidate, candidate, no_candidate, second_value, BackwardSums, backward_start, is_noted, noted, is_dropped, backward_judged, Backward, backward_from, with_best}
use Rattle.scans.proofs.Test.{by_test}

-- The place p is older than all noted.
pub record OlderThanAll (p : ℕ) (cs : List Candidate) : Type 0 where
  pub older : (i : ℕ) → i < length cs → p < (get_or cs i no_candidate).place

-- Each place noted is older than all noted before it.
pub record Fall (cs : List Candidate) : Type 0 where
  pub falls : (i j : ℕ) → i < j → j < length cs → (get_or cs j no_candidate).place < (get_or cs i no_candidate).place

-- ---- One place more.
every : (P : ℕ → Type 0) (cs : List Candidate) (c : Candidate) → ((i : ℕ) → i < length cs → P (get_or cs i no_candidate).place) → P c.place
    → (i : ℕ) → i < length (cs ++ c ∷ []) → P (get_or (cs ++ c ∷ []) i no_candidate).place
every P [] c h p zero l = p
every P [] c h p (suc i) l = absurd (omega arith)
every P (d ∷ cs) c h p zero l = h zero (omega arith)
every P (d ∷ cs) c h p (suc i) l = every P cs c (λ j m. h (suc j) (omega arith)) p i (omega arith)

later_fall : {d : Candidate} {cs : List Candidate} → Fall (d ∷ cs) → Fall cs
later_fall f = record { falls = λ i j h l. f.falls (suc i) (suc j) (omega arith) (omega arith) }

fall_more : (cs : List Candidate) (c : Candidate) → Fall cs → OlderThanAll c.place cs
    → (i j : ℕ) → i < j → j < length (cs ++ c ∷ []) → (get_or (cs ++ c ∷ []) j no_candidate).place < (get_or (cs ++ c ∷ []) i no_candidate).place
fall_more [] c f o i j h l = absurd (omega arith)
fall_more (d ∷ cs) c f o i zero h l = absurd (omega arith)
fall_more (d ∷ cs) c f o zero (suc j) h l =
    every (λ (x : ℕ). x < d.place) cs c (λ k m. f.falls zero (suc k) (omega arith) (omega arith)) (o.older zero (omega arith)) j (omega arith)
fall_more (d ∷ cs) c f o (suc i) (suc j) h l =
    fall_more cs c (later_fall f) (record { older = λ k m. o.older (suc k) (omega arith) }) i j (omega arith) (omega arith)

-- ---- The scan. With i entries left, all that is noted is newer than entry i.
record Falling (i : ℕ) (cs : List Candidate) : Type 0 where
  fall : Fall cs
  newer : OlderThanAll i cs

noted_falling : (a : BackwardSums) (sl : Float) (i : ℕ) (cs : List Candidate) → Falling (suc i) cs → Falling i (noted a sl i cs)
noted_falling a sl i cs f =
    let c : Candidate = candidate (i + 1) a.best in
    let o : OlderThanAll (i + 1) cs = record { older = λ j m. omega (arith, f.newer.older j m) } in
    by_test (λ (l : List Candidate). Falling i l) (is_noted a sl) (cs ++ c ∷ []) cs
    (λ _. record {
      fall = record { falls = fall_more cs c f.fall o };
      newer = record { older = every (λ (x : ℕ). i < x) cs c (λ j m. omega (arith, o.older j m)) (omega arith) };
    })
    (λ _. record { fall = f.fall; newer = record { older = λ j m. omega (arith, o.older j m) } })

from_fall : (S : Setup) (q : List Place) (i l : ℕ) (a : BackwardSums) (counts : List ℕ) (cs : List Candidate) → Falling i cs → Fall (backward_from S q i l a counts cs).candidates
unfolding backward_from
from_fall S q zero l a counts cs f = f.fall
from_fall S q (suc i) l a counts cs f =
    let e : Place = get_or q i ambiguous in
    let counts' : List ℕ = raise counts e in
    let s : Float = a.s ⊕ (value S counts e ⊖ S.score_threshold) in
    let sl : Float = s ⊖ f_at S l in
    let sw : Float = a.sw ⊕ (second_value S q counts' e ⊖ S.score_threshold) in
    let a' : BackwardSums = backward_judged a s sw sl i in
    let cs' : List Candidate = noted a sl i cs in
    let ends : Backward = record { best = a.best; found = a.found; counts = counts'; candidates = cs } in
    let dropped : Backward = record { best = a'.best; found = a'.found; counts = counts'; candidates = cs' } in
    let rest : Backward = backward_from S q i (l + 1) a' counts' cs' in
    let f' : Falling i cs' = noted_falling a sl i cs f in
    by_test (λ (b : Backward). Fall b.candidates) (lt (sw ⊖ f_at S l) zero64) ends (cond (is_dropped S a sl) dropped rest) (λ _. f.fall)
    (λ _. by_test (λ (b : Backward). Fall b.candidates) (is_dropped S a sl) dropped rest (λ _. f'.fall) (λ _. from_fall S q i (l + 1) a' counts' cs' f'))

-- ---- A window's backward scan: each place that it notes is older than all noted before.
abbrev pub scanned : Setup → List Place → Backward
scanned S q = backward_from S q (length q) 1 backward_start (cleared S) []

pub noted_fall : (S : Setup) (q : List Place) → Fall (scanned S q).candidates
noted_fall S q =
    from_fall S q (length q) 1 backward_start (cleared S) []
    (record { fall = record { falls = λ i j h l. absurd (omega arith) }; newer = record { older = λ i l. absurd (omega arith) } })

-- Where places fall, one that is older than the last of them is older than all.
older_than_last : (p : ℕ) (cs : List Candidate) → Fall cs → p < (get_or cs (length cs - 1) no_candidate).place → OlderThanAll p cs
older_than_last p cs f h = record { older = λ i l. go i l (ltb i (length cs - 1)) refl }
  where
    go : (i : ℕ) → i < length cs → (t : Bool) → ltb i (length cs - 1) ≡ t → p < (get_or cs i no_candidate).place
    go i l true e = let m = ltb-true i (length cs - 1) e in omega (arith, f.falls i (length cs - 1) m (omega arith))
    go i l false e = let m = ltb-false i (length cs - 1) e in let z : length cs - 1 ≡ i = omega arith in subst (λ (j : ℕ). p < (get_or cs j no_candidate).place) z h

-- ---- There is a best place, p: it joins the candidates if it is older than all noted, and only then.
abbrev is_older : ℕ → List Candidate → Bool
is_older p cs = eqb (length cs) 0 || ltb (suc p) ((get_or cs (length cs - 1) no_candidate).place + 1)

older_told : (p : ℕ) (cs : List Candidate) → OlderThanAll p cs → is_older p cs ≡ true
older_told p [] o = refl
older_told p (c ∷ cs) o =
    let n = length (c ∷ cs) in
    rw (ne_eqb n 0 (λ z. omega arith)) (lt-ltb (suc p) ((get_or (c ∷ cs) (n - 1) no_candidate).place + 1) (omega (arith, o.older (n - 1) (omega arith))))

told_older : (p : ℕ) (cs : List Candidate) → Fall cs → is_older p cs ≡ true → OlderThanAll p cs
told_older p [] f t = record { older = λ i l. absurd (omega arith) }
told_older p (c ∷ cs) f t =
    let n = length (c ∷ cs) in
    older_than_last p (c ∷ cs) f (omega (arith, ltb-true (suc p) ((get_or (c ∷ cs) (n - 1) no_candidate).place + 1) (rw (ne_eqb n 0 (λ z. omega arith)) at t)))

module _ (S : Setup) (q : List Place) (p : ℕ) (best : (scanned S q).found ≡ suc p) where
  abbrev b : Backward
  b = scanned S q

  abbrev cs : List Candidate
  cs = b.candidates

  pub best_joins : OlderThanAll p cs → with_best b.best b.found cs ≡ cs ++ candidate p b.best ∷ []
  best_joins o = let z : suc p - 1 ≡ p = omega arith in rw (best, older_told p cs o, z)

  pub best_stays_out : (OlderThanAll p cs → ⊥) → with_best b.best b.found cs ≡ cs
  best_stays_out n = rw best (go (is_older p cs) refl)
    where
      go : (t : Bool) → is_older p cs ≡ t → cond t (cs ++ candidate (suc p - 1) b.best ∷ []) cs ≡ cs
      go true e = absurd (n (told_older p cs (noted_fall S q) e))
      go false e = refl

  -- With the best place the candidates fall too: the last, which is tried first, is the oldest.
  pub candidates_fall : Fall (with_best b.best b.found cs)
  candidates_fall = rw best (go (is_older p cs) refl)
    where
      go : (t : Bool) → is_older p cs ≡ t → Fall (cond t (cs ++ candidate (suc p - 1) b.best ∷ []) cs)
      go true e =
          let o = told_older p cs (noted_fall S q) e in
          record { falls = fall_more cs (candidate (suc p - 1) b.best) (noted_fall S q) (record { older = λ i l. omega (arith, o.older i l) }) }
      go false e = noted_fall S q

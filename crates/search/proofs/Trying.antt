-- The candidates tried one after the other from cleared counts, a turn at a time.
use Rattle.std.proofs.Common.{◌≡◌, refl, sym, ap, ◌∙◌, subst, true, false, cond, List, ℕ, suc, ◌+◌, ◌<◌, ◌≤◌, max, add-one, arith, length, get_or, drop, eqb, Float}
use borrow.Author.Tests.{lt-ltb, le-ltb, eq-eqb, ne_eqb}
use Rattle.letters.specs.Place.{Place}
use Rattle.scans.specs.declared.forward.ForwardState.{ForwardState}
use Rattle.scans.specs.declared.ForwardPosition.{ForwardPosition}
use Rattle.search.specs.declared.Carry.{Carry}
use Rattle.search.specs.declared.Scanned.{Scanned}
use Rattle.scans.specs.Setup.{Setup}
use Rattle.scans.specs.Counts.{cleared}
use Rattle.scans.specs.Scans.{none, at, Outcome, ForwardSums, Candidate, no_candidate, dust_forward, try_from}
use Rattle.scans.specs.Terms.Parts.{Finds}
use Rattle.search.specs.Terms.Search.{candidate_of}
use Rattle.search.specs.Terms.Carry.{begun_carry, Carried, Answers}
use Rattle.scans.specs.Terms.Counted.{Touched}
use Rattle.scans.proofs.Touched.{dust_forward_touched}
use Rattle.search.proofs.CarriedScan.{found_carried, uncertified}

-- No find.
pub answers_none : (S : Setup) (q : List Place) (o : Outcome) (r : Scanned) (counts : List ℕ) → o.find ≡ none → (r.found ≡ 0) × (r.carry.on ≡ false) → counts ≡ cleared S → Answers S q o r counts
answers_none S q o r counts n z clear =
    record {
      settles = record { find_is = rw (z.0, n); counts_are = rw n clear };
      begins = λ j e. absurd (let b : ⊥ = omega (arith, z.0) in b);
      ends = λ _. z.1;
    }

-- A forward scan touches the counts from the candidate's place on.
pub tried_touched : (S : Setup) (q : List Place) (place : ℕ) (score : Float) (st : ForwardState) (counts : List ℕ) → Finds (dust_forward S q place score) st counts → Touched counts (drop place q)
tried_touched S q place score st counts k = rw k.counts_are (dust_forward_touched S q place score)

-- ---- With `left` of the n candidates left to try, from cleared counts: what is left of the trial is the whole trial.
pub record Trying (S : Setup) (q : List Place) (cs : List Candidate) (n left furthest : ℕ) (counts : List ℕ) : Type 0 where
  pub clear : counts ≡ cleared S
  pub rest : (before : List ℕ) → (now : List ℕ) × (try_from S q cs n 0 before ≡ try_from S q cs left furthest now)

module _ (S : Setup) (q : List Place) (cs : List Candidate) (n : ℕ) where
  abbrev whole : List ℕ → Outcome
  whole before = try_from S q cs n 0 before

  pub trying_start : (counts : List ℕ) → counts ≡ cleared S → Trying S q cs n n 0 counts
  trying_start counts clear = record { clear = clear; rest = λ before. (before, refl) }

  pub trying_end : (left furthest : ℕ) (counts : List ℕ) → Trying S q cs n left furthest counts → left ≤ 0 → (r : Scanned) → (r.found ≡ 0) × (r.carry.on ≡ false) → (before : List ℕ) → Answers S q (whole before) r counts
  unfolding try_from
  trying_end left furthest counts t h r off before =
      let l : left ≡ 0 = omega arith in
      answers_none S q (whole before) r counts (rw ((t.rest before).1, l)) off t.clear

  -- The next candidate, the i-th, is c.
  module _ (left i furthest : ℕ) (counts : List ℕ) (t : Trying S q cs n left furthest counts) (m : left ≡ suc i) (c : ForwardPosition) (here : get_or cs i no_candidate ≡ candidate_of c) where
    abbrev place : ℕ
    place = c.pos

    next : (before : List ℕ) → whole before ≡ try_from S q cs (suc i) furthest (t.rest before).0
    next before = (t.rest before).1 ∙ ap (λ (x : ℕ). try_from S q cs x furthest (t.rest before).0) m

    pub trying_skip : place + 1 < furthest → Trying S q cs n i furthest counts
    unfolding try_from
    trying_skip h = record { clear = t.clear; rest = λ before. ((t.rest before).0, next before ∙ rw (here, lt-ltb (place + 1) furthest h)) }

    module _ (h : furthest ≤ place + 1) (st : ForwardState) (counts' : List ℕ) (k : Finds (dust_forward S q place c.max_score) st counts') where
      found_is : st.found ≡ (dust_forward S q place c.max_score).sums.found
      found_is = ap (λ (z : ForwardSums). z.found) k.sums_are

      tried_here : (before : List ℕ) → whole before
          ≡ cond (eqb st.found (length q)) (record { find = at place; counts = counts' })
          (cond S.approx (record { find = none; counts = counts' }) (try_from S q cs i (max furthest st.found) counts'))
      unfolding try_from
      tried_here before = next before ∙ rw (here, le-ltb (place + 1) furthest h, ← found_is, ← k.counts_are)

      pub trying_found : 0 < length q → st.found ≡ length q → (carry : Carry) → carry ≡ begun_carry st.s st.best → (before : List ℕ) → Answers S q (whole before) (record { found = place + 1; carry = carry }) counts'
      trying_found entries e carry y before =
          let sums = found_carried S q place c.max_score entries (sym found_is ∙ e) carry (ap (λ (z : Carry). z.s) y ∙ ap (λ (z : ForwardSums). z.s) k.sums_are) (ap (λ (z : Carry). z.best) y ∙ ap (λ (z : ForwardSums). z.best) k.sums_are) in
          let carried : Carried S q place carry = uncertified sums (ap (λ (z : Carry). z.certificate) y) in
          let is : whole before ≡ record { find = at place; counts = counts' } = tried_here before ∙ rw (eq-eqb st.found (length q) e) in
          rw is
          (record {
            settles = record { find_is = rw (add-one place); counts_are = refl };
            begins = λ j z.
                let p : place ≡ j = omega arith in
                (ap (λ (z : Carry). z.on) y, subst (λ (x : ℕ). Carried S q x carry) p carried);
            ends = λ z. absurd (let b : ⊥ = omega arith in b);
          })

      module _ (e : st.found ≡ length q → ⊥) (counts'' : List ℕ) (clear : counts'' ≡ cleared S) where
        pub trying_approx : S.approx ≡ true → (r : Scanned) → (r.found ≡ 0) × (r.carry.on ≡ false) → (before : List ℕ) → Answers S q (whole before) r counts''
        trying_approx x r off before = answers_none S q (whole before) r counts'' (rw (tried_here before, ne_eqb st.found (length q) e, x)) off clear

        pub trying_on : S.approx ≡ false → (f : ℕ) → f ≡ max furthest st.found → Trying S q cs n i f counts''
        trying_on x f p = record { clear = clear; rest = λ before. (counts', tried_here before ∙ rw (ne_eqb st.found (length q) e, x, p)) }

-- Starts read from the newest place back and compared with a lead, one place more at a time; what the whole reading says of it (`leads_at`).
use Rattle.std.proofs.Common.{◌≡◌, ap, ◌∙◌, ⊎_elim, ℕ, suc, ◌+◌, ◌*◌, ◌-◌, ◌≤◌, ◌<◌, eq-or-lt_of_le, arith, List, length, take, drop}
use Rattle.letters.specs.Place.{Place}
use Rattle.deep.specs.declared.Scale.{Scale}
use Rattle.deep.specs.declared.Cell.{Cell}
use Rattle.deep.specs.declared.Lead.{Lead}
use Rattle.deep.specs.Scores.{gain, loss, mu}
use Rattle.deep.specs.Terms.Blocks.{Narrow, worth}
use Rattle.deep.specs.Terms.Cells.{cell, Ordered}
use Rattle.deep.specs.Terms.Told.{LowTo}
use Rattle.deep.specs.Terms.Found.{Gains, Middling, OlderBelow, LeadsAt, EndsBest}
use Rattle.deep.proofs.Starts.{Newest, gain_from, worth_at}
use Rattle.deep.proofs.Falling.{Taken}

pub gains_of : (s : Scale) (q : List Place) (l g : ℕ) → Newest s q l g → Gains s q l g
gains_of s q l g n = record { gain_is = n.gain_is; small = n.small }

module _ (s : Scale) (n : Narrow s) (lo : ℕ) (q : List Place) (cells : List Cell) (o : Ordered lo q 0 (length q) cells) where
  pub gains_on : (l g a : ℕ) → Gains s q l g → a + suc l ≡ length q → Gains s q (suc l) (g + worth s (cell cells (lo + a)))
  gains_on l g a G e =
      let here : g + worth s (cell cells (lo + a)) ≡ gain s.ln.now (drop a q) = omega (arith, gain_from s.ln.now q a (omega arith), worth_at s n lo q cells o a (omega arith), G.gain_is (suc a) (omega arith)) in
      record {
        gain_is = λ b f. let z : a ≡ b = omega arith in here ∙ ap (λ (i : ℕ). gain s.ln.now (drop i q)) z;
        small = omega (arith, G.small, n.ln_small (cell cells (lo + a)).count);
      }

module _ (s : Scale) (q : List Place) (v : Lead) where
  abbrev L : ℕ → ℕ
  L l = loss s.threshold s.f.now l

  abbrev G : ℕ → ℕ
  G a = gain s.ln.now (drop a q)

  -- The highest of the starts of more than `low` places and up to r.
  pub record Highest (r g l : ℕ) : Type 0 where
    pub top : (a k : ℕ) → a + k ≡ length q → v.low < k → k ≤ r → G a + l ≤ g + L k
    pub gain_small : g ≤ r * 137438953472
    pub loss_small : l ≤ 1152921504606846976

  pub highest_none : Highest v.low 0 1152921504606846976
  highest_none = record { top = λ a k e f t. absurd (let z : ⊥ = omega arith in z); gain_small = omega arith; loss_small = omega arith }

  pub middling_none : Middling s q v v.low
  middling_none = record { above = λ a k e f t. absurd (let z : ⊥ = omega arith in z); steady = λ a k i l ea ei f t u. absurd (let z : ⊥ = omega arith in z) }

  module _ (r g : ℕ) (N : Gains s q (suc r) g) where
    same : (a : ℕ) → a + suc r ≡ length q → g ≡ G a
    same a e = N.gain_is a e

    at_last : (a k : ℕ) → a + k ≡ length q → k ≡ suc r → (g ≡ G a) × (L k ≡ L (suc r))
    at_last a k e z = (same a (omega arith), ap L z)

    pub highest_kept : (bg bl : ℕ) → Highest r bg bl → g + bl ≤ bg + L (suc r) → Highest (suc r) bg bl
    highest_kept bg bl H t =
        record {
          top = λ a k e f u. ⊎_elim (λ (z : k ≡ suc r). let x = at_last a k e z in omega (arith, x.0, x.1, t)) (λ (z : k < suc r). H.top a k e f (omega arith)) (eq-or-lt_of_le u);
          gain_small = omega (arith, H.gain_small);
          loss_small = H.loss_small;
        }

    pub highest_raised : (bg bl : ℕ) → Highest r bg bl → bg + L (suc r) < g + bl → L (suc r) ≤ 1152921504606846976 → Highest (suc r) g (L (suc r))
    highest_raised bg bl H t small =
        record {
          top = λ a k e f u. ⊎_elim (λ (z : k ≡ suc r). let x = at_last a k e z in omega (arith, x.0, x.1)) (λ (z : k < suc r). omega (arith, H.top a k e f (omega arith), t)) (eq-or-lt_of_le u);
          gain_small = N.small;
          loss_small = small;
        }

    pub middling_on : (bg bl : ℕ) → Highest r bg bl → Middling s q v r → g + mu + L v.size ≤ v.gain + L (suc r) → bg + mu + L (suc r) ≤ g + v.limit + bl → Middling s q v (suc r)
    middling_on bg bl H M above steady =
        record {
          above = λ a k e f u. ⊎_elim (λ (z : k ≡ suc r). let x = at_last a k e z in omega (arith, x.0, x.1, above)) (λ (z : k < suc r). M.above a k e f (omega arith)) (eq-or-lt_of_le u);
          steady = λ a k i l ea ei f t u. ⊎_elim (λ (z : l ≡ suc r). let x = at_last i l ei z in omega (arith, x.0, x.1, steady, H.top a k ea f (omega arith))) (λ (z : l < suc r). M.steady a k i l ea ei f t (omega arith)) (eq-or-lt_of_le u);
        }

    pub older_on : OlderBelow s q v r → g + mu + L v.size ≤ v.gain + L (suc r) → OlderBelow s q v (suc r)
    older_on O test =
        record { older = λ i l e f u. ⊎_elim (λ (z : l ≡ suc r). let x = at_last i l e z in omega (arith, x.0, x.1, test)) (λ (z : l < suc r). O.older i l e f (omega arith)) (eq-or-lt_of_le u) }

  pub older_none : OlderBelow s q v v.size
  older_none = record { older = λ i l e f t. absurd (let z : ⊥ = omega arith in z) }

  pub leads_at : (j : ℕ) → j + v.size ≡ length q → v.low < v.size → LowTo s q v.low → Middling s q v (v.size - 1) → Gains s q v.size v.gain → mu + L v.size ≤ v.gain → OlderBelow s q v (length q) → LeadsAt s v.limit q j
  leads_at j at inside low M N high O =
      let size : length q - j ≡ v.size = omega arith in
      let is : v.gain ≡ G j = N.gain_is j at in
      record {
        low_from = length q - v.low;
        j_before = omega arith;
        low_within = omega arith;
        low = λ a l e some f. low.low a l e some (omega arith);
        steady = λ a k i l ea ei ji ia al. M.steady a k i l ea ei (omega arith) (omega arith) (omega arith);
        above = λ a k e ja al. omega (arith, is, ap L size, M.above a k e (omega arith) (omega arith));
        older = λ i l e ij. omega (arith, is, ap L size, O.older i l e (omega arith) (omega arith));
        high = omega (arith, is, ap L size, high);
      }

-- ---- The lead's places, without the newest of them.
pub record EndsTo (s : Scale) (q : List Place) (j size r : ℕ) : Type 0 where
  pub newest : (m : ℕ) → size ≤ m + r → m < size → gain s.ln.now (take m (drop j q)) + mu + loss s.threshold s.f.now size ≤ gain s.ln.now (drop j q) + loss s.threshold s.f.now m

module _ (s : Scale) (q : List Place) (j size : ℕ) (at : j + size ≡ length q) where
  pub ends_none : EndsTo s q j size 0
  ends_none = record { newest = λ m l k. absurd (let z : ⊥ = omega arith in z) }

  pub ends_on : (r sum : ℕ) → EndsTo s q j size r → Taken s q j (suc r) sum → suc r < size → mu + loss s.threshold s.f.now size ≤ sum + loss s.threshold s.f.now (size - suc r) → EndsTo s q j size (suc r)
  ends_on r sum E T inside test =
      record {
        newest = λ m l k. ⊎_elim
            (λ (z : size ≡ m + suc r).
            let x : length q - j - suc r ≡ m = omega arith in
            let y : size - suc r ≡ m = omega arith in
            omega (arith, T.gain_is, ap (λ (i : ℕ). gain s.ln.now (take i (drop j q))) x, ap (loss s.threshold s.f.now) y, test))
            (λ (z : size < m + suc r). E.newest m (omega arith) k) (eq-or-lt_of_le l);
      }

  pub ends_best : EndsTo s q j size (size - 1) → EndsBest s q j
  ends_best E =
      let y : length q - j ≡ size = omega arith in
      record { newest = λ m some inside. omega (arith, ap (loss s.threshold s.f.now) y, E.newest m (omega arith) (omega arith)) }

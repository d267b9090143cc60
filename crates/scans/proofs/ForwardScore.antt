-- The forward scan's best. For any float bits it is not below 0, and a find, a scan that is best at the newest entry, started at an index of the window.
-- With tables in range the scores are numbers: none is above that of a find, which is the float score of the L places from the find to the newest, within (L + 1) / 2^33 of the exact score.
use Rattle.std.proofs.Common.{◌≡◌, refl, sym, ap, ◌∙◌, subst, ℕ, zero, suc, ◌+◌, ◌≤◌, ◌<◌, eq-or-lt_of_le, arith, Bool, false, ⊎_elim, List, [], ◌∷◌, length, take, drop, length-take, length-drop, T, Float}
use lib.Seq.{take-length}
use lib.Ieee.{binary64, inf, add, sub, lt, le}
use Rattle.floats.specs.Arithmetic.{◌⊕◌}
use Rattle.floats.specs.Binary64.{zero64, slack}
use Rattle.floats.proofs.Compare.{le_self}
use Rattle.floats.proofs.Order.{le_trans, lt_le, nle_lt}
use Rattle.floats.proofs.Sums.{zero_near}
use Rattle.floats.proofs.Tests.{le_near, le_sure}
use Rattle.floats.specs.Terms.Rounded.{Near, err}
use Rattle.letters.specs.Place.{Place, Below}
use Rattle.scans.specs.Setup.{Setup, f_at, kmers}
use Rattle.scans.specs.Counts.{raise, cleared}
use Rattle.scans.specs.Scans.{value, ForwardSums, forward_start, forward_judged, Forward, forward_from, dust_forward}
use Rattle.scans.specs.Judged.{float_score, Best, best_held, better, forward_over}
use Rattle.scans.proofs.Test.{by_test}
use Rattle.scans.proofs.Counting.{below_drop, below_take}
use Rattle.scans.proofs.Gain.{InRange, gain, loss}
use Rattle.scans.proofs.FloatScore.{float_near}
use Rattle.scans.proofs.Judging.{forward_judges}
use Rattle.scans.proofs.WholeScan.{never_above}

-- ---- Any float bits.
pub forward_inside : (S : Setup) (q : List Place) (j : ℕ) (m : Float) → 0 < length q → (dust_forward S q j m).sums.found ≡ length q → j < length q
unfolding dust_forward forward_from
forward_inside S q j m some e = go (drop j q) refl e
  where
    go : (es : List Place) → drop j q ≡ es → (forward_from S (add binary64 m slack) es 1 j forward_start (cleared S)).sums.found ≡ length q → j < length q
    go [] d h = absurd (omega arith)
    go (x ∷ es) d h = omega (arith, length-drop j q, ap length d)

module _ (S : Setup) where
  judged_best : (a : ForwardSums) (s sl : Float) (i : ℕ) → T (le zero64 a.best) → T (le zero64 (forward_judged a s sl i).best)
  judged_best a s sl i b =
      by_test (λ (r : ForwardSums). T (le zero64 r.best)) (le a.best sl) (record { s = s; best = sl; found = i + 1 }) (record { s = s; best = a.best; found = a.found })
      (λ t. le_trans zero64 a.best sl b t) (λ _. b)

  from_best : (limit : Float) (es : List Place) (l i : ℕ) (a : ForwardSums) (counts : List ℕ) → T (le zero64 a.best) → T (le zero64 (forward_from S limit es l i a counts).sums.best)
  unfolding forward_from
  from_best limit [] l i a counts b = b
  from_best limit (e ∷ es) l i a counts b =
      let s : Float = add binary64 a.s (sub binary64 (value S counts e) S.score_threshold) in
      let sl : Float = sub binary64 s (f_at S l) in
      let a' : ForwardSums = forward_judged a s sl i in
      let b' = judged_best a s sl i b in
      by_test (λ (r : Forward). T (le zero64 r.sums.best)) (lt limit sl) (record { sums = a'; counts = raise counts e }) (forward_from S limit es (l + 1) (i + 1) a' (raise counts e))
      (λ _. b') (λ _. from_best limit es (l + 1) (i + 1) a' (raise counts e) b')

  pub forward_best : (q : List Place) (j : ℕ) (m : Float) → T (le zero64 (dust_forward S q j m).sums.best)
  unfolding dust_forward
  forward_best q j m = from_best (add binary64 m slack) (drop j q) 1 j forward_start (cleared S) (le_sure zero_near zero_near (omega arith))

-- ---- A scan from index j over the scores x that are numbers.
module _ (x : ℕ → Float) (j : ℕ) where
  -- Before the l-th score: no score is above the best, and a best at the newest place is its score.
  pub record Leads (l : ℕ) (b : Best) : Type 0 where
    pub number : T (le b.best b.best)
    before : b.found < j + l
    pub top : (L : ℕ) → 0 < L → L < l → T (le (x L) b.best)
    newest : (L : ℕ) → 0 < L → L + 1 ≡ l → b.found ≡ j + L → b.best ≡ x L

  leads_on : (l : ℕ) (b : Best) → T (le (x l) (x l)) → Leads l b → Leads (l + 1) (better b (x l) (j + l))
  leads_on l b r h =
      by_test (λ (c : Best). Leads (l + 1) c) (le b.best (x l)) (record { best = x l; found = j + l }) b
      (λ t.
      record {
        number = r;
        before = omega arith;
        top = λ L p k. upto L k (x l) (λ (m : L < l). le_trans (x L) b.best (x l) (h.top L p m) t) r;
        newest = λ L p e f. ap x (omega arith);
      })
      (λ t.
      record {
        number = h.number;
        before = omega (arith, h.before);
        top = λ L p k. upto L k b.best (h.top L p) (lt_le (x l) b.best (nle_lt b.best (x l) h.number r t));
        newest = λ L p e f. absurd (omega (arith, h.before));
      })
    where
      upto : (L : ℕ) → L < l + 1 → (y : Float) → (L < l → T (le (x L) y)) → T (le (x l) y) → T (le (x L) y)
      upto L k y f g = ⊎_elim (λ (e : L ≡ l). subst (λ (z : ℕ). T (le (x z) y)) (sym e) g) f (eq-or-lt_of_le (let c : L ≤ l = omega arith in c))

  -- To the n-th, where it is best.
  leads_end : (limit : Float) (n : ℕ) → ((L : ℕ) → 0 < L → L ≤ n → T (le (x L) (x L))) → (m l : ℕ) (b : Best) → 0 < l → l + m ≡ n + 1 → Leads l b
      → (forward_over limit x j m l b).found ≡ j + n → Leads (n + 1) (forward_over limit x j m l b)
  unfolding forward_over
  leads_end limit n r zero l b p e h f = let q : l ≡ n + 1 = omega arith in subst (λ (z : ℕ). Leads z b) q h
  leads_end limit n r (suc m) l b p e h f =
      let b' : Best = better b (x l) (j + l) in
      let h' : Leads (l + 1) b' = leads_on l b (r l p (omega arith)) h in
      by_test (λ (c : Best). c.found ≡ j + n → Leads (n + 1) c) (lt limit (x l)) b' (forward_over limit x j m (l + 1) b')
      (λ _ (g : b'.found ≡ j + n). let q : l + 1 ≡ n + 1 = omega (arith, h'.before) in subst (λ (z : ℕ). Leads z b') q h')
      (λ _ (g : (forward_over limit x j m (l + 1) b').found ≡ j + n). leads_end limit n r m (l + 1) b' (omega arith) (omega arith) h' g) f

  leads_on_all : (n : ℕ) → ((L : ℕ) → 0 < L → L ≤ n → T (le (x L) (x L))) → (m l : ℕ) (b : Best) → 0 < l → l + m ≡ n + 1 → Leads l b → Leads (n + 1) (forward_over (inf false) x j m l b)
  unfolding forward_over
  leads_on_all n r zero l b p e h = let q : l ≡ n + 1 = omega arith in subst (λ (z : ℕ). Leads z b) q h
  leads_on_all n r (suc m) l b p e h =
      let b' : Best = better b (x l) (j + l) in
      by_test (λ (c : Best). Leads (n + 1) c) (lt (inf false) (x l)) b' (forward_over (inf false) x j m (l + 1) b')
      (λ t. absurd (subst (λ (c : Bool). T c) (never_above (x l)) t))
      (λ _. leads_on_all n r m (l + 1) b' (omega arith) (omega arith) (leads_on l b (r l p (omega arith)) h))

  leads_start : Leads 1 (best_held forward_start)
  leads_start = record { number = le_self zero_near.ok; before = omega arith; top = λ L p k. absurd (omega arith); newest = λ L p k f. absurd (omega arith) }

  -- To the n-th, if nothing stops it.
  pub leads_all : (n : ℕ) → ((L : ℕ) → 0 < L → L ≤ n → T (le (x L) (x L))) → Leads (n + 1) (forward_over (inf false) x j n 1 (best_held forward_start))
  leads_all n r = leads_on_all n r n 1 (best_held forward_start) (omega arith) (omega arith) leads_start

-- ---- Tables in range. A find: the scan from index j is best at the newest entry.
module _ (S : Setup) (R : InRange S) (q : List Place) (j : ℕ) (m : Float) (b : Below (kmers S) q) (h : length q ≤ S.window_size) (some : 0 < length q)
    (e : (dust_forward S q j m).sums.found ≡ length q) where
  abbrev d : List Place
  d = drop j q

  find_some : 0 < length d
  find_some = omega (arith, length-drop j q, forward_inside S q j m some e)

  found_newest : (dust_forward S q j m).sums.found ≡ j + length d
  found_newest = omega (arith, length-drop j q, forward_inside S q j m some e)

  near : (L : ℕ) → 0 < L → Near binary64 (float_score S (take L d)) (gain S (take L d)) (loss S (length (take L d))) (err (length (take L d) + 1))
  near L p =
      let l = length-take L d in
      let s = find_some in
      float_near S R (take L d) (below_take (kmers S) L d (below_drop (kmers S) j q b)) (omega (arith, length-drop j q)) (omega arith)

  leads : Leads (λ (L : ℕ). float_score S (take L d)) j (length d + 1) (best_held (dust_forward S q j m).sums)
  leads =
      let x : ℕ → Float = λ (L : ℕ). float_score S (take L d) in
      let same = forward_judges S q j m in
      subst (λ (c : Best). Leads x j (length d + 1) c) (sym same)
      (leads_end x j (m ⊕ slack) (length d) (λ L p k. le_self (near L p).ok) (length d) 1 (best_held forward_start) (omega arith) (omega arith) (leads_start x j)
      (ap (λ (c : Best). c.found) (sym same) ∙ found_newest))

  -- Its best is the score of the stretch from there to the newest,
  best_near : Near binary64 (dust_forward S q j m).sums.best (gain S d) (loss S (length d)) (err (length d + 1))
  best_near =
      rw (leads.newest (length d) find_some refl found_newest)
      (subst (λ (l : List Place). Near binary64 (float_score S (take (length d) d)) (gain S l) (loss S (length l)) (err (length l + 1))) (take-length d) (near (length d) find_some))

  -- which is not below 0,
  pub forward_find : loss S (length d) ≤ gain S d + err (length d + 1)
  forward_find = omega (arith, le_near zero_near best_near (forward_best S q j m))

  -- and not below that of a shorter one.
  pub forward_shorter : (L : ℕ) → 0 < L → L < length d → gain S (take L d) + loss S (length d) ≤ gain S d + loss S (length (take L d)) + (err (length (take L d) + 1) + err (length d + 1))
  forward_shorter L p k = le_near (near L p) best_near (leads.top L p (omega arith))

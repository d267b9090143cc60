-- A forward scan and the one that is never stopped: they are the same as far as no score is above the limit (`unstopped`), which the best score tells,
-- and where the scan is best at the newest entry (`reached`). What it sums up does not depend on where the places stand (`index_free`). For any float bits.
use Rattle.std.proofs.Common.{◌≡◌, refl, sym, ap, ◌∙◌, subst, ℕ, suc, ◌+◌, ◌≤◌, arith, Bool, true, false, cond, not, List, [], ◌∷◌, ◌++◌, length, T, T_not, Float}
use lib.Ieee.{nan, inf, fin, lt, le}
use Rattle.floats.specs.Arithmetic.{◌⊕◌, ◌⊖◌}
use Rattle.floats.proofs.Order.{le_trans, le_right, lt_le_trans, lt_past}
use Rattle.letters.specs.Place.{Place}
use Rattle.scans.specs.Setup.{Setup, f_at}
use Rattle.scans.specs.Counts.{raise}
use Rattle.scans.specs.Scans.{value, ForwardSums, forward_judged, Forward, forward_from}
use Rattle.scans.proofs.Test.{by_test}

pub never_above : (x : Float) → lt (inf false) x ≡ false
unfolding lt
never_above nan = refl
never_above (inf t) = refl
never_above (fin t n d) = refl

module _ (S : Setup) where
  abbrev pub sum : ForwardSums → List ℕ → Place → Float
  sum a counts e = a.s ⊕ (value S counts e ⊖ S.score_threshold)

  abbrev pub score : ForwardSums → List ℕ → Place → ℕ → Float
  score a counts e l = sum a counts e ⊖ f_at S l

  abbrev pub judged : ForwardSums → List ℕ → Place → ℕ → ℕ → ForwardSums
  judged a counts e l i = forward_judged a (sum a counts e) (score a counts e l) i

  abbrev pub whole : List Place → ℕ → ℕ → ForwardSums → List ℕ → Forward
  whole es l i a counts = forward_from S (inf false) es l i a counts

  pub step : (limit : Float) (e : Place) (es : List Place) (l i : ℕ) (a : ForwardSums) (counts : List ℕ)
      → forward_from S limit (e ∷ es) l i a counts ≡ cond (lt limit (score a counts e l)) (record { sums = judged a counts e l i; counts = raise counts e }) (forward_from S limit es (l + 1) (i + 1) (judged a counts e l i) (raise counts e))
  unfolding forward_from
  step limit e es l i a counts = refl

  pub whole_step : (e : Place) (es : List Place) (l i : ℕ) (a : ForwardSums) (counts : List ℕ) → whole (e ∷ es) l i a counts ≡ whole es (l + 1) (i + 1) (judged a counts e l i) (raise counts e)
  whole_step e es l i a counts =
      step (inf false) e es l i a counts
      ∙ ap (λ (b : Bool). cond b (record { sums = judged a counts e l i; counts = raise counts e }) (whole es (l + 1) (i + 1) (judged a counts e l i) (raise counts e))) (never_above (score a counts e l))

  -- The best only grows, from a best that is no NaN.
  judged_grows : (a : ForwardSums) (s sl : Float) (i : ℕ) → T (le a.best a.best) → T (le a.best (forward_judged a s sl i).best)
  judged_grows a s sl i r =
      by_test (λ (b : ForwardSums). T (le a.best b.best)) (le a.best sl) (record { s = s; best = sl; found = i + 1 }) (record { s = s; best = a.best; found = a.found })
      (λ t. t) (λ _. r)

  whole_grows : (es : List Place) (l i : ℕ) (a : ForwardSums) (counts : List ℕ) → T (le a.best a.best) → T (le a.best (whole es l i a counts).sums.best)
  unfolding forward_from
  whole_grows [] l i a counts r = r
  whole_grows (e ∷ es) l i a counts r =
      let a' : ForwardSums = judged a counts e l i in
      let g = judged_grows a (sum a counts e) (score a counts e l) i r in
      subst (λ (w : Forward). T (le a.best w.sums.best)) (sym (whole_step e es l i a counts))
      (le_trans a.best a'.best (whole es (l + 1) (i + 1) a' (raise counts e)).sums.best g (whole_grows es (l + 1) (i + 1) a' (raise counts e) (le_right a.best a'.best g)))

  -- A score above a limit takes the best above it.
  judged_above : (limit : Float) (a : ForwardSums) (s sl : Float) (i : ℕ) → T (le a.best a.best) → T (lt limit sl) → T (lt limit (forward_judged a s sl i).best)
  judged_above limit a s sl i r h =
      by_test (λ (b : ForwardSums). T (lt limit b.best)) (le a.best sl) (record { s = s; best = sl; found = i + 1 }) (record { s = s; best = a.best; found = a.found })
      (λ _. h) (λ n. lt_past limit sl a.best r h n)

  -- Places over which the best score does not pass the limit are scanned to the end.
  pub unstopped : (limit : Float) (es rest : List Place) (l i l' i' : ℕ) (a : ForwardSums) (counts : List ℕ) → l' ≡ l + length es → i' ≡ i + length es → T (le a.best a.best)
      → T (not (lt limit (whole es l i a counts).sums.best))
      → forward_from S limit (es ++ rest) l i a counts ≡ forward_from S limit rest l' i' (whole es l i a counts).sums (whole es l i a counts).counts
  unfolding forward_from
  unstopped limit [] rest l i l' i' a counts ql qi r h =
      let el : l ≡ l' = omega arith in
      let ei : i ≡ i' = omega arith in
      rw (el, ei)
  unstopped limit (e ∷ es) rest l i l' i' a counts ql qi r h =
      let sl : Float = score a counts e l in
      let a' : ForwardSums = judged a counts e l i in
      let counts' : List ℕ = raise counts e in
      let w : Forward = whole es (l + 1) (i + 1) a' counts' in
      let same : whole (e ∷ es) l i a counts ≡ w = whole_step e es l i a counts in
      let r' = le_right a.best a'.best (judged_grows a (sum a counts e) sl i r) in
      let h' : T (not (lt limit w.sums.best)) = subst (λ (z : Forward). T (not (lt limit z.sums.best))) same h in
      by_test (λ (z : Forward). z ≡ forward_from S limit rest l' i' (whole (e ∷ es) l i a counts).sums (whole (e ∷ es) l i a counts).counts) (lt limit sl)
      (record { sums = a'; counts = counts' }) (forward_from S limit (es ++ rest) (l + 1) (i + 1) a' counts')
      (λ t. absurd (T_not (lt limit w.sums.best) h' (lt_le_trans limit a'.best w.sums.best (judged_above limit a (sum a counts e) sl i r t) (whole_grows es (l + 1) (i + 1) a' counts' r'))))
      (λ _. unstopped limit es rest (l + 1) (i + 1) l' i' a' counts' (omega arith) (omega arith) r' h' ∙ ap (λ (z : Forward). forward_from S limit rest l' i' z.sums z.counts) (sym same))

  judged_found : (a : ForwardSums) (s sl : Float) (i : ℕ) → a.found ≤ i → (forward_judged a s sl i).found ≤ i + 1
  judged_found a s sl i h =
      by_test (λ (b : ForwardSums). b.found ≤ i + 1) (le a.best sl) (record { s = s; best = sl; found = i + 1 }) (record { s = s; best = a.best; found = a.found })
      (λ _. omega arith) (λ _. omega arith)

  -- A scan that is best at its last place was not stopped before it.
  pub reached : (limit : Float) (es : List Place) (l i : ℕ) (a : ForwardSums) (counts : List ℕ) → a.found ≤ i → (forward_from S limit es l i a counts).sums.found ≡ i + length es
      → forward_from S limit es l i a counts ≡ whole es l i a counts
  unfolding forward_from
  reached limit [] l i a counts h q = refl
  reached limit (e ∷ es) l i a counts h q =
      let a' : ForwardSums = judged a counts e l i in
      let counts' : List ℕ = raise counts e in
      by_test (λ (z : Forward). z.sums.found ≡ i + suc (length es) → z ≡ whole (e ∷ es) l i a counts) (lt limit (score a counts e l))
      (record { sums = a'; counts = counts' }) (forward_from S limit es (l + 1) (i + 1) a' counts')
      (λ _ (f : a'.found ≡ i + suc (length es)). last es f)
      (λ _ (f : (forward_from S limit es (l + 1) (i + 1) a' counts').sums.found ≡ i + suc (length es)).
      reached limit es (l + 1) (i + 1) a' counts' (judged_found a (sum a counts e) (score a counts e l) i h) (omega arith) ∙ sym (whole_step e es l i a counts)) q
    where
      last : (rest : List Place) → (judged a counts e l i).found ≡ i + suc (length rest) → record { sums = judged a counts e l i; counts = raise counts e } ≡ whole (e ∷ rest) l i a counts
      last [] f = sym (whole_step e [] l i a counts)
      last (x ∷ rest) f = absurd (let g = judged_found a (sum a counts e) (score a counts e l) i h in omega arith)

  -- ---- Where the places stand matters to no sum and no best score.
  pub record Alike (x y : Forward) : Type 0 where
    pub s_same : x.sums.s ≡ y.sums.s
    pub best_same : x.sums.best ≡ y.sums.best

  pub judged_s : (a : ForwardSums) (s sl : Float) (i : ℕ) → (forward_judged a s sl i).s ≡ s
  judged_s a s sl i =
      by_test (λ (b : ForwardSums). b.s ≡ s) (le a.best sl) (record { s = s; best = sl; found = i + 1 }) (record { s = s; best = a.best; found = a.found }) (λ _. refl) (λ _. refl)

  pub judged_best : (a : ForwardSums) (s sl : Float) (i : ℕ) → (forward_judged a s sl i).best ≡ cond (le a.best sl) sl a.best
  judged_best a s sl i = go (le a.best sl)
    where
      go : (t : Bool) → (cond {A = ForwardSums} t (record { s = s; best = sl; found = i + 1 }) (record { s = s; best = a.best; found = a.found })).best ≡ cond t sl a.best
      go true = refl
      go false = refl

  pub index_free : (es : List Place) (l i k : ℕ) (a b : ForwardSums) (counts : List ℕ) → a.s ≡ b.s → a.best ≡ b.best → Alike (whole es l i a counts) (whole es l k b counts)
  unfolding forward_from
  index_free [] l i k a b counts p q = record { s_same = p; best_same = q }
  index_free (e ∷ es) l i k a b counts p q =
      let ps : sum a counts e ≡ sum b counts e = ap (λ (z : Float). z ⊕ (value S counts e ⊖ S.score_threshold)) p in
      let pb : cond (le a.best (score a counts e l)) (score a counts e l) a.best ≡ cond (le b.best (score b counts e l)) (score b counts e l) b.best = rw (ps, q) in
      let later : Alike (whole es (l + 1) (i + 1) (judged a counts e l i) (raise counts e)) (whole es (l + 1) (k + 1) (judged b counts e l k) (raise counts e)) =
      index_free es (l + 1) (i + 1) (k + 1) (judged a counts e l i) (judged b counts e l k) (raise counts e)
      (judged_s a (sum a counts e) (score a counts e l) i ∙ ps ∙ sym (judged_s b (sum b counts e) (score b counts e l) k))
      (judged_best a (sum a counts e) (score a counts e l) i ∙ pb ∙ sym (judged_best b (sum b counts e) (score b counts e l) k)) in
      subst (λ (z : Forward). Alike z (whole (e ∷ es) l k b counts)) (sym (whole_step e es l i a counts))
      (subst (λ (z : Forward). Alike (whole es (l + 1) (i + 1) (judged a counts e l i) (raise counts e)) z) (sym (whole_step e es l k b counts)) later)

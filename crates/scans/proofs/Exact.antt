-- The one law of the exact score's sum over k-mers: one place more, at either end, changes one k-mer's term, by the ln entry of its new count.
use Rattle.std.proofs.Common.{◌≡◌, refl, sym, ap, ap₂, ◌∙◌, subst, ℕ, zero, suc, ◌+◌, ◌<◌, le_refl, arith, Bool, true, false, ◌≢◌, List, [], ◌∷◌, ◌++◌, eqb, ℤ, pos, ◌+ℤ◌, Float}
use borrow.Author.Tests.{eqb-true, eqb-false}
use lib.IntN.{+ℤ_assoc, +ℤ_comm, +ℤ_idr}
use lib.Ieee.{of_bits}
use Rattle.floats.specs.Value.{value, magnitude}
use Rattle.floats.specs.Binary64.{zero64, value64}
use Rattle.letters.specs.Place.{Place, ambiguous, plain, BelowAt}
use Rattle.scans.specs.Setup.{Setup, ln_at}
use Rattle.scans.specs.Counts.{hit, count}
use Rattle.scans.specs.Score.{ln_sum, ln_sums, ln_value}
use Rattle.scans.proofs.Counting.{hit_self, hit_other, count_snoc}

-- ---- Over any table of whole numbers.
-- The ln entry that the place e adds to the places q; 0 if it is ambiguous.
abbrev pub adds : (ℕ → ℤ) → List Place → Place → ℤ
adds ln q ambiguous = pos 0
adds ln q (plain x) = ln (suc (count x q))

swap : (a b c : ℤ) → a +ℤ b +ℤ c ≡ a +ℤ c +ℤ b
swap a b c = +ℤ_assoc a b c ∙ ap (λ (z : ℤ). a +ℤ z) (+ℤ_comm b c) ∙ sym (+ℤ_assoc a c b)

module _ (ln : ℕ → ℤ) (q r : List Place) where
  pub sums_same : (m : ℕ) → ((x : ℕ) → x < m → count x r ≡ count x q) → ln_sums ln m r ≡ ln_sums ln m q
  unfolding ln_sums
  sums_same zero h = refl
  sums_same (suc m) h = ap₂ (λ (a : ℤ) (c : ℕ). a +ℤ ln_sum ln c) (sums_same m (λ x l. h x (omega arith))) (h m (le_refl (suc m)))

  module _ (x : ℕ) (h : (y : ℕ) → count y r ≡ hit y (plain x) + count y q) where
    sums_plain : (m : ℕ) → x < m → ln_sums ln m r ≡ ln_sums ln m q +ℤ adds ln q (plain x)
    unfolding ln_sums ln_sum
    sums_plain zero l = absurd (omega arith)
    sums_plain (suc m) l = go (λ (k : x < m). sums_plain m k) (eqb x m) refl
      where
        a : ℤ
        a = adds ln q (plain x)

        go : (x < m → ln_sums ln m r ≡ ln_sums ln m q +ℤ a) → (b : Bool) → eqb x m ≡ b → ln_sums ln m r +ℤ ln_sum ln (count m r) ≡ ln_sums ln m q +ℤ ln_sum ln (count m q) +ℤ a
        go f true e =
            let xm : x ≡ m = eqb-true x m e in
            let same = sums_same m (λ y k. h y ∙ omega (arith, hit_other y x (λ (z : y ≡ x). omega arith))) in
            let c : count m r ≡ suc (count m q) = h m ∙ omega (arith, (subst (λ (z : ℕ). hit m (plain z) ≡ 1) (sym xm) (hit_self m))) in
            let v : ln (suc (count m q)) ≡ a = ap (λ (z : ℕ). ln (suc (count z q))) (sym xm) in
            ap₂ (λ (s : ℤ) (n : ℕ). s +ℤ ln_sum ln n) same c ∙ sym (+ℤ_assoc (ln_sums ln m q) (ln_sum ln (count m q)) (ln (suc (count m q))))
            ∙ ap (λ (z : ℤ). ln_sums ln m q +ℤ ln_sum ln (count m q) +ℤ z) v
        go f false e =
            let ne : x ≢ m = eqb-false x m e in
            let c : count m r ≡ count m q = h m ∙ omega (arith, hit_other m x (λ (z : m ≡ x). ne (sym z))) in
            ap₂ (λ (s : ℤ) (n : ℕ). s +ℤ ln_sum ln n) (f (omega arith)) c ∙ swap (ln_sums ln m q) a (ln_sum ln (count m q))

  -- r has the place e more than q; m is the number of k-mers.
  sums_more : (m : ℕ) (e : Place) → BelowAt m e → ((y : ℕ) → count y r ≡ hit y e + count y q) → ln_sums ln m r ≡ ln_sums ln m q +ℤ adds ln q e
  sums_more m ambiguous b h = sums_same m (λ y l. h y ∙ omega arith) ∙ sym (+ℤ_idr (ln_sums ln m q))
  sums_more m (plain x) b h = sums_plain x h m b

module _ (ln : ℕ → ℤ) (m : ℕ) (q : List Place) (e : Place) (b : BelowAt m e) where
  -- At the newest end.
  pub sums_snoc : ln_sums ln m (q ++ e ∷ []) ≡ ln_sums ln m q +ℤ adds ln q e
  sums_snoc = sums_more ln q (q ++ e ∷ []) m e b (λ y. count_snoc y q e)

  -- At the oldest end.
  pub sums_cons : ln_sums ln m (e ∷ q) ≡ ln_sums ln m q +ℤ adds ln q e
  sums_cons = sums_more ln q (e ∷ q) m e b (λ y. refl)

pub sums_none : (ln : ℕ → ℤ) (m : ℕ) → ln_sums ln m [] ≡ pos 0
unfolding ln_sums ln_sum
sums_none ln zero = refl
sums_none ln (suc m) = ap (λ (z : ℤ). z +ℤ pos 0) (sums_none ln m)

-- ---- Over the paper's floats, for any float bits.
abbrev pub added : Setup → List Place → Place → Float
added S q ambiguous = zero64
added S q (plain x) = ln_at S (suc (count x q))

pub added_value : (S : Setup) (q : List Place) (e : Place) → adds (ln_value S) q e ≡ value64 (added S q e)
unfolding value magnitude of_bits
added_value S q ambiguous = refl
added_value S q (plain x) = refl

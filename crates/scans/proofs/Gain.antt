-- Tables in the paper's ranges: there the exact score of a stretch is `gain - loss` of naturals, in units of 2^-1074, and the gain is at most 16 a place.
use Rattle.std.proofs.Common.{◌≡◌, refl, ap, ◌∙◌, ℕ, zero, suc, ◌+◌, ◌*◌, ◌≤◌, ◌<◌, arith, List, [], ◌∷◌, ◌++◌, length, ℤ, pos, negsuc, nat_abs, ◌+ℤ◌, ◌-ℤ◌, ◌*ℤ◌, Float}
use lib.Ieee.{binary64}
use Rattle.floats.specs.Binary64.{one, value64}
use Rattle.floats.proofs.Whole.{Is, is_as, is_sub, is_times, value_is_pos}
use Rattle.floats.proofs.Sums.{zero_near, zero_ranged}
use Rattle.floats.specs.Terms.Rounded.{pos64, Ranged}
use Rattle.letters.specs.Place.{Place, ambiguous, plain, BelowAt, Below}
use Rattle.scans.specs.Setup.{Setup, ln_at, f_at, kmers}
use Rattle.scans.specs.Counts.{count}
use Rattle.scans.specs.Score.{ln_sum, ln_sums, ln_value, score}
unfoldable pub use Rattle.scans.specs.Terms.Units.{gain}
pub use Rattle.scans.specs.Terms.Units.{loss}
use Rattle.scans.proofs.Counting.{count_le}
use Rattle.scans.proofs.Exact.{adds, added, added_value, sums_snoc, sums_cons, sums_none}

-- T in 0..16, ln entries 1..w in 0..16, f entries 1..w in 0..2^20.
pub record InRange (S : Setup) : Type 0 where
  pub window_small : S.window_size ≤ 65535
  pub window_some : 0 < S.window_size
  pub t_ranged : Ranged 16 S.score_threshold
  pub ln_ranged : (c : ℕ) → 0 < c → c ≤ S.window_size → Ranged 16 (ln_at S c)
  pub f_ranged : (l : ℕ) → 0 < l → l ≤ S.window_size → Ranged 1048576 (f_at S l)

-- ---- Numbers that are not below 0.
abbrev NonNegative : ℤ → Type 0
NonNegative (pos k) = Unit {0}
NonNegative (negsuc k) = ⊥

add_non_negative : (x y : ℤ) → NonNegative x → NonNegative y → NonNegative (x +ℤ y) × (nat_abs (x +ℤ y) ≡ nat_abs x + nat_abs y)
add_non_negative (pos i) (pos j) a b = (tt, refl)
add_non_negative (pos i) (negsuc j) a b = absurd b
add_non_negative (negsuc i) y a b = absurd a

non_negative_is : (z : ℤ) → NonNegative z → Is z (nat_abs z) 0
non_negative_is (pos k) a = omega arith
non_negative_is (negsuc k) a = absurd a

is_non_negative : (z : ℤ) (a : ℕ) → Is z a 0 → NonNegative z × (nat_abs z ≡ a)
is_non_negative (pos k) a h = (tt, omega arith)
is_non_negative (negsuc k) a h = absurd (omega arith)

ranged_is : (B : ℕ) (x : Float) → Ranged B x → Is (value64 x) (pos64 x) 0
ranged_is B x r = value_is_pos binary64 x r.low

pub gain_none : (S : Setup) → gain S [] ≡ 0
unfolding gain
gain_none S = ap nat_abs (sums_none (ln_value S) (kmers S))

-- An ambiguous place adds nothing.
pub adds_none : (S : Setup) (q : List Place) → pos64 (added S q ambiguous) ≡ 0
adds_none S q = omega (arith, zero_near.upper, (zero_ranged 16).low)

module _ (S : Setup) (R : InRange S) where
  ln_sum_non_negative : (m : ℕ) → m ≤ S.window_size → NonNegative (ln_sum (ln_value S) m)
  unfolding ln_sum
  ln_sum_non_negative zero l = tt
  ln_sum_non_negative (suc m) l =
      let x : Float = ln_at S (suc m) in
      (add_non_negative (ln_sum (ln_value S) m) (value64 x) (ln_sum_non_negative m (omega arith)) (is_non_negative (value64 x) (pos64 x) (ranged_is 16 x (R.ln_ranged (suc m) (omega arith) l))).0).0

  ln_sums_non_negative : (b : ℕ) (q : List Place) → length q ≤ S.window_size → NonNegative (ln_sums (ln_value S) b q)
  unfolding ln_sums
  ln_sums_non_negative zero q l = tt
  ln_sums_non_negative (suc b) q l =
      (add_non_negative (ln_sums (ln_value S) b q) (ln_sum (ln_value S) (count b q)) (ln_sums_non_negative b q l) (ln_sum_non_negative (count b q) (omega (arith, count_le b q)))).0

  -- ---- One place more.
  pub added_ranged : (q : List Place) (e : Place) → length q < S.window_size → Ranged 16 (added S q e)
  added_ranged q ambiguous l = zero_ranged 16
  added_ranged q (plain x) l = R.ln_ranged (suc (count x q)) (omega arith) (omega (arith, count_le x q))

  gain_more : (q r : List Place) (e : Place) → length q < S.window_size → ln_sums (ln_value S) (kmers S) r ≡ ln_sums (ln_value S) (kmers S) q +ℤ adds (ln_value S) q e
      → gain S r ≡ gain S q + pos64 (added S q e)
  unfolding gain
  gain_more q r e l h =
      let v = is_non_negative (value64 (added S q e)) (pos64 (added S q e)) (ranged_is 16 (added S q e) (added_ranged q e l)) in
      ap nat_abs (h ∙ ap (λ (z : ℤ). ln_sums (ln_value S) (kmers S) q +ℤ z) (added_value S q e))
      ∙ (add_non_negative (ln_sums (ln_value S) (kmers S) q) (value64 (added S q e)) (ln_sums_non_negative (kmers S) q (omega arith)) v.0).1
      ∙ ap (λ (z : ℕ). nat_abs (ln_sums (ln_value S) (kmers S) q) + z) v.1

  -- At the newest end, and at the oldest.
  pub gain_snoc : (q : List Place) (e : Place) → BelowAt (kmers S) e → length q < S.window_size → gain S (q ++ e ∷ []) ≡ gain S q + pos64 (added S q e)
  gain_snoc q e b l = gain_more q (q ++ e ∷ []) e l (sums_snoc (ln_value S) (kmers S) q e b)

  pub gain_cons : (q : List Place) (e : Place) → BelowAt (kmers S) e → length q < S.window_size → gain S (e ∷ q) ≡ gain S q + pos64 (added S q e)
  gain_cons q e b l = gain_more q (e ∷ q) e l (sums_cons (ln_value S) (kmers S) q e b)

  pub gain_bound : (q : List Place) → Below (kmers S) q → length q ≤ S.window_size → gain S q ≤ length q * (16 * one)
  gain_bound [] b l = omega (arith, gain_none S)
  gain_bound (e ∷ q) b l = omega (arith, gain_cons q e b.0 (omega arith), gain_bound q b.1 (omega arith), (added_ranged q e (omega arith)).high)

  -- ---- The exact score.
  pub score_is : (q : List Place) → length q ≤ S.window_size → 0 < length q → Is (score S q) (gain S q) (loss S (length q))
  unfolding score gain
  score_is q l some =
      let t : Float = S.score_threshold in
      let len : ℕ = length q in
      let f : Float = f_at S len in
      let z : ℤ = ln_sums (ln_value S) (kmers S) q in
      let G : ℕ = nat_abs z in
      let a = is_sub z (pos len *ℤ value64 t) G 0 (len * pos64 t) (len * 0) (non_negative_is z (ln_sums_non_negative (kmers S) q l)) (is_times (value64 t) len (pos64 t) 0 (ranged_is 16 t R.t_ranged)) in
      is_as (score S q) (G + len * 0 + 0) (0 + len * pos64 t + pos64 f) G (loss S len) (omega arith)
      (is_sub (z -ℤ pos len *ℤ value64 t) (value64 f) (G + len * 0) (0 + len * pos64 t) (pos64 f) 0 a (ranged_is 1048576 f (R.f_ranged len some l)))

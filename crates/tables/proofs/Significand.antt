-- ln of a positive float by its digits: shifting them up to 53 digits scales them to 1 <= m < 2.
use Rattle.std.proofs.Common.{◌≡◌, ℕ, zero, suc, ◌+◌, ◌-◌, ◌*◌, ◌/◌, ◌%◌, ◌^◌, ◌<◌, ◌≤◌, not, T, false, ℤ, pos, ◌+ℤ◌, sym, refl, ap, ◌∙◌, subst, ap₂, lt_of_lt_of_le, le_of_suc-le-suc, lt_of_le_of_lt, lt_irrefl, mul-le-mul_right, mul_assoc, le_antisymm, lt_of_mul-lt-mul_right, mul-lt-mul_of_pos_right, pow-suc, lt_of_not-le, mul-one, mul-div_cancel, arith, pow_pos, pow_mono, pow-add, Float}
use lib.Bits.{shifted_half, shifted_even}
use lib.Count.{count_leading_zeros, count_trailing_zeros, under}
use lib.Ieee.{fin, binary64, minus, odd, size, nan_bits, of_bits}
use lib.Ieee.Digits.{size-lt, size-le}
use Rattle.tables.proofs.Fields.{Shift, shift, pattern, pattern_number}
use Rattle.tables.proofs.Exponent.{minus_add, minus_same}
use Rattle.tables.specs.Ln.{ln_scaled, ln_of}

-- ---- the odd part of a number
record OddPart (d q : ℕ) : Type 0 where
  k : ℕ
  i : ℕ
  is : q ≡ k * 2 ^ i
  odd : k % 2 ≡ 1
  below : i < d

odd_part : (d q : ℕ) → 0 < q → q < 2 ^ d → OddPart d q
odd_part zero q h l = absurd (let b : ⊥ = omega arith in b)
odd_part (suc d) q h l = go (q % 2) refl (λ e. odd_part d (q / 2) (let x : 0 < q / 2 = omega arith in x) (let p : 2 ^ suc d ≡ 2 ^ d * 2 = pow-suc 2 d in let x : q / 2 < 2 ^ d = omega arith in x))
  where
    go : (r : ℕ) → q % 2 ≡ r → (q % 2 ≡ 0 → OddPart d (q / 2)) → OddPart (suc d) q
    go zero e rest =
        let p = rest e in
        record {
          k = p.k;
          i = suc p.i;
          is = (let a : q ≡ q / 2 * 2 = omega arith in a) ∙ ap (λ (n : ℕ). n * 2) p.is ∙ mul_assoc p.k (2 ^ p.i) 2 ∙ ap (λ (n : ℕ). p.k * n) (sym (pow-suc 2 p.i));
          odd = p.odd;
          below = (let b = p.below in omega arith);
        }
    go (suc r) e rest = record { k = q; i = 0; is = sym (mul-one q); odd = omega arith; below = omega arith }

-- ---- an odd number with i zeros after it is written as itself
tz_shift : (d m i : ℕ) → m % 2 ≡ 1 → i < d → count_trailing_zeros d (m * 2 ^ i) ≡ i
unfolding count_trailing_zeros
tz_shift zero m i o h = absurd (let b : ⊥ = omega arith in b)
tz_shift (suc d) m zero o h = ap (λ (x : ℕ). under (x % 2) (count_trailing_zeros d (x / 2))) (mul-one m) ∙ ap (λ (r : ℕ). under r (count_trailing_zeros d (m / 2))) o
tz_shift (suc d) m (suc i) o h =
    ap (λ (r : ℕ). under r (count_trailing_zeros d (m * 2 ^ suc i / 2))) (shifted_even m i) ∙ ap (λ (x : ℕ). suc (count_trailing_zeros d x)) (shifted_half m i) ∙ ap suc (tz_shift d m i o (le_of_suc-le-suc h))

odd_pos : (d q k l : ℕ) → 0 < q → odd d false q k l ≡ fin false (q / 2 ^ count_trailing_zeros d q) (minus (k + count_trailing_zeros d q) l)
unfolding odd
odd_pos d zero k l h = absurd (lt_irrefl 0 h)
odd_pos d (suc q) k l h = refl

pos_shift : (m i : ℕ) → m % 2 ≡ 1 → 0 < m * 2 ^ i
pos_shift m i o = let h : 0 < m = omega arith in lt_of_lt_of_le (pow_pos i) (subst (λ (n : ℕ). n ≤ m * 2 ^ i) (let e : 1 * 2 ^ i ≡ 2 ^ i = omega arith in e) (mul-le-mul_right (2 ^ i) h))

written : (m i k : ℕ) → m % 2 ≡ 1 → i < 53 → odd 53 false (m * 2 ^ i) k 1074 ≡ fin false m (minus (k + i) 1074)
written m i k o h =
    odd_pos 53 (m * 2 ^ i) k 1074 (pos_shift m i o)
    ∙ ap (λ (t : ℕ). fin false (m * 2 ^ i / 2 ^ t) (minus (k + t) 1074)) (tz_shift 53 m i o h)
    ∙ ap (λ (n : ℕ). fin false n (minus (k + i) 1074)) (mul-div_cancel m (pow_pos i))

-- ---- how many digits m has, where m * 2 ^ i has 53
size_is : (m i : ℕ) → i < 53 → 2 ^ 52 ≤ m * 2 ^ i → m * 2 ^ i < 2 ^ 53 → size m ≡ 53 - i
size_is m i h l u =
    let a : 2 ^ (53 - i) * 2 ^ i ≡ 2 ^ 53 = sym (pow-add 2 (53 - i) i) ∙ ap (λ (n : ℕ). 2 ^ n) (let e : 53 - i + i ≡ 53 = omega arith in e) in
    let b : 2 ^ (52 - i) * 2 ^ i ≡ 2 ^ 52 = sym (pow-add 2 (52 - i) i) ∙ ap (λ (n : ℕ). 2 ^ n) (let e : 52 - i + i ≡ 52 = omega arith in e) in
    let up : m < 2 ^ (53 - i) = lt_of_mul-lt-mul_right (2 ^ i) (subst (λ (n : ℕ). m * 2 ^ i < n) (sym a) u) in
    let low : size m ≤ 52 - i → ⊥ = λ s.
    lt_irrefl (2 ^ 52) (lt_of_le_of_lt l (subst (λ (n : ℕ). m * 2 ^ i < n) b (mul-lt-mul_of_pos_right (lt_of_lt_of_le (size-lt m) (pow_mono s)) (pow_pos i)))) in
    le_antisymm (size-le m (53 - i) up) (let g : 52 - i < size m = lt_of_not-le low in omega arith)

few : (m n : ℕ) → m % 2 ≡ 1 → m * 2 ^ n < 2 ^ 53 → n < 53
few m n o u = lt_of_not-le (λ (g : 53 ≤ n).
    let one : 1 ≤ m = omega arith in
    let a : 2 ^ n ≤ m * 2 ^ n = subst (λ (x : ℕ). x ≤ m * 2 ^ n) (let e : 1 * 2 ^ n ≡ 2 ^ n = omega arith in e) (mul-le-mul_right (2 ^ n) one) in
    lt_irrefl (2 ^ 53) (lt_of_le_of_lt (pow_mono g) (lt_of_le_of_lt a u)))

-- ---- ln of the shifted digits
scaled : (m i k z : ℕ) → m % 2 ≡ 1 → i + z < 53 → size m ≡ 53 - (i + z)
    → ln_of (fin false m (minus (k + i) 1074)) ≡ ln_scaled (fin false m (minus (1022 + (i + z)) 1074)) (minus k (1022 + z))
unfolding ln_of
scaled zero i k z o h s = absurd (let b : ⊥ = omega arith in b)
scaled (suc m) i k z o h s =
    ap (λ (n : ℕ). ln_scaled (fin false (suc m) (minus 0 (n - 1))) (minus (k + i) 1074 +ℤ pos (n - 1))) s
    ∙ ap₂ (λ (a b : ℤ). ln_scaled (fin false (suc m) a) b)
    (minus_same 0 (53 - (i + z) - 1) (1022 + (i + z)) 1074 (omega arith))
    (minus_add (k + i) 1074 (53 - (i + z) - 1) ∙ minus_same (k + i + (53 - (i + z) - 1)) 1074 k (1022 + z) (omega arith))

normalized : (q k z : ℕ) → 0 < q → q < 2 ^ 53 → 2 ^ 52 ≤ q * 2 ^ z → q * 2 ^ z < 2 ^ 53
    → ln_of (odd 53 false q k 1074) ≡ ln_scaled (odd 53 false (q * 2 ^ z) 1022 1074) (minus k (1022 + z))
normalized q k z h u lo hi =
    let p = odd_part 53 q h u in
    let m = p.k in
    let i = p.i in
    let e : q * 2 ^ z ≡ m * 2 ^ (i + z) = ap (λ (n : ℕ). n * 2 ^ z) p.is ∙ mul_assoc m (2 ^ i) (2 ^ z) ∙ ap (λ (n : ℕ). m * n) (sym (pow-add 2 i z)) in
    let s : i + z < 53 = few m (i + z) p.odd (rw e at hi) in
    ap (λ (n : ℕ). ln_of (odd 53 false n k 1074)) p.is
    ∙ ap ln_of (written m i k p.odd p.below)
    ∙ scaled m i k z p.odd s (size_is m (i + z) s (rw e at lo) (rw e at hi))
    ∙ ap (λ (x : Float). ln_scaled x (minus k (1022 + z))) (sym (written m (i + z) 1022 p.odd s) ∙ ap (λ (n : ℕ). odd 53 false n 1022 1074) (sym e))

-- ---- q shifted as the code shifts it
module _ (q : ℕ) (h : 0 < q) (u : q < 2 ^ 53) where
  shifted : Shift q (count_leading_zeros 64 q)
  shifted = shift q h u

  pub shift_enough : 11 ≤ count_leading_zeros 64 q
  shift_enough = shifted.enough

  pub pattern_fits : (q * 2 ^ (count_leading_zeros 64 q - 11)) % 18446744073709551616 + 4602678819172646912 < 18446744073709551616
  pattern_fits = omega (arith, shifted.whole, shifted.hi)

  pub pattern_no_nan : T (not (nan_bits binary64 ((q * 2 ^ (count_leading_zeros 64 q - 11)) % 18446744073709551616 + 4602678819172646912)))
  pattern_no_nan =
      subst (λ (n : ℕ). T (not (nan_bits binary64 (n + 4602678819172646912)))) (sym shifted.whole) (pattern_number _ shifted.lo shifted.hi)

  pub ln_shifted : (k z : ℕ) → z ≡ count_leading_zeros 64 q - 11
      → ln_scaled (of_bits binary64 ((q * 2 ^ z) % 18446744073709551616 + 4602678819172646912)) (minus k (1022 + z)) ≡ ln_of (odd 53 false q k 1074)
  ln_shifted k z e =
      let w = count_leading_zeros 64 q - 11 in
      rw e
      (ap (λ (n : ℕ). ln_scaled (of_bits binary64 (n + 4602678819172646912)) (minus k (1022 + w))) shifted.whole
      ∙ ap (λ (m : Float). ln_scaled m (minus k (1022 + w))) (pattern (q * 2 ^ w) shifted.lo shifted.hi)
      ∙ sym (normalized q k w h u shifted.lo shifted.hi))

-- The laws by which `ln_digits` is proved.
pub ruleset of_digits = (shift_enough, pattern_fits, pattern_no_nan, ln_shifted)

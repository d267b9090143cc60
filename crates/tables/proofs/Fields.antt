-- The fields of a positive finite float's bits, and the pattern of a significand with 53 digits.
-- 4503599627370496 is 2^52, 9223372036854775808 is 2^63, and 4602678819172646912 is 1022 times 2^52, the exponent of 1 less the significand's leading digit.
use Rattle.std.proofs.Common.{◌≡◌, ℕ, zero, suc, ◌+◌, ◌-◌, ◌*◌, ◌/◌, ◌%◌, ◌^◌, ◌<◌, ◌≤◌, Bool, true, false, cond, not, T, eqb, leb, sym, refl, ap, ◌∙◌, subst, ap₂, lt_of_lt_of_le, lt_of_le_of_lt, lt_irrefl, mul-le-mul_right, mod-eq_of_lt, mul-lt-mul_of_pos_right, lt_of_not-le, arith, pow_pos, pow_mono, pow-add, ne_eqb, bit_and, Float, to_bits}
use lib.Bits.{and_mask}
use lib.Count.{count_leading_zeros, leading_top}
use lib.Ieee.{nan, inf, binary64, lt, odd, fits, is_nan, nan_bits, of_bits, of_fields}
use lib.Ieee.Bits.{nan_bits_is, of_bits-to_bits}
use borrow.Author.Tests.{lt-leb}
use Rattle.floats.specs.Binary64.{zero64}
use Rattle.tables.specs.Ln.{infinity, ln_of}

-- ---- a significand with 53 digits
is_number : (d q k l : ℕ) → T (not (is_nan (odd d false q k l)))
unfolding odd is_nan
is_number d zero k l = tt
is_number d (suc q) k l = tt

pub pattern : (q : ℕ) → 2 ^ 52 ≤ q → q < 2 ^ 53 → of_bits binary64 (q + 4602678819172646912) ≡ odd 53 false q 1022 1074
unfolding of_bits of_fields
pattern q lo hi =
    let n = q + 4602678819172646912 in
    let s : leb 9223372036854775808 n ≡ false = lt-leb 9223372036854775808 n (omega arith) in
    let x : n % 9223372036854775808 / 4503599627370496 ≡ 1023 = omega arith in
    let t : n % 4503599627370496 ≡ q - 4503599627370496 = omega arith in
    let e : 4503599627370496 + (q - 4503599627370496) ≡ q = omega arith in
    ap (λ (b : Bool). of_fields binary64 b (n % 9223372036854775808 / 4503599627370496) (n % 4503599627370496)) s
    ∙ ap (λ (a : ℕ). of_fields binary64 false a (n % 4503599627370496)) x
    ∙ ap (λ (a : ℕ). of_fields binary64 false 1023 a) t
    ∙ ap (λ (a : ℕ). odd 53 false a 1022 1074) e

pub pattern_number : (q : ℕ) → 2 ^ 52 ≤ q → q < 2 ^ 53 → T (not (nan_bits binary64 (q + 4602678819172646912)))
pattern_number q lo hi =
    subst (λ (b : Bool). T (not b)) (sym (nan_bits_is binary64 (q + 4602678819172646912) ∙ ap is_nan (pattern q lo hi))) (is_number 53 q 1022 1074)

-- ---- the shift that gives 53 digits
pub record Shift (q z : ℕ) : Type 0 where
  pub enough : 11 ≤ z
  pub few : z ≤ 63
  pub lo : 2 ^ 52 ≤ q * 2 ^ (z - 11)
  pub hi : q * 2 ^ (z - 11) < 2 ^ 53
  pub whole : (q * 2 ^ (z - 11)) % 2 ^ 64 ≡ q * 2 ^ (z - 11)

pub shift : (q : ℕ) → 0 < q → q < 2 ^ 53 → Shift q (count_leading_zeros 64 q)
shift q h u =
    let t = leading_top 64 q h (lt_of_lt_of_le u (pow_mono {i = 53} {j = 64} (omega arith))) in
    let j = t.0 in
    let z = count_leading_zeros 64 q in
    let e : z + suc j ≡ 64 = t.1 in
    let l : j < 53 = lt_of_not-le (λ (g : 53 ≤ j). lt_irrefl (2 ^ 53) (lt_of_le_of_lt (pow_mono g) (lt_of_le_of_lt t.2 u))) in
    let a : 2 ^ j * 2 ^ (z - 11) ≡ 2 ^ 52 = sym (pow-add 2 j (z - 11)) ∙ ap (λ (n : ℕ). 2 ^ n) (let k : j + (z - 11) ≡ 52 = omega arith in k) in
    let b : 2 ^ suc j * 2 ^ (z - 11) ≡ 2 ^ 53 = sym (pow-add 2 (suc j) (z - 11)) ∙ ap (λ (n : ℕ). 2 ^ n) (let k : suc j + (z - 11) ≡ 53 = omega arith in k) in
    let u : q * 2 ^ (z - 11) < 2 ^ 53 = subst (λ (n : ℕ). q * 2 ^ (z - 11) < n) b (mul-lt-mul_of_pos_right t.3 (pow_pos (z - 11))) in
    record {
      enough = omega arith;
      few = omega arith;
      lo = subst (λ (n : ℕ). n ≤ q * 2 ^ (z - 11)) a (mul-le-mul_right (2 ^ (z - 11)) t.2);
      hi = u;
      whole = mod-eq_of_lt (omega arith);
    }

-- ---- a pattern whose value is above zero and finite
odd_not : (d q k l : ℕ) → T (lt zero64 (odd d true q k l)) → ⊥
unfolding odd of_bits lt
odd_not d zero k l h = h
odd_not d (suc q) k l h = h

negative_not : (x t : ℕ) → T (lt zero64 (of_fields binary64 true x t)) → ⊥
unfolding of_fields of_bits lt
negative_not zero t h = odd_not 53 t 0 1074 h
negative_not (suc x) t h = go (eqb (suc x) 2047) (eqb t 0) h
  where
    go : (a b : Bool) → T (lt zero64 (cond a (cond b (inf true) nan) (odd 53 true (4503599627370496 + t) x 1074))) → ⊥
    go true true h = h
    go true false h = h
    go false b h = odd_not 53 (4503599627370496 + t) x 1074 h

top_not : (t : ℕ) → T (lt (of_fields binary64 false 2047 t) infinity) → ⊥
unfolding of_bits of_fields lt
top_not t h = go (eqb t 0) h
  where
    go : (b : Bool) → T (lt (cond b (inf false) nan) (inf false)) → ⊥
    go true h = h
    go false h = h

zero_not : T (lt zero64 (of_fields binary64 false 0 0)) → ⊥
unfolding of_fields of_bits lt odd
zero_not h = h

pub record Fields (b : ℕ) : Type 0 where
  pub is : of_bits binary64 b ≡ of_fields binary64 false (b / 4503599627370496 % 2048) (b % 4503599627370496)
  pub finite : b / 4503599627370496 % 2048 < 2047
  pub some : b / 4503599627370496 % 2048 ≡ 0 → 0 < b % 4503599627370496

by_fields : (b : ℕ) → of_bits binary64 b ≡ of_fields binary64 (leb 9223372036854775808 b) (b / 4503599627370496 % 2048) (b % 4503599627370496)
unfolding of_bits
by_fields b =
    ap (λ (x : ℕ). of_fields binary64 (leb 9223372036854775808 b) x (b % 4503599627370496))
    (let e : b % 9223372036854775808 / 4503599627370496 ≡ b / 4503599627370496 % 2048 = omega arith in e)

sign : (b : ℕ) → T (lt zero64 (of_bits binary64 b)) → leb 9223372036854775808 b ≡ false
sign b h = go (leb 9223372036854775808 b) refl
  where
    go : (s : Bool) → leb 9223372036854775808 b ≡ s → leb 9223372036854775808 b ≡ false
    go true e = absurd (negative_not (b / 4503599627370496 % 2048) (b % 4503599627370496)
        (subst (λ (f : Float). T (lt zero64 f)) (by_fields b ∙ ap (λ (s : Bool). of_fields binary64 s (b / 4503599627370496 % 2048) (b % 4503599627370496)) e) h))
    go false e = e

fields : (b : ℕ) → T (lt zero64 (of_bits binary64 b)) → T (lt (of_bits binary64 b) infinity) → Fields b
fields b h u =
    let x = b / 4503599627370496 % 2048 in
    let t = b % 4503599627370496 in
    let e : of_bits binary64 b ≡ of_fields binary64 false x t = by_fields b ∙ ap (λ (s : Bool). of_fields binary64 s x t) (sign b h) in
    let ne : x ≡ 2047 → ⊥ = λ q. top_not t (subst (λ (f : Float). T (lt f infinity)) (e ∙ ap (λ (n : ℕ). of_fields binary64 false n t) q) u) in
    let nz : x ≡ 0 → t ≡ 0 → ⊥ = λ q r. zero_not (subst (λ (f : Float). T (lt zero64 f)) (e ∙ ap₂ (λ (n m : ℕ). of_fields binary64 false n m) q r) h) in
    record {
      is = e;
      finite = lt_of_not-le (λ (g : 2047 ≤ x). ne (omega arith));
      some = λ q. lt_of_not-le (λ (g : t ≤ 0). nz q (omega arith));
    }

-- ---- the fields as the code masks them
pub field : (b : ℕ) → bit_and (b / 4503599627370496) 2047 ≡ b / 4503599627370496 % 2048
field b = and_mask (b / 4503599627370496) 11

pub digits : (b : ℕ) → bit_and b 4503599627370495 ≡ b % 4503599627370496
digits b = and_mask b 52

-- ---- what the fields stand for
pub at_zero : (t : ℕ) → of_fields binary64 false 0 t ≡ odd 53 false t 0 1074
unfolding of_fields
at_zero t = refl

pub at_suc : (x t : ℕ) → 0 < x → x < 2047 → of_fields binary64 false x t ≡ odd 53 false (t + 4503599627370496) (x - 1) 1074
unfolding of_fields
at_suc zero t p h = absurd (let b : ⊥ = omega arith in b)
at_suc (suc x) t p h =
    let n : eqb (suc x) 2047 ≡ false = ne_eqb (suc x) 2047 (λ e. let b : ⊥ = omega arith in b) in
    ap (λ (a : Bool). cond a (cond (eqb t 0) (inf false) nan) (odd 53 false (4503599627370496 + t) x 1074)) n
    ∙ ap₂ (λ (a k : ℕ). odd 53 false a k 1074) (let e : 4503599627370496 + t ≡ t + 4503599627370496 = omega arith in e) (let e : x ≡ suc x - 1 = omega arith in e)

-- ---- a float above zero and below infinity, by its bits as the code masks them
module _ (x : Float) (float : fits binary64 x ≡ true) (positive : lt zero64 x ≡ true) (finite : lt x infinity ≡ true) where
  abbrev b : ℕ
  b = to_bits binary64 x

  back : of_bits binary64 b ≡ x
  back = of_bits-to_bits binary64 x (subst T (sym float) tt)

  parts : Fields b
  parts = fields b (rw back (subst T (sym positive) tt)) (rw back (subst T (sym finite) tt))

  pub digits_some : bit_and (to_bits binary64 x / 4503599627370496) 2047 ≡ 0 → 0 < bit_and (to_bits binary64 x) 4503599627370495
  digits_some e = rw (digits b) (parts.some (sym (field b) ∙ e))

  pub field_fits : bit_and (to_bits binary64 x / 4503599627370496) 2047 < 2047
  field_fits = rw (field b) parts.finite

  pub ln_small : bit_and (to_bits binary64 x / 4503599627370496) 2047 ≡ 0 → ln_of (odd 53 false (bit_and (to_bits binary64 x) 4503599627370495) 0 1074) ≡ ln_of x
  ln_small e =
      let t = b % 4503599627370496 in
      ap (λ (n : ℕ). ln_of (odd 53 false n 0 1074)) (digits b)
      ∙ sym (ap ln_of (sym back ∙ parts.is ∙ ap (λ (n : ℕ). of_fields binary64 false n t) (sym (field b) ∙ e) ∙ at_zero t))

  pub ln_large : (bit_and (to_bits binary64 x / 4503599627370496) 2047 ≡ 0 → ⊥)
      → ln_of (odd 53 false (bit_and (to_bits binary64 x) 4503599627370495 + 4503599627370496) (bit_and (to_bits binary64 x / 4503599627370496) 2047 - 1) 1074) ≡ ln_of x
  ln_large e =
      let t = b % 4503599627370496 in
      let n = b / 4503599627370496 % 2048 in
      let p : 0 < n = lt_of_not-le (λ (g : n ≤ 0). e (field b ∙ omega arith)) in
      ap₂ (λ (m k : ℕ). ln_of (odd 53 false (m + 4503599627370496) (k - 1) 1074)) (digits b) (field b)
      ∙ sym (ap ln_of (sym back ∙ parts.is ∙ at_suc n t p parts.finite))

pub digits_fit : (b : ℕ) → bit_and b 4503599627370495 < 4503599627370496
digits_fit b = omega (arith, digits b)

-- The laws by which `ln_finite` is proved.
pub ruleset by_bits = (digits_some, digits_fit, field_fits, ln_small, ln_large)

-- ln of a whole number n = 1 .. 65535 is the formula at m = n / 2^e with 2^e next to n.
use Rattle.std.proofs.Common.{◌≡◌, refl, sym, ap, ◌∙◌, subst, ◌↔◌, Bool, true, false, not, cond, ◌&&◌, ℕ, zero, suc, ◌+◌, ◌-◌, ◌*◌, ◌%◌, ◌^◌, ◌≤◌, ◌<◌, le_trans, le_of_suc-le-suc, mul_comm, lt_of_mul-lt-mul_right, mul-lt-mul_of_pos_right, le_of_eq, le-mul_of_pos_right, lt_of_lt_of_le, lt_of_le_of_lt, lt_of_not-le, zero-lt-suc, mul-one, mul-pos, mul-le-mul_left, mul-le-mul_right, le_of_mul-le-mul_right, pow-suc, add-one, arith, T, T_not, leb, ltb, eqb, leb→le, ltb→lt, nltb→le, eqb→eq, le→leb, lt→ltb, lit<, lit≤, pow-add, pow_pos, pow_mono, ℤ, pos, negsuc, Float}
use native.Mathlib.Nat.{eq_of_mul-eq-mul_right}
use lib.Dec.{nleb→lt}
use lib.Ieee.{nan, inf, fin, binary64, up, down, minus, size, fits, lt, of_bits}
use lib.Ieee.Digits.{minus_val, size-lt, size_reaches}
use lib.Ieee.Fits.{down_pos, and_i, and_l, eq→eqb}
use Rattle.floats.specs.Arithmetic.{◌⊘◌}
use Rattle.floats.specs.Binary64.{one, number, two64}
use Rattle.floats.specs.Value.{magnitude}
use Rattle.floats.proofs.Value.{magnitude_whole}
use Rattle.floats.proofs.Compare.{lt_value}
use Rattle.floats.proofs.Binary64.{one_pos}
use Rattle.floats.proofs.Sized.{Sized, sized_value, sized_parts, number_sized, div_exact}
use Rattle.tables.specs.Ln.{root2, ln_parts, ln_scaled, ln_of}
use Rattle.tables.proofs.LnBound.Parts.{Computed, two_sized, parts_computed}

-- ---- m = K / 2^s, a float
fits_by : (k : ℕ) (e : ℤ) → suc k % 2 ≡ 1 → suc k < 2 ^ 53 → up e ≡ 1 → down e ≤ 2 ^ 1074 → 0 < down e → T (fits binary64 (fin false (suc k) e))
unfolding fits
fits_by k e o h u d p =
    and_i (eqb (suc k % 2) 1 && ltb (suc k) (2 ^ 53) && leb (down e) (2 ^ 1074)) (ltb (suc k * up e) (2 ^ 1024 * down e))
    (and_i (eqb (suc k % 2) 1 && ltb (suc k) (2 ^ 53)) (leb (down e) (2 ^ 1074))
    (and_i (eqb (suc k % 2) 1) (ltb (suc k) (2 ^ 53)) (eq→eqb o) (lt→ltb (suc k) (2 ^ 53) h)) (le→leb (down e) (2 ^ 1074) d))
    (lt→ltb (suc k * up e) (2 ^ 1024 * down e)
    (subst (λ (z : ℕ). suc k * z < 2 ^ 1024 * down e) (sym u)
    (lt_of_le_of_lt (le_of_eq (mul-one (suc k))) (lt_of_lt_of_le h (le_trans (pow_mono {i = 53} {j = 1024} (lit≤ tt)) (le-mul_of_pos_right (2 ^ 1024) p))))))

scaled_fits : (k s : ℕ) → suc k % 2 ≡ 1 → suc k < 2 ^ 53 → s ≤ 1074 → T (fits binary64 (fin false (suc k) (minus 0 s)))
scaled_fits k s o h l = go (leb s 0) (leb→le s 0) (nleb→lt s 0)
  where
    go : (b : Bool) → (T b → s ≤ 0) → (T (not b) → 0 < s) → T (fits binary64 (fin false (suc k) (cond b (pos (0 - s)) (negsuc (s - suc 0)))))
    go true x y = let z : 0 - s ≡ 0 = omega arith in rw z (fits_by k (pos 0) o h refl (lit≤ tt) (lit< tt))
    go false x y = let z = y tt in fits_by k (negsuc (s - suc 0)) o h refl (pow_mono (let w : suc (s - suc 0) ≤ 1074 = omega arith in w)) (pow_pos (suc (s - suc 0)))

value_is : (K u d S I J L n : ℕ) → K * u * S ≡ K * 1 * d → L ≡ S * (I * J) → n ≡ K * I → K * u * L ≡ n * J * d
value_is K u d S I J L n p q r = omega (arith, ap (λ (z : ℕ). z * (I * J)) p, ap (λ (z : ℕ). K * u * z) q, ap (λ (z : ℕ). z * (J * d)) r)

pub scaled_sized : (k s i j n : ℕ) → suc k % 2 ≡ 1 → suc k < 2 ^ 53 → i + s + j ≡ 1074 → n ≡ suc k * 2 ^ i → Sized false (n * 2 ^ j) (fin false (suc k) (minus 0 s))
scaled_sized k s i j n o h e q =
    sized_value (fin false (suc k) (minus 0 s)) false (n * 2 ^ j) (scaled_fits k s o h (omega arith)) (
      refl,
      value_is (suc k) (up (minus 0 s)) (down (minus 0 s)) (2 ^ s) (2 ^ i) (2 ^ j) (2 ^ 1074) n (minus_val (suc k) 0 s)
          (ap (λ (z : ℕ). 2 ^ z) (let w : 1074 ≡ s + (i + j) = omega arith in w) ∙ pow-add 2 s (i + j) ∙ ap (λ (z : ℕ). 2 ^ s * z) (pow-add 2 i j)) q,
    )

-- ---- which power of two
pub record Split (n : ℕ) (r : Float) : Type 0 where
  pub e : ℕ
  pub few : e ≤ 16
  pub low : 24 * 2 ^ e ≤ 34 * n
  pub high : 24 * n ≤ 34 * 2 ^ e
  pub computed : Computed n e r

-- the float root2 is R / 2^52; R^2 is a little more than 2^105
root_units : ℕ
root_units = 6369051672525773 * 2 ^ 1022

root2_sized : Sized false root_units root2
unfolding of_bits fits magnitude root_units
root2_sized = record { ok = record { finite = tt; fits = tt }; sign_is = refl; units = refl }

-- r units against n * J units, where J * X is one
compare_up : (R n J X u o : ℕ) → 0 < u → 0 < X → o ≡ 4503599627370496 * u → X * J ≡ o → R * u < n * J → R * X < 4503599627370496 * n
compare_up R n J X u o U P oe e h = lt_of_mul-lt-mul_right u (let a : R * u * X < n * J * X = mul-lt-mul_of_pos_right h P in let z : R * X * u < 4503599627370496 * n * u = omega (arith, ap (λ (z : ℕ). n * z) e, ap (λ (z : ℕ). n * z) oe) in z)

compare_down : (R n J X u o : ℕ) → 0 < u → o ≡ 4503599627370496 * u → X * J ≡ o → n * J ≤ R * u → 4503599627370496 * n ≤ R * X
compare_down R n J X u o U oe e h = le_of_mul-le-mul_right (let a : n * J * X ≤ R * u * X = mul-le-mul_right X h in let z : 4503599627370496 * n * u ≤ R * X * u = omega (arith, ap (λ (z : ℕ). n * z) e, ap (λ (z : ℕ). n * z) oe) in z) U

-- ---- the test, and the halving
not_below_lem : {a b : ℕ} (t : Bool) → (T t ↔ (a < b)) → T (not t) → b ≤ a
not_below_lem {a} {b} t f h = go (ltb a b) (ltb→lt a b) (nltb→le a b)
  where
    go : (c : Bool) → (T c → a < b) → (T (not c) → b ≤ a) → b ≤ a
    go true x y = absurd (T_not t h (f.1 (x tt)))
    go false x y = y tt

root_split : (o : ℕ) → o ≡ one → o ≡ 4503599627370496 * 2 ^ 1022
unfolding one
root_split o e = e

against : (m : Float) (g : ℕ) → Sized false g m → T (lt root2 m) ↔ (root_units < g)
against m g M =
    let v = lt_value root2_sized.ok M.ok in
    let a = sized_parts root2_sized in
    let b = sized_parts M in
    (λ t. let h = v.0 t in omega arith, λ h. v.1 (omega arith))

half_units : (n A B o : ℕ) → A ≡ B * 2 → n * A * o ≡ n * B * (2 * o)
half_units n A B o h = omega (arith, ap (λ (z : ℕ). n * z * o) h)

module _ (n e j : ℕ) (m : Float) (units : e + suc j ≡ 1074) (few : n ≤ 65535) (M : Sized false (n * 2 ^ suc j) m) (lo : 2 ^ e ≤ n) (hi : n < 2 * 2 ^ e) (E : e ≤ 15) where
  whole : 2 ^ e * 2 ^ suc j ≡ one
  unfolding one
  whole = sym (pow-add 2 e (suc j)) ∙ ap (λ (k : ℕ). 2 ^ k) units

  small : 2 ^ e ≤ 32768
  small = pow_mono E

  kept : n * 2 ^ suc j ≤ root_units → Split n (ln_parts m (pos e))
  unfolding root_units
  kept l =
      let s = small in
      let c = compare_down 6369051672525773 n (2 ^ suc j) (2 ^ e) (2 ^ 1022) one (pow_pos 1022) (root_split one refl) whole l in
      record {
        e = e;
        few = omega arith;
        low = omega arith;
        high = omega arith;
        computed = parts_computed n e (suc j) m units (omega arith) M (omega arith) (omega arith) (omega arith);
      }

  halved_sized : Sized false (n * 2 ^ j) (m ⊘ two64)
  halved_sized = div_exact M two_sized n j (omega arith) (omega arith) (let o = one_pos in omega arith) (half_units n (2 ^ suc j) (2 ^ j) one (pow-suc 2 j))

  halved : root_units < n * 2 ^ suc j → Split n (ln_parts (m ⊘ two64) (pos (e + 1)))
  unfolding root_units
  halved l =
      let s = small in
      let c = compare_up 6369051672525773 n (2 ^ suc j) (2 ^ e) (2 ^ 1022) one (pow_pos 1022) (pow_pos e) (root_split one refl) whole l in
      let t : 2 ^ (e + 1) ≡ 2 * 2 ^ e = ap (λ (z : ℕ). 2 ^ z) (add-one e) ∙ pow-suc 2 e ∙ mul_comm (2 ^ e) 2 in
      record {
        e = e + 1;
        few = omega arith;
        low = omega arith;
        high = omega arith;
        computed = parts_computed n (e + 1) j (m ⊘ two64) (omega arith) (omega arith) halved_sized (omega arith) (omega arith) (omega arith);
      }

  pub scaled_split : Split n (ln_scaled m (pos e))
  unfolding ln_scaled
  scaled_split = let o = against m (n * 2 ^ suc j) M in go (lt root2 m) o.0 (not_below_lem (lt root2 m) o)
    where
      go : (b : Bool) → (T b → root_units < n * 2 ^ suc j) → (T (not b) → n * 2 ^ suc j ≤ root_units) → Split n (cond b (ln_parts (m ⊘ two64) (pos (e + 1))) (ln_parts m (pos e)))
      go true x y = halved (x tt)
      go false x y = kept (y tt)

-- ---- a whole number as a float is K * 2^i with an odd K, and m is K / 2^s with s + 1 the number of K's digits
digits : (K : ℕ) → 0 < K → (2 ^ (size K - 1) ≤ K) × (K < 2 * 2 ^ (size K - 1))
digits K h =
    let some : 0 < size K = lt_of_not-le (λ (z : size K ≤ 0). let a = size-lt K in let b : 2 ^ size K ≤ 1 = pow_mono z in let c : ⊥ = omega arith in c) in
    let t : size K ≡ suc (size K - 1) = omega arith in
    let u : 2 ^ size K ≡ 2 ^ (size K - 1) * 2 = ap (λ (z : ℕ). 2 ^ z) t ∙ pow-suc 2 (size K - 1) in
    (size_reaches K (size K - 1) (omega arith), let a = size-lt K in omega arith)

exponent_few : (e n : ℕ) → 2 ^ e ≤ n → n ≤ 65535 → e ≤ 15
exponent_few e n h l = le_of_suc-le-suc (lt_of_not-le (λ (g : 16 ≤ e). let a : 65536 ≤ 2 ^ e = pow_mono g in let c : ⊥ = omega arith in c))

odd_of : (k : ℕ) (e : ℤ) → T (fits binary64 (fin false (suc k) e)) → suc k % 2 ≡ 1
unfolding fits
odd_of k e h = eqb→eq (suc k % 2) 1
    (and_l (eqb (suc k % 2) 1) (ltb (suc k) (2 ^ 53))
    (and_l (eqb (suc k % 2) 1 && ltb (suc k) (2 ^ 53)) (leb (down e) (2 ^ 1074))
    (and_l (eqb (suc k % 2) 1 && ltb (suc k) (2 ^ 53) && leb (down e) (2 ^ 1074)) (ltb (suc k * up e) (2 ^ 1024 * down e)) h)))

value_of : (k : ℕ) (e : ℤ) (n : ℕ) → Sized false (n * one) (fin false (suc k) e) → n * down e ≡ suc k * up e
unfolding one
value_of k e n X = cancel n (down e) (suc k) (up e) (2 ^ 1074) (pow_pos 1074) (ap (λ (z : ℕ). z * down e) (sym X.units) ∙ magnitude_whole binary64 false (suc k) e X.ok.fits)
  where
    cancel : (n d K u o : ℕ) → 0 < o → n * o * d ≡ K * u * o → n * d ≡ K * u
    cancel n d K u o p h = eq_of_mul-eq-mul_right o p (n * d) (K * u) (let z : n * d * o ≡ K * u * o = omega arith in z)

module _ (k i n : ℕ) (odd : suc k % 2 ≡ 1) (is : n * 1 ≡ suc k * 2 ^ i) (few : n ≤ 65535) where
  abbrev s : ℕ
  s = size (suc k) - 1

  bounds : (2 ^ (i + s) ≤ n) × (n < 2 * 2 ^ (i + s)) × (suc k ≤ n)
  bounds =
      let d = digits (suc k) (zero-lt-suc k) in
      let p = pow-add 2 i s in
      let I = pow_pos i in
      (omega (arith, mul-le-mul_right (2 ^ i) d.0), omega (arith, mul-lt-mul_of_pos_right d.1 I), omega (arith, mul-le-mul_left (suc k) I))

  positive_split : Split n (ln_scaled (fin false (suc k) (minus 0 s)) (pos (i + s)))
  positive_split =
      let b = bounds in
      let E = exponent_few (i + s) n b.0 few in
      let u : i + s + suc (1073 - (i + s)) ≡ 1074 = omega arith in
      scaled_split n (i + s) (1073 - (i + s)) (fin false (suc k) (minus 0 s)) u few (scaled_sized k s i (suc (1073 - (i + s))) n odd (omega arith) u (omega arith)) b.0 b.1 E

never_even : (k n i : ℕ) → suc k % 2 ≡ 1 → n * 2 ^ suc i ≡ suc k * 1 → ⊥
never_even k n i o h = let p = pow-suc 2 i in omega (arith, ap (λ (z : ℕ). n * z) p)

no_sign : true ≡ false → ⊥
no_sign z = let n : ◌≡◌ {A = ℕ} 0 1 = cc in omega arith

no_zero : (e : ℤ) (n : ℕ) → 0 < n → Sized false (n * one) (fin false 0 e) → ⊥
unfolding one
no_zero e n h X = nothing n (down e) (up e) (2 ^ 1074) h (down_pos e) (pow_pos 1074) (ap (λ (z : ℕ). z * down e) (sym X.units) ∙ magnitude_whole binary64 false 0 e X.ok.fits)
  where
    nothing : (n d u o : ℕ) → 0 < n → 0 < d → 0 < o → n * o * d ≡ 0 * u * o → ⊥
    nothing n d u o a b c h = omega (arith, mul-pos (mul-pos a c) b)

float_split : (x : Float) (n : ℕ) → 0 < n → n ≤ 65535 → Sized false (n * one) x → Split n (ln_of x)
unfolding ln_of
float_split nan n h l X = absurd X.ok.finite
float_split (inf s) n h l X = absurd X.ok.finite
float_split (fin true zero e) n h l X = absurd (no_sign X.sign_is)
float_split (fin true (suc k) e) n h l X = absurd (no_sign X.sign_is)
float_split (fin false zero e) n h l X = absurd (no_zero e n h X)
float_split (fin false (suc k) (pos i)) n h l X = positive_split k i n (odd_of k (pos i) X.ok.fits) (value_of k (pos i) n X) l
float_split (fin false (suc k) (negsuc i)) n h l X = absurd (never_even k n i (odd_of k (negsuc i) X.ok.fits) (value_of k (negsuc i) n X))

pub number_split : (n : ℕ) → 0 < n → n ≤ 65535 → Split n (ln_of (number n))
number_split n h l = float_split (number n) n h l (number_sized n (omega arith))

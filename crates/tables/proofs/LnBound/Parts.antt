-- ln of m * 2^e by the code's formula, for m = n / 2^e near 1: e times the constant for ln 2, and 2 z times the series, each near its exact value.
use Rattle.std.proofs.Common.{◌≡◌, refl, sym, ap, ◌∙◌, subst, Bool, true, false, not, ℕ, ◌+◌, ◌-◌, ◌*◌, ◌^◌, ◌≤◌, ◌<◌, le_trans, mul-pos, mul-le-mul, mul-le-mul_left, mul-le-mul_right, le_of_mul-le-mul_right, arith, T, ltb, ltb→lt, nltb→le, lit<, lit≤, pow-add, pow_pos, pow_mono, pos, Float}
use lib.Ieee.{binary64, unlike, fits, of_bits}
use Rattle.floats.specs.Arithmetic.{◌⊕◌, ◌⊖◌, ◌⊗◌, ◌⊘◌}
use Rattle.floats.specs.Value.{magnitude}
use Rattle.floats.specs.Binary64.{one, number, one64, two64}
use Rattle.floats.specs.Terms.Rounded.{Near, eps}
use Rattle.floats.proofs.Value.{if_pos, if_neg}
use Rattle.floats.proofs.Constants.{two64_is}
use Rattle.floats.proofs.Binary64.{one_pos, one_eps, add64}
use Rattle.floats.proofs.Sized.{Sized, sized_parts, number_sized, add_exact, sub_exact, sub_exact_below, mul_rounded}
use Rattle.tables.specs.Ln.{ln2, ln_series, ln_parts}
use Rattle.tables.proofs.LnBound.Close.{Close, close_below, Approx, approx_as, approx_wider, approx_mul, approx_div}
use Rattle.tables.proofs.LnBound.Horner.{num, den, den_pos, num_small, one_sized, series_near}

-- ---- signs
unlike_same : (s : Bool) → unlike s s ≡ false
unlike_same true = refl
unlike_same false = refl

unlike_plus : (s : Bool) → unlike s false ≡ s
unlike_plus true = refl
unlike_plus false = refl

plus_unlike : (s : Bool) → unlike false s ≡ s
plus_unlike true = refl
plus_unlike false = refl

pub two_sized : Sized false (2 * one) two64
two_sized = subst (λ (x : Float). Sized false (2 * one) x) (sym two64_is) (number_sized 2 (lit< tt))

doubled : (g o : ℕ) → g ≤ o → 2 * o * g ≤ 16 * o * o
doubled g o h = omega (arith, mul-le-mul_left o h)

-- ---- z near p / q
square_room : (e o p q g : ℕ) → o ≡ 18014398509481984 * e → p * 29 ≤ 5 * q → g * q ≤ p * o + 16 * e * q → 16 * e * p * o + 16 * e * (q * g) ≤ 8 * e * (q * o)
square_room e o p q g oe h k = omega (arith, mul-le-mul_right (e * o) h, mul-le-mul_right (16 * e) k, ap (λ (z : ℕ). z * (e * q)) oe)

pub squares : (p q : ℕ) → p * 29 ≤ 5 * q → 32 * (p * p) ≤ q * q
squares p q h = omega (arith, mul-le-mul h h)

product_room : (e o N D x : ℕ) → N * 2 ≤ 3 * D → x * 2 ≤ 1 * o → 48 * e * N * o + 101 * e * (D * x) ≤ 123 * e * (D * o)
product_room e o N D x h k = omega (arith, mul-le-mul_right (e * o) h, mul-le-mul_left (e * D) k)

module _ (s : Bool) (p q : ℕ) (ratio : p * 29 ≤ 5 * q) (Q : 0 < q) (z : Float) (Z : Approx s (16 * eps) p q z) where
  z_small : Z.g ≤ one
  z_small = let oe = one_eps in let k : Z.g * 1 ≤ 1 * one = close_below 5 29 1 1 Q Z.close ratio (omega arith) (lit< tt) in omega arith

  square_near : Approx false (24 * eps) (p * p) (q * q) (z ⊗ z)
  square_near =
      subst (λ (t : Bool). Approx t (24 * eps) (p * p) (q * q) (z ⊗ z)) (unlike_same s)
      (approx_wider (approx_mul Z Z (8 * eps) (square_room eps one p q Z.g one_eps ratio Z.close.upper) (le_trans (mul-le-mul z_small z_small) (let y : one * one ≤ 16 * one * one = omega arith in y))) (omega arith))

  abbrev N : ℕ
  N = num (p * p) (q * q) 0 20

  abbrev D : ℕ
  D = den (q * q) 0 20

  sum_near : Approx false (101 * eps) N D (ln_series (z ⊗ z))
  sum_near = series_near (p * p) (q * q) (squares p q ratio) (mul-pos Q Q) (z ⊗ z) square_near 9

  twice_near : Approx s (48 * eps) (2 * p) q (two64 ⊗ z)
  twice_near =
      let two : Approx false 0 2 1 two64 = record { g = 2 * one; sized = two_sized; close = record { upper = omega arith; lower = omega arith } } in
      subst (λ (t : Bool). Approx t (48 * eps) (2 * p) q (two64 ⊗ z)) (plus_unlike s)
      (approx_as 1 (lit< tt) (approx_mul two Z (32 * eps) (omega arith) (doubled Z.g one z_small)) (omega arith) (omega arith) (omega arith))

  -- 2 z times the series
  pub tail_near : Approx s (139 * eps) (2 * p * N) (q * D) (two64 ⊗ z ⊗ ln_series (z ⊗ z))
  tail_near =
      let oe = one_eps in
      let A = twice_near in
      let H = sum_near in
      let n_small : N * 2 ≤ 3 * D = num_small (p * p) (q * q) 0 20 (squares p q ratio) in
      let a_small : A.g * 2 ≤ 1 * one = close_below 10 29 1 2 Q A.close (omega arith) (omega arith) (lit< tt) in
      let h_small : H.g * 1 ≤ 2 * one = close_below 3 2 2 1 (den_pos (q * q) 0 20 (mul-pos Q Q)) H.close n_small (omega arith) (lit< tt) in
      subst (λ (t : Bool). Approx t (139 * eps) (2 * p * N) (q * D) (two64 ⊗ z ⊗ ln_series (z ⊗ z))) (unlike_plus s)
      (approx_wider (approx_mul A H (123 * eps) (product_room eps one N D A.g n_small a_small) (le_trans (mul-le-mul (let x : A.g ≤ one = omega arith in x) (let x : H.g ≤ 2 * one = omega arith in x)) (let y : one * (2 * one) ≤ 16 * one * one = omega arith in y))) (omega arith))

-- ---- e times the constant, plus y
-- the constant, in units
abbrev pub constant : ℕ
constant = 12486629536330718 * eps

ln2_sized : Sized false constant ln2
unfolding of_bits fits magnitude eps
ln2_sized = record { ok = record { finite = tt; fits = tt }; sign_is = refl; units = refl }

sized_product : (e o u : ℕ) → e ≤ 16 → o ≡ 18014398509481984 * u → e * o * (12486629536330718 * u) ≤ 16 * o * o
sized_product e o u h oe = omega (arith, mul-le-mul_right (o * u) h, ap (λ (z : ℕ). z * o) oe)

cases : (s : Bool) (g o : ℕ) → g ≤ o → (if_pos s g ≤ o) × (if_neg s g ≤ o)
cases true g o h = (omega arith, h)
cases false g o h = (h, omega arith)

-- y is at most 1 in size
pub both_near : (e : ℕ) (s : Bool) (g : ℕ) (y : Float) → e ≤ 16 → Sized s g y → g ≤ one → Near binary64 (number e ⊗ ln2 ⊕ y) (e * constant + if_pos s g) (if_neg s g) (32 * eps)
both_near e s g y h Y l =
    let oe = one_eps in
    let eo = mul-le-mul_right eps h in
    let r = mul_rounded (number_sized e (omega arith)) ln2_sized 4 (lit≤ tt) (sized_product e one eps h one_eps) in
    let ru : r.g ≤ e * constant + 16 * eps = le_of_mul-le-mul_right (let u = r.upper in let z : r.g * one ≤ (e * constant + 16 * eps) * one = omega arith in z) one_pos in
    let rl : e * constant ≤ r.g + 16 * eps = le_of_mul-le-mul_right (let u = r.lower in let z : e * constant * one ≤ (r.g + 16 * eps) * one = omega arith in z) one_pos in
    let a = sized_parts r.sized in
    let b = sized_parts Y in
    let c = cases s g one l in
    let n = add64 4 (lit≤ tt) r.sized.ok Y.ok (omega arith) (omega arith) in
    let u = n.upper in
    let v = n.lower in
    record { ok = n.ok; upper = omega arith; lower = omega arith }

-- ---- n is p above X, or p below it
abbrev Apart : Bool → ℕ → ℕ → ℕ → Type 0
Apart false n X p = n ≡ X + p
Apart true n X p = (X ≡ n + p) × (0 < p)

few_units : (s : Bool) (n X p : ℕ) → Apart s n X p → p ≤ 16 * (n + X)
few_units false n X p h = omega arith
few_units true n X p h = omega arith

-- ---- m is n / 2^e
module _ (n e j : ℕ) (m : Float) (units : e + j ≡ 1074) (few : n ≤ 65536) (M : Sized false (n * 2 ^ j) m) where
  unit : 2 ^ e * 2 ^ j ≡ one
  unfolding one
  unit = sym (pow-add 2 e j) ∙ ap (λ (k : ℕ). 2 ^ k) units

  sum_exact : 2 ^ e ≤ 131072 → Sized false ((n + 2 ^ e) * 2 ^ j) (m ⊕ one64)
  sum_exact k = add_exact M one_sized (n + 2 ^ e) j (omega arith) (omega arith) (let u = unit in omega arith)

  difference : (s : Bool) (p : ℕ) → 2 ^ e ≤ 131072 → Apart s n (2 ^ e) p → Sized s (p * 2 ^ j) (m ⊖ one64)
  difference false p k h = sub_exact M one_sized p j (omega arith) (omega arith) (let u = unit in omega (arith, ap (λ (z : ℕ). z * 2 ^ j) h))
  difference true p k h = sub_exact_below M one_sized p j (omega arith) (omega arith) h.1 (let u = unit in omega (arith, ap (λ (z : ℕ). z * 2 ^ j) h.0))

  z_near : (s : Bool) (p : ℕ) → 2 ^ e ≤ 131072 → Apart s n (2 ^ e) p → Approx s (16 * eps) p (n + 2 ^ e) ((m ⊖ one64) ⊘ (m ⊕ one64))
  z_near s p k h =
      let w = pow_pos e in
      subst (λ (t : Bool). Approx t (16 * eps) p (n + 2 ^ e) ((m ⊖ one64) ⊘ (m ⊕ one64))) (unlike_plus s)
      (approx_div p (n + 2 ^ e) (2 ^ j) (difference s p k h) (sum_exact k) (pow_pos j) (omega arith) (few_units s n (2 ^ e) p h))

-- ---- the formula's result: `up` is near the 20 terms at z = (n - 2^e) / (n + 2^e), `down` near those at z = (2^e - n) / (n + 2^e), and one of the two is 0
abbrev pub NearTail : ℕ → ℕ → ℕ → Type 0
NearTail p q g = Close (139 * eps) g (2 * p * num (p * p) (q * q) 0 20) (q * den (q * q) 0 20)

pub record Computed (n e : ℕ) (r : Float) : Type 0 where
  pub up : ℕ
  pub down : ℕ
  pub near : Near binary64 r (e * constant + up) down (32 * eps)
  pub up_near : NearTail (n - 2 ^ e) (n + 2 ^ e) up
  pub down_near : NearTail (2 ^ e - n) (n + 2 ^ e) down

none : (p q : ℕ) → p ≡ 0 → NearTail p q 0
none p q h = rw h (record { upper = omega arith; lower = omega arith })

fifteenths : (p q N D : ℕ) → p * 29 ≤ 5 * q → N * 2 ≤ 3 * D → 2 * p * N * 29 ≤ 15 * (q * D)
fifteenths p q N D h k = omega (arith, mul-le-mul_right N h, mul-le-mul_left q k)

tail_small : (p q g : ℕ) → p * 29 ≤ 5 * q → 0 < q → NearTail p q g → g ≤ one
tail_small p q g ratio Q c =
    let oe = one_eps in
    let N = num (p * p) (q * q) 0 20 in
    let D = den (q * q) 0 20 in
    let b = fifteenths p q N D ratio (num_small (p * p) (q * q) 0 20 (squares p q ratio)) in
    let k : g * 1 ≤ 1 * one = close_below 15 29 1 1 (mul-pos Q (den_pos (q * q) 0 20 (mul-pos Q Q))) c b (omega arith) (lit< tt) in
    omega arith

apart_ratio : (s : Bool) (n X p : ℕ) → Apart s n X p → 24 * X ≤ 34 * n → 24 * n ≤ 34 * X → p * 29 ≤ 5 * (n + X)
apart_ratio false n X p h lo hi = omega arith
apart_ratio true n X p h lo hi = omega arith

tails : (s : Bool) (n X p q g : ℕ) → Apart s n X p → NearTail p q g → NearTail (n - X) q (if_pos s g) × NearTail (X - n) q (if_neg s g)
tails false n X p q g h c = (subst (λ (x : ℕ). NearTail x q g) (let x : p ≡ n - X = omega arith in x) c, none (X - n) q (omega arith))
tails true n X p q g h c = (none (n - X) q (omega arith), subst (λ (x : ℕ). NearTail x q g) (let x : p ≡ X - n = omega arith in x) c)

module _ (n e j : ℕ) (m : Float) (units : e + j ≡ 1074) (few : n ≤ 65536) (M : Sized false (n * 2 ^ j) m) (lo : 24 * 2 ^ e ≤ 34 * n) (hi : 24 * n ≤ 34 * 2 ^ e) (E : e ≤ 16) where
  small : 2 ^ e ≤ 65536
  small = pow_mono E

  apart_computed : (s : Bool) (p : ℕ) → Apart s n (2 ^ e) p → Computed n e (ln_parts m (pos e))
  unfolding ln_parts
  apart_computed s p h =
      let q = n + 2 ^ e in
      let z = (m ⊖ one64) ⊘ (m ⊕ one64) in
      let w = pow_pos e in
      let k = small in
      let ratio = apart_ratio s n (2 ^ e) p h lo hi in
      let T = tail_near s p q ratio (omega arith) z (z_near n e j m units few M s p (omega arith) h) in
      let t = tails s n (2 ^ e) p q T.g h T.close in
      record {
        up = if_pos s T.g;
        down = if_neg s T.g;
        near = both_near e s T.g (two64 ⊗ z ⊗ ln_series (z ⊗ z)) E T.sized (tail_small p q T.g ratio (omega arith) T.close);
        up_near = t.0;
        down_near = t.1;
      }

  pub parts_computed : Computed n e (ln_parts m (pos e))
  parts_computed = go (ltb n (2 ^ e)) (ltb→lt n (2 ^ e)) (nltb→le n (2 ^ e))
    where
      go : (b : Bool) → (T b → n < 2 ^ e) → (T (not b) → 2 ^ e ≤ n) → Computed n e (ln_parts m (pos e))
      go true x y = let l = x tt in apart_computed true (2 ^ e - n) (omega arith)
      go false x y = let l = y tt in apart_computed false (n - 2 ^ e) (omega arith)

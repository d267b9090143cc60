-- Each entry 1 .. 65,535 of the ln table is within 2^-45 of the true logarithm (`ln_within`; `filled_within` of a filled table), and every exact sum of more terms lies between the ends (`between`).
use Rattle.std.proofs.Common.{◌≡◌, sym, subst, List, ℕ, ◌+◌, ◌-◌, ◌*◌, ◌^◌, ◌≤◌, ◌<◌, le_trans, mul-le-mul_left, mul-le-mul_right, arith, lit<, lit≤, pow_pos, ℤ, pos, ◌+ℤ◌, ◌-ℤ◌, ◌*ℤ◌, ◌≤ℤ◌, Float}
use lib.Ieee.{binary64}
use Rattle.buffers.specs.Fill.{put}
use Rattle.floats.specs.Binary64.{one, value64, number}
use Rattle.floats.specs.Terms.Rounded.{eps, pos64, neg64}
use Rattle.floats.proofs.Whole.{Is, is_add, is_sub, is_scaled, is_le, value_is}
use Rattle.tables.specs.Ln.{ln_of}
use Rattle.tables.specs.Tables.{ln_table}
use Rattle.tables.proofs.Tables.{ln_held, ln_read}
use Rattle.tables.specs.Series.{lower, upper, over, total}
use Rattle.tables.specs.Logarithm.{margin, ln_lower, ln_upper, ln_over, ln_total, Between, NearSum, WithinLn, EntriesWithin}
use Rattle.tables.proofs.LnBound.Parts.{constant}
use Rattle.tables.proofs.LnBound.Split.{Split, number_split}
use Rattle.tables.proofs.LnBound.Sums.{bracket_low, bracket_high}
use Rattle.tables.proofs.LnBound.Bound.{Tail, tail, ln2_high, ln2_low}

-- ---- differences as whole numbers below and above 0
whole : (a : ℕ) → Is (pos a) a 0
whole a = omega arith

difference : (a b : ℕ) → Is (pos a -ℤ pos b) (a + 0) (0 + b)
difference a b = is_sub (pos a) (pos b) a 0 b 0 (whole a) (whole b)

scaled_le : (v w : ℤ) (a b c d o t : ℕ) → Is v a b → Is w c d → a * o + d * t ≤ c * t + b * o → (v *ℤ pos o) ≤ℤ (w *ℤ pos t)
scaled_le v w a b c d o t i j h = (is_le (v *ℤ pos o) (w *ℤ pos t) (a * o) (b * o) (c * t) (d * t) (is_scaled v o a b i) (is_scaled w t c d j)).1 h

-- ---- every longer sum lies between the ends: t / o are the exact sums, u and l the ends, of ln 2, of the tail that is added and of the one that is taken off
sums_high : (e o t3 o3 tu td oq u3 uu ld : ℕ) → o * t3 ≤ u3 * o3 → o * tu ≤ uu * oq → ld * oq ≤ o * td → (e * t3 * oq + tu * o3) * o + ld * (o3 * oq) ≤ (e * u3 + uu) * (o3 * oq) + td * o3 * o
sums_high e o t3 o3 tu td oq u3 uu ld a b c = omega (arith, mul-le-mul_left (e * oq) a, mul-le-mul_right o3 b, mul-le-mul_right o3 c)

sums_low : (e o t3 o3 tu td oq l3 lu ud : ℕ) → l3 * o3 ≤ o * t3 → lu * oq ≤ o * tu → o * td ≤ ud * oq → (e * l3 + lu) * (o3 * oq) + td * o3 * o ≤ (e * t3 * oq + tu * o3) * o + ud * (o3 * oq)
sums_low e o t3 o3 tu td oq l3 lu ud a b c = omega (arith, mul-le-mul_left (e * oq) a, mul-le-mul_right o3 b, mul-le-mul_right o3 c)

up_below : (n X : ℕ) → 0 < X → n - X < n + X
up_below n X h = omega arith

down_below : (n X : ℕ) → 0 < n → X - n < n + X
down_below n X h = omega arith

module _ (k l n e : ℕ) (some : 0 < n) where
  abbrev m : ℕ
  m = k + l

  abbrev q : ℕ
  q = n + 2 ^ e

  -- what is added and what is taken off in the exact sum
  abbrev plus : ℕ
  plus = e * total 1 3 m * over q m + total (n - 2 ^ e) q m * over 3 m

  abbrev less : ℕ
  less = total (2 ^ e - n) q m * over 3 m

  above_sums : plus * one + lower (2 ^ e - n) q k * (over 3 m * over q m) ≤ (e * upper 1 3 k + upper (n - 2 ^ e) q k) * (over 3 m * over q m) + less * one
  above_sums =
      sums_high e one (total 1 3 m) (over 3 m) (total (n - 2 ^ e) q m) (total (2 ^ e - n) q m) (over q m) (upper 1 3 k) (upper (n - 2 ^ e) q k) (lower (2 ^ e - n) q k)
      (bracket_high 1 3 (lit< tt) k l) (bracket_high (n - 2 ^ e) q (up_below n (2 ^ e) (pow_pos e)) k l) (bracket_low (2 ^ e - n) q (down_below n (2 ^ e) some) k l)

  below_sums : (e * lower 1 3 k + lower (n - 2 ^ e) q k) * (over 3 m * over q m) + less * one ≤ plus * one + upper (2 ^ e - n) q k * (over 3 m * over q m)
  below_sums =
      sums_low e one (total 1 3 m) (over 3 m) (total (n - 2 ^ e) q m) (total (2 ^ e - n) q m) (over q m) (lower 1 3 k) (lower (n - 2 ^ e) q k) (upper (2 ^ e - n) q k)
      (bracket_low 1 3 (lit< tt) k l) (bracket_low (n - 2 ^ e) q (up_below n (2 ^ e) (pow_pos e)) k l) (bracket_high (2 ^ e - n) q (down_below n (2 ^ e) some) k l)

  longer : Between k (k + l) n e
  unfolding ln_lower ln_upper ln_over ln_total
  longer =
      let a = e * lower 1 3 k + lower (n - 2 ^ e) q k in
      let b = upper (2 ^ e - n) q k in
      let c = e * upper 1 3 k + upper (n - 2 ^ e) q k in
      let d = lower (2 ^ e - n) q k in
      let u = above_sums in
      let v = below_sums in
      record {
        low = scaled_le (pos a -ℤ pos b) (pos plus -ℤ pos less) (a + 0) (0 + b) (plus + 0) (0 + less) (over 3 m * over q m) one (difference a b) (difference plus less) (omega arith);
        high = scaled_le (pos plus -ℤ pos less) (pos c -ℤ pos d) (plus + 0) (0 + less) (c + 0) (0 + d) one (over 3 m * over q m) (difference plus less) (difference c d) (omega arith);
      }

pub between : (k m n e : ℕ) → k ≤ m → 0 < n → Between k m n e
between k m n e h some = subst (λ (j : ℕ). Between k j n e) (let i : k + (m - k) ≡ m = omega arith in i) (longer k (m - k) n e some)

-- ---- the errors add up to 328 * eps = 328 / 2^54 at most: 32 for the product and the sum, 16 for the constant, 139 and 140 for the series, 1 for the roundings of its terms
margin_enough : 328 * eps ≤ margin
unfolding margin eps
margin_enough = lit≤ tt

many : 41 ≤ eps
unfolding eps
many = lit≤ tt

module _ (e C up down P N h3 l3 hu lu hd ld E M : ℕ) (few : e ≤ 16) (m : 328 * E ≤ M) (k : 41 ≤ E) (a : h3 ≤ C + E) (b : C ≤ l3 + E) where
  all_high : hu ≤ up + 140 * E + 21 → down ≤ ld + 139 * E + 20 → e * C + up + N ≤ P + down + 32 * E → e * h3 + hu + N ≤ P + ld + M
  all_high u x h = omega (arith, mul-le-mul_left e a, mul-le-mul_right E few)

  all_low : up ≤ lu + 139 * E + 20 → hd ≤ down + 140 * E + 21 → P + down ≤ e * C + up + N + 32 * E → P + hd ≤ e * l3 + lu + N + M
  all_low v w h = omega (arith, mul-le-mul_left e b, mul-le-mul_right E few)

-- ---- the ends against the float's two parts P and N
ends_high : (a b t P N : ℕ) (v : ℤ) → Is v P N → a + N ≤ P + b + t → (pos a -ℤ pos b) ≤ℤ (v +ℤ pos t)
ends_high a b t P N v i h = (is_le (pos a -ℤ pos b) (v +ℤ pos t) (a + 0) (0 + b) (P + t) (N + 0) (difference a b) (is_add v (pos t) P N t 0 i (whole t))).1 (omega arith)

ends_low : (a b t P N : ℕ) (v : ℤ) → Is v P N → P + b ≤ a + N + t → v ≤ℤ ((pos a -ℤ pos b) +ℤ pos t)
ends_low a b t P N v i h =
    (is_le v ((pos a -ℤ pos b) +ℤ pos t) P N (a + 0 + t) (0 + b + 0) i (is_add (pos a -ℤ pos b) (pos t) (a + 0) (0 + b) t 0 (difference a b) (whole t))).1 (omega arith)

-- the sum A - B over d, between (L - K) / o and (H - J) / o
near_high : (A B o d H J P N t : ℕ) → A * o + J * d ≤ H * d + B * o → H + N ≤ P + J + t → (A + 0) * o + (N + 0) * d ≤ (P + t) * d + (0 + B) * o
near_high A B o d H J P N t h g = omega (arith, mul-le-mul_right d g)

near_low : (A B o d L K P N t : ℕ) → L * d + B * o ≤ A * o + K * d → P + K ≤ L + N + t → (P + 0) * d + (0 + B) * o ≤ (A + 0) * o + (N + t) * d
near_low A B o d L K P N t h g = omega (arith, mul-le-mul_right d g)

ratio_up : (n X : ℕ) → 24 * n ≤ 34 * X → (n - X) * 29 ≤ 5 * (n + X)
ratio_up n X h = omega arith

ratio_down : (n X : ℕ) → 24 * X ≤ 34 * n → (X - n) * 29 ≤ 5 * (n + X)
ratio_down n X h = omega arith

module _ (n : ℕ) (x : Float) (some : 0 < n) (s : Split n x) where
  abbrev X : ℕ
  X = 2 ^ s.e

  tail_up : Tail (n - X) (n + X) s.computed.up
  tail_up = tail (n - X) (n + X) s.computed.up (ratio_up n X s.high) (omega arith) s.computed.up_near

  tail_down : Tail (X - n) (n + X) s.computed.down
  tail_down = tail (X - n) (n + X) s.computed.down (ratio_down n X s.low) (omega arith) s.computed.down_near

  above_value : s.e * upper 1 3 20 + upper (n - X) (n + X) 20 + neg64 x ≤ pos64 x + lower (X - n) (n + X) 20 + margin
  above_value =
      let c = s.computed in
      all_high s.e constant c.up c.down (pos64 x) (neg64 x) (upper 1 3 20) (lower 1 3 20) (upper (n - X) (n + X) 20) (lower (n - X) (n + X) 20) (upper (X - n) (n + X) 20) (lower (X - n) (n + X) 20) eps margin
      s.few margin_enough many ln2_high ln2_low tail_up.high tail_down.low c.near.lower

  below_value : pos64 x + upper (X - n) (n + X) 20 ≤ s.e * lower 1 3 20 + lower (n - X) (n + X) 20 + neg64 x + margin
  below_value =
      let c = s.computed in
      all_low s.e constant c.up c.down (pos64 x) (neg64 x) (upper 1 3 20) (lower 1 3 20) (upper (n - X) (n + X) 20) (lower (n - X) (n + X) 20) (upper (X - n) (n + X) 20) (lower (X - n) (n + X) 20) eps margin
      s.few margin_enough many ln2_high ln2_low tail_up.low tail_down.high c.near.upper

  near_sum : (l : ℕ) → NearSum (20 + l) n s.e x
  unfolding ln_over ln_total
  near_sum l =
      let A = plus 20 l n s.e some in
      let B = less 20 l n s.e some in
      let d = over 3 (20 + l) * over (n + X) (20 + l) in
      record {
        low = scaled_le (value64 x -ℤ pos margin) (pos A -ℤ pos B) (pos64 x + 0) (neg64 x + margin) (A + 0) (0 + B) d one (is_sub (value64 x) (pos margin) (pos64 x) (neg64 x) margin 0 (value_is binary64 x) (whole margin)) (difference A B)
            (near_low A B one d (s.e * lower 1 3 20 + lower (n - X) (n + X) 20) (upper (X - n) (n + X) 20) (pos64 x) (neg64 x) margin (below_sums 20 l n s.e some) below_value);
        high = scaled_le (pos A -ℤ pos B) (value64 x +ℤ pos margin) (A + 0) (0 + B) (pos64 x + margin) (neg64 x + 0) one d (difference A B) (is_add (value64 x) (pos margin) (pos64 x) (neg64 x) margin 0 (value_is binary64 x) (whole margin))
            (near_high A B one d (s.e * upper 1 3 20 + upper (n - X) (n + X) 20) (lower (X - n) (n + X) 20) (pos64 x) (neg64 x) margin (above_sums 20 l n s.e some) above_value);
      }

  split_within : WithinLn n x
  unfolding ln_lower ln_upper
  split_within = record {
    e = s.e;
    ok = s.computed.near.ok;
    low = ends_low (s.e * lower 1 3 20 + lower (n - X) (n + X) 20) (upper (X - n) (n + X) 20) margin (pos64 x) (neg64 x) (value64 x) (value_is binary64 x) below_value;
    high = ends_high (s.e * upper 1 3 20 + upper (n - X) (n + X) 20) (lower (X - n) (n + X) 20) margin (pos64 x) (neg64 x) (value64 x) (value_is binary64 x) above_value;
    sums = λ m h. subst (λ (j : ℕ). NearSum j n s.e x) (let i : 20 + (m - 20) ≡ m = omega arith in i) (near_sum (m - 20));
  }

pub ln_within : (n : ℕ) → 0 < n → n ≤ 65535 → WithinLn n (ln_of (number n))
ln_within n h l = split_within n (ln_of (number n)) h (number_split n h l)

-- ---- a table that `fill_ln`, `fill_tables` or the filling call has filled
pub filled_within : (w : ℕ) (before ln : List Float) → w ≤ 65535 → ln ≡ put (ln_table w) before → EntriesWithin w ln
filled_within w before ln h e =
    record { entry = λ n a b. subst (λ (x : Float). WithinLn n x) (sym (ln_read w ln (ln_held w before ln e) n b)) (ln_within n a (le_trans b h)) }

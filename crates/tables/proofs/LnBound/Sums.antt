-- The series' sums: a longer sum is a shorter one and a nested rest (`total_split`), so that every longer sum lies between `lower` and `upper` (`bracket_low`, `bracket_high`), whatever p / q below 1.
use Rattle.std.proofs.Common.{◌≡◌, refl, sym, ap, ◌∙◌, ℕ, zero, suc, ◌+◌, ◌-◌, ◌*◌, ◌/◌, ◌^◌, ◌≤◌, ◌<◌, mul-pos, mul-one, le_of_lt, add-zero, add-suc, mul_assoc, mul_left_comm, pow-suc, mul-le-mul, mul-le-mul_left, mul-le-mul_right, le_of_mul-le-mul_right, div-mul-le_self, arith, lit<}
use native.Mathlib.Nat.{pow-zero, one-le-pow, eq_of_mul-eq-mul_right, lt-div-mul-add}
use Rattle.floats.specs.Binary64.{one}
use Rattle.tables.specs.Series.{term, lower, rest, upper, over, total}
use Rattle.tables.proofs.LnBound.Horner.{num, den, den_pos}

-- ---- powers
odd_power : (q k l : ℕ) → q ^ (2 * (k + l) + 1) ≡ q ^ (2 * k + 1) * (q * q) ^ l
odd_power q k zero = ap (λ (z : ℕ). q ^ z) (let e : 2 * (k + 0) + 1 ≡ 2 * k + 1 = omega arith in e) ∙ sym (mul-one (q ^ (2 * k + 1))) ∙ ap (λ (z : ℕ). q ^ (2 * k + 1) * z) (sym (pow-zero (q * q)))
odd_power q k (suc l) =
    ap (λ (z : ℕ). q ^ z) (let e : 2 * (k + suc l) + 1 ≡ suc (suc (2 * (k + l) + 1)) = omega arith in e)
    ∙ pow-suc q (suc (2 * (k + l) + 1))
    ∙ ap (λ (z : ℕ). z * q) (pow-suc q (2 * (k + l) + 1))
    ∙ ap (λ (z : ℕ). z * q * q) (odd_power q k l)
    ∙ (let e : q ^ (2 * k + 1) * (q * q) ^ l * q * q ≡ q ^ (2 * k + 1) * ((q * q) ^ l * (q * q)) = omega arith in e)
    ∙ ap (λ (z : ℕ). q ^ (2 * k + 1) * z) (sym (pow-suc (q * q) l))

-- ---- one more term at the end of a nested sum
-- 1 / c + P a / (Q b), for a / b = x / y
grown : (a b x y P Q c : ℕ) → a * y ≡ x * b → (b * Q + c * (P * a)) * (c * (Q * y)) ≡ (y * Q + c * (P * x)) * (c * (Q * b))
grown a b x y P Q c h = omega (arith, ap (λ (z : ℕ). z * (c * c * P * Q)) h)

spread : (N D k l P Q c : ℕ) → (D * Q + c * (P * N)) * (k * Q) + c * (Q * D) * (l * P) ≡ (D * k * Q + c * (P * (N * k + D * l))) * Q
spread N D k l P Q c = omega arith

scale : (x y z w v Q : ℕ) → x * y ≡ z * w → v ≡ z * Q → x * (y * Q) ≡ v * w
scale x y z w v Q h e = omega (arith, ap (λ (t : ℕ). t * Q) h, ap (λ (t : ℕ). t * w) e)

next_step : (P Q k c N N' D D' l : ℕ) → N' * (D * k) ≡ (N * k + D * l) * D'
    → (D' * Q + c * (P * N')) * (c * (Q * D) * (k * Q)) ≡ ((D * Q + c * (P * N)) * (k * Q) + c * (Q * D) * (l * P)) * (c * (Q * D'))
next_step P Q k c N N' D D' l h =
    ap (λ (z : ℕ). (D' * Q + c * (P * N')) * z) (let e : c * (Q * D) * (k * Q) ≡ c * (Q * (D * k)) * Q = omega arith in e)
    ∙ scale (D' * Q + c * (P * N')) (c * (Q * (D * k))) (D * k * Q + c * (P * (N * k + D * l))) (c * (Q * D')) ((D * Q + c * (P * N)) * (k * Q) + c * (Q * D) * (l * P)) Q
    (grown N' D' (N * k + D * l) (D * k) P Q c h) (spread N D k l P Q c)

next : (P Q j l : ℕ) → num P Q j (suc l) * (den Q j l * ((2 * (j + l) + 1) * Q ^ l)) ≡ (num P Q j l * ((2 * (j + l) + 1) * Q ^ l) + den Q j l * P ^ l) * den Q j (suc l)
unfolding num den
next P Q j zero = rw (pow-zero Q, pow-zero P) (let e : (1 * Q + (2 * j + 1) * (P * 0)) * (1 * ((2 * (j + 0) + 1) * 1)) ≡ (0 * ((2 * (j + 0) + 1) * 1) + 1 * 1) * ((2 * j + 1) * (Q * 1)) = omega arith in e)
next P Q j (suc l) =
    let c = 2 * (suc j + l) + 1 in
    let e : (2 * (j + suc l) + 1) * Q ^ suc l ≡ c * Q ^ l * Q = ap (λ (z : ℕ). z * Q ^ suc l) (let i : 2 * (j + suc l) + 1 ≡ c = omega arith in i) ∙ ap (λ (z : ℕ). c * z) (pow-suc Q l) ∙ sym (mul_assoc c (Q ^ l) Q) in
    rw (e, pow-suc P l) (next_step P Q (c * Q ^ l) (2 * j + 1) (num P Q (suc j) l) (num P Q (suc j) (suc l)) (den Q (suc j) l) (den Q (suc j) (suc l)) (P ^ l) (next P Q (suc j) l))

-- ---- a longer sum is a shorter one and a nested rest
-- (T / O is T₀ / O₀ + 2 B n / (A d), and n' / d' is n / d + l / k)
first : (T O T₀ O₀ A B n d d' k : ℕ) → T * (A * d) * O₀ ≡ (T₀ * (A * d) + 2 * B * n * O₀) * O → T * (A * k) * (A * d') * O₀ * d ≡ (T₀ * (A * d) + 2 * B * n * O₀) * O * (A * k * d')
first T O T₀ O₀ A B n d d' k h = omega (arith, ap (λ (z : ℕ). z * (A * k * d')) h)

second : (O O₀ A B n n' d d' k l : ℕ) → n' * (d * k) ≡ (n * k + d * l) * d' → 2 * B * n' * O₀ * (O * (A * k)) * d ≡ (n * k + d * l) * (d' * (2 * B * O₀ * O * A))
second O O₀ A B n n' d d' k l g = omega (arith, ap (λ (z : ℕ). z * (2 * B * O₀ * O * A)) g)

same : (O T₀ O₀ A B n d d' k l : ℕ) → (T₀ * (A * d) + 2 * B * n * O₀) * O * (A * k * d') + 2 * (B * l) * O * (A * d') * O₀ * d ≡ T₀ * (A * d') * (O * (A * k)) * d + (n * k + d * l) * (d' * (2 * B * O₀ * O * A))
same O T₀ O₀ A B n d d' k l = omega arith

joined : (T O T₀ O₀ A B n n' d d' k l : ℕ) → 0 < d → T * (A * d) * O₀ ≡ (T₀ * (A * d) + 2 * B * n * O₀) * O → n' * (d * k) ≡ (n * k + d * l) * d'
    → (T * (A * k) + 2 * (B * l) * O) * (A * d') * O₀ ≡ (T₀ * (A * d') + 2 * B * n' * O₀) * (O * (A * k))
joined T O T₀ O₀ A B n n' d d' k l p h g =
    eq_of_mul-eq-mul_right d p ((T * (A * k) + 2 * (B * l) * O) * (A * d') * O₀) ((T₀ * (A * d') + 2 * B * n' * O₀) * (O * (A * k)))
    ((let e : (T * (A * k) + 2 * (B * l) * O) * (A * d') * O₀ * d ≡ T * (A * k) * (A * d') * O₀ * d + 2 * (B * l) * O * (A * d') * O₀ * d = omega arith in e)
    ∙ ap (λ (z : ℕ). z + 2 * (B * l) * O * (A * d') * O₀ * d) (first T O T₀ O₀ A B n d d' k h)
    ∙ same O T₀ O₀ A B n d d' k l
    ∙ ap (λ (z : ℕ). T₀ * (A * d') * (O * (A * k)) * d + z) (sym (second O O₀ A B n n' d d' k l g))
    ∙ (let e : T₀ * (A * d') * (O * (A * k)) * d + 2 * B * n' * O₀ * (O * (A * k)) * d ≡ (T₀ * (A * d') + 2 * B * n' * O₀) * (O * (A * k)) * d = omega arith in e))

den_none : (Q j : ℕ) → den Q j 0 ≡ 1
unfolding den
den_none Q j = refl

num_none : (P Q j : ℕ) → num P Q j 0 ≡ 0
unfolding num
num_none P Q j = refl

begin : (T A B O d n : ℕ) → d ≡ 1 → n ≡ 0 → T * (A * d) * O ≡ (T * (A * d) + 2 * B * n * O) * O
begin T A B O d n e f = omega (arith, ap (λ (z : ℕ). 2 * B * z * O * O) f)

module _ (p q : ℕ) (pos : 0 < q) (k : ℕ) where
  pub total_split : (l : ℕ) → total p q (k + l) * (q ^ (2 * k + 1) * den (q * q) k l) * over q k ≡ (total p q k * (q ^ (2 * k + 1) * den (q * q) k l) + 2 * p ^ (2 * k + 1) * num (p * p) (q * q) k l * over q k) * over q (k + l)
  unfolding total over
  total_split zero = rw (add-zero k) (begin (total p q k) (q ^ (2 * k + 1)) (p ^ (2 * k + 1)) (over q k) (den (q * q) k 0) (num (p * p) (q * q) k 0) (den_none (q * q) k) (num_none (p * p) (q * q) k))
  total_split (suc l) =
      let c = 2 * (k + l) + 1 in
      let e : c * q ^ (2 * (k + l) + 1) ≡ q ^ (2 * k + 1) * (c * (q * q) ^ l) = ap (λ (z : ℕ). c * z) (odd_power q k l) ∙ mul_left_comm c (q ^ (2 * k + 1)) ((q * q) ^ l) in
      rw (add-suc k l, e, odd_power p k l)
      (joined (total p q (k + l)) (over q (k + l)) (total p q k) (over q k) (q ^ (2 * k + 1)) (p ^ (2 * k + 1)) (num (p * p) (q * q) k l) (num (p * p) (q * q) k (suc l)) (den (q * q) k l) (den (q * q) k (suc l)) (c * (q * q) ^ l) ((p * p) ^ l)
      (den_pos (q * q) k l (mul-pos pos pos)) (total_split l) (next (p * p) (q * q) k l))

-- ---- the whole-number sum against the exact one
pub over_pos : (q k : ℕ) → 0 < q → 0 < over q k
unfolding over
over_pos q zero h = lit< tt
over_pos q (suc i) h = mul-pos (over_pos q i h) (mul-pos (let c : 0 < 2 * i + 1 = omega arith in c) (one-le-pow (2 * i + 1) q h))

floor_low : (s t O d T B o : ℕ) → s * O ≤ o * T → t * d ≤ 2 * o * B → (s + t) * (O * d) ≤ o * (T * d + 2 * B * O)
floor_low s t O d T B o h k = omega (arith, mul-le-mul_right d h, mul-le-mul_right O k)

floor_high : (s t i O d T B o : ℕ) → o * T ≤ (s + i) * O → 2 * o * B < t * d + d → o * (T * d + 2 * B * O) ≤ (s + t + suc i) * (O * d)
floor_high s t i O d T B o h k = omega (arith, mul-le-mul_right d h, mul-le-mul_right O (le_of_lt k))

module _ (p q : ℕ) (pos : 0 < q) where
  pub lower_below : (k : ℕ) → lower p q k * over q k ≤ one * total p q k
  unfolding lower over total term
  lower_below zero = omega arith
  lower_below (suc i) = let d = (2 * i + 1) * q ^ (2 * i + 1) in floor_low (lower p q i) (term p q i) (over q i) d (total p q i) (p ^ (2 * i + 1)) one (lower_below i) (div-mul-le_self (2 * one * p ^ (2 * i + 1)) d)

  pub lower_near : (k : ℕ) → one * total p q k ≤ (lower p q k + k) * over q k
  unfolding lower over total term
  lower_near zero = omega arith
  lower_near (suc i) =
      let d = (2 * i + 1) * q ^ (2 * i + 1) in
      floor_high (lower p q i) (term p q i) i (over q i) d (total p q i) (p ^ (2 * i + 1)) one (lower_near i) (lt-div-mul-add (mul-pos (let c : 0 < 2 * i + 1 = omega arith in c) (one-le-pow (2 * i + 1) q pos)))

-- ---- a nested rest is at most 1 / (2j + 1) times Q / (Q - P)
bounded_step : (c P Q W N D : ℕ) → Q ≡ P + W → N * (c * W) ≤ Q * D → (D * Q + c * (P * N)) * (c * W) ≤ Q * (c * (Q * D))
bounded_step c P Q W N D e h = omega (arith, mul-le-mul_left (c * P) h, ap (λ (z : ℕ). c * D * Q * z) e)

fewer : (j W N Q D : ℕ) → N * ((2 * suc j + 1) * W) ≤ Q * D → N * ((2 * j + 1) * W) ≤ Q * D
fewer j W N Q D h = omega arith

nested_bounded : (P Q W j l : ℕ) → Q ≡ P + W → num P Q j l * ((2 * j + 1) * W) ≤ Q * den Q j l
unfolding num den
nested_bounded P Q W j zero e = omega arith
nested_bounded P Q W j (suc l) e = bounded_step (2 * j + 1) P Q W (num P Q (suc j) l) (den Q (suc j) l) e (fewer j W (num P Q (suc j) l) Q (den Q (suc j) l) (nested_bounded P Q W (suc j) l e))

-- ---- every longer sum lies between
rest_step : (o A B Q W c n d r : ℕ) → 0 < c * W → n * (c * W) ≤ Q * d → 2 * o * B * Q ≤ r * (c * A * W) → 2 * B * n * o ≤ r * (A * d)
rest_step o A B Q W c n d r p h k = le_of_mul-le-mul_right (let z : 2 * B * n * o * (c * W) ≤ r * (A * d) * (c * W) = omega (arith, mul-le-mul_right (2 * o * B) h, mul-le-mul_right d k) in z) p

within_high : (T O T₀ O₀ u m s r o : ℕ) → 0 < u * O₀ → T * u * O₀ ≡ (T₀ * u + m * O₀) * O → o * T₀ ≤ s * O₀ → m * o ≤ r * u → o * T ≤ (s + r) * O
within_high T O T₀ O₀ u m s r o p e h k = le_of_mul-le-mul_right (let z : o * T * (u * O₀) ≤ (s + r) * O * (u * O₀) = omega (arith, ap (λ (x : ℕ). x * o) e, mul-le-mul_right (u * O) h, mul-le-mul_right (O₀ * O) k) in z) p

within_low : (T O T₀ O₀ u m s o : ℕ) → 0 < u * O₀ → T * u * O₀ ≡ (T₀ * u + m * O₀) * O → s * O₀ ≤ o * T₀ → s * O ≤ o * T
within_low T O T₀ O₀ u m s o p e h = le_of_mul-le-mul_right (let z : s * O * (u * O₀) ≤ o * T * (u * O₀) = omega (arith, ap (λ (x : ℕ). x * o) e, mul-le-mul_right (u * O) h) in z) p

module _ (p q : ℕ) (below : p < q) (k l : ℕ) where
  pos : 0 < q
  pos = omega arith

  some : p * p < q * q
  some = omega (arith, mul-le-mul below below)

  factor : 0 < q ^ (2 * k + 1) * den (q * q) k l * over q k
  factor = mul-pos (mul-pos (one-le-pow (2 * k + 1) q pos) (den_pos (q * q) k l (mul-pos pos pos))) (over_pos q k pos)

  -- the k-th term on, up to the (k + l)-th
  rest_enough : 2 * p ^ (2 * k + 1) * num (p * p) (q * q) k l * one ≤ rest p q k * (q ^ (2 * k + 1) * den (q * q) k l)
  unfolding rest
  rest_enough =
      let A = q ^ (2 * k + 1) in
      let B = p ^ (2 * k + 1) in
      let W = q * q - p * p in
      let c = 2 * k + 1 in
      let s = some in
      let w : 0 < W = omega arith in
      let c_pos : 0 < c = omega arith in
      let y_pos : 0 < c * A * W = mul-pos (mul-pos c_pos (one-le-pow (2 * k + 1) q pos)) w in
      rest_step one A B (q * q) W c (num (p * p) (q * q) k l) (den (q * q) k l) (2 * one * B * (q * q) / (c * A * W) + 1) (mul-pos c_pos w)
      (nested_bounded (p * p) (q * q) W k l (omega arith))
      (up (2 * one * B * (q * q)) (c * A * W) (2 * one * B * (q * q) / (c * A * W)) (lt-div-mul-add y_pos))
    where
      up : (x y t : ℕ) → x < t * y + y → x ≤ (t + 1) * y
      up x y t h = omega arith

  pub bracket_low : lower p q k * over q (k + l) ≤ one * total p q (k + l)
  bracket_low = within_low (total p q (k + l)) (over q (k + l)) (total p q k) (over q k) (q ^ (2 * k + 1) * den (q * q) k l) (2 * p ^ (2 * k + 1) * num (p * p) (q * q) k l) (lower p q k) one factor (total_split p q pos k l) (lower_below p q pos k)

  pub bracket_high : one * total p q (k + l) ≤ upper p q k * over q (k + l)
  unfolding upper
  bracket_high = within_high (total p q (k + l)) (over q (k + l)) (total p q k) (over q k) (q ^ (2 * k + 1) * den (q * q) k l) (2 * p ^ (2 * k + 1) * num (p * p) (q * q) k l) (lower p q k + k) (rest p q k) one factor (total_split p q pos k l) (lower_near p q pos k) rest_enough

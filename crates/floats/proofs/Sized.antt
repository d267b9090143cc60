-- A float by its sign and its size in units of 2 ^ -1074. A product, a quotient and a sum of two numbers that are not negative, each rounded once, are off by at most 2 ^ M * eps
-- where they are at most 2 ^ M (`mul_rounded`, `div_rounded`, `add_rounded`); a result of few digits is exact (`add_exact`, `sub_exact`, `sub_exact_below`, `div_exact`, `number_sized`).
use Rattle.std.proofs.Common.{◌≡◌, ℕ, suc, ◌+◌, ◌-◌, ◌*◌, ◌^◌, ◌<◌, ◌≤◌, Bool, true, false, T, ℤ, sym, refl, ap, ◌∙◌, subst, ap₂, inl, inr, lt_of_lt_of_le, le_of_lt, mul_comm, add_comm, eq-or-lt_of_le, mul-pos, lt_of_not-le, mul-one, mul_right_comm, le_of_mul-le-mul_right, arith, lit<, lit≤, pow_pos, pow_mono, pow-add, shl_lt, le-ltb, lt-ltb, ne_eqb}
use native.Mathlib.Nat.{eq_of_mul-eq-mul_right}
use lib.Ieee.{Float, nan, inf, fin, binary64, up, down, unlike, fits, round, add, sub, mul, div, of_int}
use lib.Ieee.Fits.{round-fits, down_pos}
use lib.Ieee.Exact.{HasValue}
use lib.Ieee.Scale.{grid, overflow}
use Rattle.floats.specs.Value.{sign, magnitude, Finite}
use Rattle.floats.specs.Binary64.{one, number}
use Rattle.floats.specs.Terms.Rounded.{pos_part, neg_part, eps, pos64, neg64}
use Rattle.floats.proofs.Value.{if_pos, if_neg, magnitude_whole, magnitude_of_value}
use Rattle.floats.proofs.Rounding.{grid_near, grid_small, grid_exact, round_value, no_overflow}

-- x is g units with the sign s
pub record Sized (s : Bool) (g : ℕ) (x : Float) : Type 0 where
  pub ok : Finite binary64 x
  pub sign_is : sign x ≡ s
  pub units : magnitude binary64 x ≡ g

-- x is N / c units with the sign s, rounded, and at most E units away
pub record RoundedTo (E : ℕ) (s : Bool) (c N : ℕ) (x : Float) : Type 0 where
  pub g : ℕ
  pub sized : Sized s g x
  pub upper : g * c ≤ N + E * c
  pub lower : N ≤ g * c + E * c

pub sized_finite : {x : Float} → Finite binary64 x → Sized (sign x) (magnitude binary64 x) x
sized_finite a = record { ok = a; sign_is = refl; units = refl }

pub sized_value : (x : Float) (s : Bool) (g : ℕ) → T (fits binary64 x) → HasValue x s g (2 ^ 1074) → Sized s g x
sized_value x s g f h = let v = magnitude_of_value binary64 x s g h in record { ok = record { finite = v.0; fits = f }; sign_is = v.1; units = v.2 }

pub sized_parts : {s : Bool} {g : ℕ} {x : Float} → Sized s g x → (pos64 x ≡ if_pos s g) × (neg64 x ≡ if_neg s g)
unfolding pos_part neg_part
sized_parts h = (rw (h.sign_is, h.units), rw (h.sign_is, h.units))

-- ---- one rounding
pub big : (M : ℕ) → 2 ^ (53 + suc (1020 + M)) ≡ 2 ^ M * one
unfolding one
big M = ap (λ (x : ℕ). 2 ^ x) (total M) ∙ pow-add 2 M 1074
  where
    total : (k : ℕ) → 53 + suc (1020 + k) ≡ k + 1074
    total k = omega arith

pub small : (M : ℕ) → 2 ^ (1020 + M) ≡ 2 ^ M * eps
unfolding eps
small M = ap (λ (x : ℕ). 2 ^ x) (add_comm 1020 M) ∙ pow-add 2 M 1020

pub top : (M : ℕ) → M ≤ 1023 → 53 + suc (1020 + M) ≤ 1074 + 1023
top M h = omega arith

sized_round : (s : Bool) (num den : ℕ) → grid binary64 num den < overflow binary64 → Sized s (grid binary64 num den) (round binary64 s num den)
sized_round s num den h = sized_value (round binary64 s num den) s (grid binary64 num den) (round-fits binary64 s num den) (round_value binary64 s num den h)

rounded : (M : ℕ) (s : Bool) (num den c N : ℕ) → M ≤ 1023 → 0 < den → 0 < c → num * 2 ^ 1074 * c ≡ N * den → N ≤ 2 ^ M * one * c
    → RoundedTo (2 ^ M * eps) s c N (round binary64 s num den)
rounded M s num den c N t D C e h =
    let h' : N ≤ 2 ^ (53 + suc (1020 + M)) * c = rw (big M) h in
    let near = grid_near binary64 num den (1020 + M) c N D C e h' in
    rw (← small M)
    (record {
      g = grid binary64 num den;
      sized = sized_round s num den (no_overflow binary64 (1020 + M) (grid binary64 num den) (top M t) (grid_small binary64 num den (1020 + M) c N D C e h'));
      upper = near.0;
      lower = near.1;
    })

exact : (s : Bool) (num den q j : ℕ) → 0 < den → q < 2 ^ 53 → j ≤ 1074 → num * 2 ^ 1074 ≡ q * 2 ^ j * den → Sized s (q * 2 ^ j) (round binary64 s num den)
exact s num den q j D few l e =
    let is : grid binary64 num den ≡ q * 2 ^ j = grid_exact binary64 num den q j D few e in
    let fine : q * 2 ^ j < overflow binary64 = lt_of_lt_of_le (shl_lt 53 j few) (pow_mono (let b : 53 + j ≤ 1074 + suc 1023 = omega arith in b)) in
    subst (λ (g : ℕ). Sized s g (round binary64 s num den)) is (sized_round s num den (subst (λ (g : ℕ). g < overflow binary64) (sym is) fine))

-- ---- two finite floats, as a / c and b / d of 1, of X and Y units; l is the number of units in 1
Written : Bool → Bool → ℕ → ℕ → (Float → Float → Type 0) → Type 0
Written s t X Y P = (m n : ℕ) (e d : ℤ) → X * down e ≡ m * up e * 2 ^ 1074 → Y * down d ≡ n * up d * 2 ^ 1074 → P (fin s m e) (fin t n d)

both : (s t : Bool) (X Y : ℕ) (x y : Float) (P : Float → Float → Type 0) → Sized s X x → Sized t Y y → Written s t X Y P → P x y
unfolding Written
both s t X Y nan y P A B h = absurd A.ok.finite
both s t X Y (inf s') y P A B h = absurd A.ok.finite
both s t X Y (fin s' m e) nan P A B h = absurd B.ok.finite
both s t X Y (fin s' m e) (inf t') P A B h = absurd B.ok.finite
both s t X Y (fin s' m e) (fin t' n d) P A B h =
    rw (A.sign_is, B.sign_is)
    (h m n e d (ap (λ (z : ℕ). z * down e) (sym A.units) ∙ magnitude_whole binary64 s' m e A.ok.fits) (ap (λ (z : ℕ). z * down d) (sym B.units) ∙ magnitude_whole binary64 t' n d B.ok.fits))

module _ (a b l X Y c d : ℕ) (p : X * c ≡ a * l) (q : Y * d ≡ b * l) where
  times : a * b * l * l ≡ X * Y * (c * d)
  times = omega (arith, ap₂ (λ (x y : ℕ). x * y) p q)

  divided : a * d * l * Y ≡ X * l * (b * c)
  divided = omega (arith, ap (λ (z : ℕ). z * (Y * d)) p, ap (λ (z : ℕ). X * c * z) q)

  plus : (a * d + b * c) * l ≡ (X + Y) * (c * d)
  plus = omega (arith, ap (λ (z : ℕ). z * d) p, ap (λ (z : ℕ). z * c) q)

  -- X is W more than Y
  more : (W k : ℕ) → a * d ≡ b * c + k → X ≡ Y + W → k * l ≡ W * (c * d)
  more W k e f = omega (arith, ap (λ (z : ℕ). z * d) p, ap (λ (z : ℕ). z * c) q, ap (λ (z : ℕ). z * l) e, ap (λ (z : ℕ). z * (c * d)) f)

  not_less : (W : ℕ) → 0 < l → X ≡ Y + W → b * c ≤ a * d
  not_less W L f = le_of_mul-le-mul_right (let g : b * c * l ≤ a * d * l = omega (arith, ap (λ (z : ℕ). z * d) p, ap (λ (z : ℕ). z * c) q, ap (λ (z : ℕ). z * (c * d)) f) in g) L

  strictly_more : (W : ℕ) → 0 < l → 0 < W * (c * d) → X ≡ Y + W → b * c < a * d
  strictly_more W L w f = elim (eq-or-lt_of_le (not_less W L f)) [
    | inl g ↦ absurd (let z : ⊥ = omega (arith, ap (λ (z : ℕ). z * d) p, ap (λ (z : ℕ). z * c) q, ap (λ (z : ℕ). z * l) g, ap (λ (z : ℕ). z * (c * d)) f) in z)
    | inr g ↦ g
  ]

  not_none : 0 < Y * d → b ≡ 0 → ⊥
  not_none h z = omega (arith, ap (λ (x : ℕ). x * l) z)

some : (n u : ℕ) → (n * u ≡ 0 → ⊥) → (n ≡ 0 → ⊥) × (0 < n * u)
some n u h = (λ (z : n ≡ 0). h (let w : n * u ≡ 0 = omega (arith, ap (λ (x : ℕ). x * u) z) in w), lt_of_not-le (λ (z : n * u ≤ 0). h (let w : n * u ≡ 0 = omega arith in w)))

cancelled : (n Y X den w : ℕ) → 0 < Y → n * Y ≡ X * den → X ≡ w * Y → n ≡ w * den
cancelled n Y X den w p f e = eq_of_mul-eq-mul_right Y p n (w * den) (f ∙ ap (λ (z : ℕ). z * den) e ∙ mul_right_comm w Y den)

-- ---- products and quotients
module _ {s t : Bool} {X Y : ℕ} {x y : Float} (A : Sized s X x) (B : Sized t Y y) where
  pub mul_rounded : (M : ℕ) → M ≤ 1023 → X * Y ≤ 2 ^ M * one * one → RoundedTo (2 ^ M * eps) (unlike s t) one (X * Y) (mul binary64 x y)
  unfolding Written mul one
  mul_rounded M top h =
      both s t X Y x y (λ (x y : Float). RoundedTo (2 ^ M * eps) (unlike s t) one (X * Y) (mul binary64 x y)) A B
      (λ m n e d p q. rounded M (unlike s t) (m * up e * (n * up d)) (down e * down d) (2 ^ 1074) (X * Y) top (mul-pos (down_pos e) (down_pos d)) (pow_pos 1074) (times (m * up e) (n * up d) (2 ^ 1074) X Y (down e) (down d) p q) h)

  -- the fraction num / den that a quotient rounds
  quotient : (P : Float → Type 0) → 0 < Y → ((num den : ℕ) → 0 < den → num * 2 ^ 1074 * Y ≡ X * 2 ^ 1074 * den → P (round binary64 (unlike s t) num den)) → P (div binary64 x y)
  unfolding Written div
  quotient P some_y h =
      both s t X Y x y (λ (x y : Float). P (div binary64 x y)) A B
      (λ m n e d p q.
      let z = some n (up d) (not_none (m * up e) (n * up d) (2 ^ 1074) X Y (down e) (down d) p q (mul-pos some_y (down_pos d))) in
      rw (ne_eqb n 0 z.0) (h (m * up e * down d) (n * up d * down e) (mul-pos z.1 (down_pos e)) (divided (m * up e) (n * up d) (2 ^ 1074) X Y (down e) (down d) p q)))

  pub div_rounded : (M : ℕ) → M ≤ 1023 → 0 < Y → X * one ≤ 2 ^ M * one * Y → RoundedTo (2 ^ M * eps) (unlike s t) Y (X * one) (div binary64 x y)
  unfolding one
  div_rounded M top some_y h = quotient (RoundedTo (2 ^ M * eps) (unlike s t) Y (X * one)) some_y (λ num den D e. rounded M (unlike s t) num den Y (X * 2 ^ 1074) top D some_y e h)

  pub div_exact : (q j : ℕ) → q < 2 ^ 53 → j ≤ 1074 → 0 < Y → X * one ≡ q * 2 ^ j * Y → Sized (unlike s t) (q * 2 ^ j) (div binary64 x y)
  unfolding one
  div_exact q j small few some_y e =
      quotient (Sized (unlike s t) (q * 2 ^ j)) some_y (λ num den D f. exact (unlike s t) num den q j D small few (cancelled (num * 2 ^ 1074) Y (X * 2 ^ 1074) den (q * 2 ^ j) some_y f e))

-- ---- sums and differences
taken : (a b : ℕ) → b ≤ a → a ≡ b + (a - b)
taken a b h = omega arith

module _ {X Y : ℕ} {x y : Float} (A : Sized false X x) (B : Sized false Y y) where
  pub add_rounded : (M : ℕ) → M ≤ 1023 → X + Y ≤ 2 ^ M * one → RoundedTo (2 ^ M * eps) false 1 (X + Y) (add binary64 x y)
  unfolding Written add
  add_rounded M top h =
      both false false X Y x y (λ (x y : Float). RoundedTo (2 ^ M * eps) false 1 (X + Y) (add binary64 x y)) A B
      (λ m n e d p q.
      rounded M false (m * up e * down d + n * up d * down e) (down e * down d) 1 (X + Y) top (mul-pos (down_pos e) (down_pos d)) (lit< tt) (mul-one _ ∙ plus (m * up e) (n * up d) (2 ^ 1074) X Y (down e) (down d) p q) (rw (mul-one (2 ^ M * one)) h))

  module _ (w j : ℕ) (small : w < 2 ^ 53) (few : j ≤ 1074) where
    pub add_exact : X + Y ≡ w * 2 ^ j → Sized false (w * 2 ^ j) (add binary64 x y)
    unfolding Written add
    add_exact h =
        both false false X Y x y (λ (x y : Float). Sized false (w * 2 ^ j) (add binary64 x y)) A B
        (λ m n e d p q.
        exact false (m * up e * down d + n * up d * down e) (down e * down d) w j (mul-pos (down_pos e) (down_pos d)) small few
        (plus (m * up e) (n * up d) (2 ^ 1074) X Y (down e) (down d) p q ∙ ap (λ (z : ℕ). z * (down e * down d)) h))

    pub sub_exact : X ≡ Y + w * 2 ^ j → Sized false (w * 2 ^ j) (sub binary64 x y)
    unfolding Written sub
    sub_exact h =
        both false false X Y x y (λ (x y : Float). Sized false (w * 2 ^ j) (sub binary64 x y)) A B
        (λ m n e d p q.
        let o = not_less (m * up e) (n * up d) (2 ^ 1074) X Y (down e) (down d) p q (w * 2 ^ j) (pow_pos 1074) h in
        rw (le-ltb (m * up e * down d) (n * up d * down e) o)
        (exact false (m * up e * down d - n * up d * down e) (down e * down d) w j (mul-pos (down_pos e) (down_pos d)) small few
        (more (m * up e) (n * up d) (2 ^ 1074) X Y (down e) (down d) p q (w * 2 ^ j) (m * up e * down d - n * up d * down e) (taken (m * up e * down d) (n * up d * down e) o) h)))

    pub sub_exact_below : 0 < w → Y ≡ X + w * 2 ^ j → Sized true (w * 2 ^ j) (sub binary64 x y)
    unfolding Written sub
    sub_exact_below some_w h =
        both false false X Y x y (λ (x y : Float). Sized true (w * 2 ^ j) (sub binary64 x y)) A B
        (λ m n e d p q.
        let D : 0 < down d * down e = mul-pos (down_pos d) (down_pos e) in
        let o = strictly_more (n * up d) (m * up e) (2 ^ 1074) Y X (down d) (down e) q p (w * 2 ^ j) (pow_pos 1074) (mul-pos (mul-pos some_w (pow_pos j)) D) h in
        rw (lt-ltb (m * up e * down d) (n * up d * down e) o)
        (exact true (n * up d * down e - m * up e * down d) (down e * down d) w j (mul-pos (down_pos e) (down_pos d)) small few
        (more (n * up d) (m * up e) (2 ^ 1074) Y X (down d) (down e) q p (w * 2 ^ j) (n * up d * down e - m * up e * down d) (taken (n * up d * down e) (m * up e * down d) (le_of_lt o)) h
        ∙ ap (λ (z : ℕ). w * 2 ^ j * z) (mul_comm (down d) (down e)))))

-- ---- whole numbers
pub number_sized : (w : ℕ) → w < 2 ^ 53 → Sized false (w * one) (number w)
unfolding one of_int
number_sized w h = exact false w 1 w 1074 (lit< tt) h (lit≤ tt) (sym (mul-one (w * 2 ^ 1074)))

-- The sum and the difference of two finite floats of a format: where the exact one is at most 2 ^ (prec + 1 + h) units, the float is within 2 ^ h units of it,
-- half a unit of its last place (`add_near`, `sub_near`).
use Rattle.std.proofs.Common.{◌≡◌, ℕ, suc, ◌+◌, ◌-◌, ◌*◌, ◌^◌, ◌<◌, ◌≤◌, Bool, true, false, cond, not, T, ltb, sym, refl, ◌∙◌, subst, ap₂, le_trans, le_of_eq, mul_comm, add-mul, mul-pos, mul-one, arith, ltb→lt, nltb→le, pow_pos}
use native.Mathlib.Nat.{mul-sub}
use lib.Ieee.{Float, nan, inf, fin, Format, prec, emax, low, up, down, round, sum, add, sub, neg}
use lib.Ieee.Fits.{round-fits, down_pos, neg-fits}
use lib.Ieee.Scale.{grid}
use Rattle.floats.specs.Value.{magnitude, Finite}
use Rattle.floats.proofs.Value.{if_pos, if_neg, over_one, order, near_intro}
use Rattle.floats.proofs.Rounding.{grid_near, grid_small, round_value, no_overflow}
use Rattle.floats.specs.Terms.Rounded.{pos_part, neg_part, Near}

-- ---- a number of W units, however it is written as a fraction and whatever its sign, rounds to one that is within E of it
abbrev Rounds : Format → ℕ → ℕ → Type 0
Rounds f W E = (s : Bool) (num den P N : ℕ) → 0 < den → num * 2 ^ low f ≡ W * den → if_pos s W + N ≡ P + if_neg s W → Near f (round f s num den) P N E

-- up to 2 ^ (prec + 1 + h): within 2 ^ h
rounds_near : (f : Format) (h W : ℕ) → prec f + suc h ≤ low f + emax f → W ≤ 2 ^ (prec f + suc h) → Rounds f W (2 ^ h)
rounds_near f h W top small s num den P N D e eq =
    let g = grid f num den in
    let e1 : num * 2 ^ low f * 1 ≡ W * den = mul-one (num * 2 ^ low f) ∙ e in
    let small1 : W ≤ 2 ^ (prec f + suc h) * 1 = le_trans small (le_of_eq (sym (mul-one (2 ^ (prec f + suc h))))) in
    let near = grid_near f num den h 1 W D (pow_pos 0) e1 small1 in
    near_intro f (round f s num den) s g W P N (2 ^ h) (round-fits f s num den) (round_value f s num den (no_overflow f h g top (grid_small f num den h 1 W D (pow_pos 0) e1 small1)))
    (omega (arith, near.0)) (omega (arith, near.1)) eq

-- ---- the sum ±a / c + ±b / c, of ±X and ±Y units
diff : (a b l X Y c : ℕ) → a * l ≡ X * c → b * l ≡ Y * c → (b - a) * l ≡ (Y - X) * c
diff a b l X Y c p q =
    mul_comm (b - a) l ∙ mul-sub l b a ∙ ap₂ (λ (x y : ℕ). x - y) (mul_comm l b ∙ q ∙ mul_comm Y c) (mul_comm l a ∙ p ∙ mul_comm X c) ∙ sym (mul-sub c Y X) ∙ mul_comm c (Y - X)

-- |P - N|
abbrev pub dist : ℕ → ℕ → ℕ
dist P N = (P - N) + (N - P)

module _ (f : Format) (a b c X Y E : ℕ) (C : 0 < c) (p : a * 2 ^ low f ≡ X * c) (q : b * 2 ^ low f ≡ Y * c) where
  -- a + b
  both : (s : Bool) (P N : ℕ) → Rounds f (X + Y) E → if_pos s (X + Y) + N ≡ P + if_neg s (X + Y) → Near f (round f s (a + b) c) P N E
  both s P N r e = r s (a + b) c P N C (add-mul a b (2 ^ low f) ∙ ap₂ (λ (x y : ℕ). x + y) p q ∙ sym (add-mul X Y c)) e

  -- b - a, for a ≤ b
  more : (s : Bool) (P N W : ℕ) → a ≤ b → Rounds f W E → (X ≤ Y → W ≡ Y - X) → (X ≤ Y → if_pos s (Y - X) + N ≡ P + if_neg s (Y - X)) → Near f (round f s (b - a) c) P N E
  more s P N W l r w e =
      let o = order a b (2 ^ low f) X Y c C p q l in
      subst (λ (z : ℕ). Rounds f z E) (w o) r s (b - a) c P N C (diff a b (2 ^ low f) X Y c p q) (e o)

module _ (f : Format) (a b c X Y E : ℕ) (C : 0 < c) (p : a * 2 ^ low f ≡ X * c) (q : b * 2 ^ low f ≡ Y * c) where
  sum_near : (s t : Bool) → Rounds f (dist (if_pos s X + if_pos t Y) (if_neg s X + if_neg t Y)) E → Near f (sum f s a t b c) (if_pos s X + if_pos t Y) (if_neg s X + if_neg t Y) E
  unfolding sum
  sum_near true true r = both f a b c X Y E C p q true (0 + 0) (X + Y) (subst (λ (z : ℕ). Rounds f z E) (omega arith) r) (omega arith)
  sum_near false false r = both f a b c X Y E C p q false (X + Y) (0 + 0) (subst (λ (z : ℕ). Rounds f z E) (omega arith) r) (omega arith)
  sum_near false true r = go (ltb a b) (ltb→lt a b) (nltb→le a b)
    where
      go : (k : Bool) → (T k → a < b) → (T (not k) → b ≤ a) → Near f (cond k (round f true (b - a) c) (round f false (a - b) c)) (X + 0) (0 + Y) E
      go true x y = let l = x tt in more f a b c X Y E C p q true (X + 0) (0 + Y) (dist (X + 0) (0 + Y)) (omega arith) r (λ (o : X ≤ Y). omega arith) (λ (o : X ≤ Y). omega arith)
      go false x y = more f b a c Y X E C q p false (X + 0) (0 + Y) (dist (X + 0) (0 + Y)) (y tt) r (λ (o : Y ≤ X). omega arith) (λ (o : Y ≤ X). omega arith)
  sum_near true false r = go (ltb a b) (ltb b a) (ltb→lt a b) (nltb→le a b) (nltb→le b a)
    where
      go : (k j : Bool) → (T k → a < b) → (T (not k) → b ≤ a) → (T (not j) → a ≤ b) → Near f (cond k (round f false (b - a) c) (round f j (a - b) c)) (0 + Y) (X + 0) E
      go true j x y z = let l = x tt in more f a b c X Y E C p q false (0 + Y) (X + 0) (dist (0 + Y) (X + 0)) (omega arith) r (λ (o : X ≤ Y). omega arith) (λ (o : X ≤ Y). omega arith)
      go false true x y z = more f b a c Y X E C q p true (0 + Y) (X + 0) (dist (0 + Y) (X + 0)) (y tt) r (λ (o : Y ≤ X). omega arith) (λ (o : Y ≤ X). omega arith)
      go false false x y z =
          let w : X ≤ Y = order a b (2 ^ low f) X Y c C p q (z tt) in
          more f b a c Y X E C q p false (0 + Y) (X + 0) (dist (0 + Y) (X + 0)) (y tt) r (λ (o : Y ≤ X). omega arith) (λ (o : Y ≤ X). omega arith)

add_rounds : (f : Format) (E : ℕ) (x y : Float) → Finite f x → Finite f y → Rounds f (dist (pos_part f x + pos_part f y) (neg_part f x + neg_part f y)) E
    → Near f (add f x y) (pos_part f x + pos_part f y) (neg_part f x + neg_part f y) E
unfolding add pos_part neg_part
add_rounds f E nan y a b r = absurd a.finite
add_rounds f E (inf s) y a b r = absurd a.finite
add_rounds f E (fin s m e) nan a b r = absurd b.finite
add_rounds f E (fin s m e) (inf t) a b r = absurd b.finite
add_rounds f E (fin s m e) (fin t n d) a b r =
    let X = magnitude f (fin s m e) in
    let Y = magnitude f (fin t n d) in
    let o = over_one f s t m n e d a.fits b.fits in
    sum_near f (m * up e * down d) (n * up d * down e) (down e * down d) X Y E (mul-pos (down_pos e) (down_pos d)) o.0 o.1 s t r

within : (P N B : ℕ) → P ≤ N + B → N ≤ P + B → dist P N ≤ B
within P N B u v = omega arith

pub add_near : {f : Format} (h : ℕ) {x y : Float} → prec f + suc h ≤ low f + emax f → Finite f x → Finite f y
    → pos_part f x + pos_part f y ≤ neg_part f x + neg_part f y + 2 ^ (prec f + suc h) → neg_part f x + neg_part f y ≤ pos_part f x + pos_part f y + 2 ^ (prec f + suc h)
    → Near f (add f x y) (pos_part f x + pos_part f y) (neg_part f x + neg_part f y) (2 ^ h)
add_near {f} h {x} {y} top a b u v =
    let P = pos_part f x + pos_part f y in
    let N = neg_part f x + neg_part f y in
    add_rounds f (2 ^ h) x y a b (rounds_near f h (dist P N) top (within P N (2 ^ (prec f + suc h)) u v))

-- ---- the difference
neg_finite : (f : Format) (x : Float) → Finite f x → Finite f (neg x)
unfolding neg
neg_finite f nan a = a
neg_finite f (inf s) a = absurd a.finite
neg_finite f (fin s m e) a = record { finite = tt; fits = neg-fits f (fin s m e) a.fits }

neg_value : (f : Format) (x : Float) → Finite f x → (pos_part f (neg x) ≡ neg_part f x) × (neg_part f (neg x) ≡ pos_part f x)
unfolding neg pos_part neg_part magnitude
neg_value f nan a = absurd a.finite
neg_value f (inf s) a = absurd a.finite
neg_value f (fin true m e) a = (refl, refl)
neg_value f (fin false m e) a = (refl, refl)

pub sub_near : {f : Format} (h : ℕ) {x y : Float} → prec f + suc h ≤ low f + emax f → Finite f x → Finite f y
    → pos_part f x + neg_part f y ≤ neg_part f x + pos_part f y + 2 ^ (prec f + suc h) → neg_part f x + pos_part f y ≤ pos_part f x + neg_part f y + 2 ^ (prec f + suc h)
    → Near f (sub f x y) (pos_part f x + neg_part f y) (neg_part f x + pos_part f y) (2 ^ h)
unfolding sub
sub_near {f} h {x} {y} top a b u v =
    let n = neg_value f y b in
    let r = add_near h top a (neg_finite f y b) (omega (arith, n.0, n.1)) (omega (arith, n.0, n.1)) in
    record { ok = r.ok; upper = omega (arith, n.0, n.1, r.upper); lower = omega (arith, n.0, n.1, r.lower) }

-- The comparisons of two finite floats are those of their values, -0 and 0 being one value: `lt_value`, `eq_value`, `le_value`.
-- Besides, what lies between two finite floats is finite (`finite_between`), and a value that is not below 0 has no negative part (`not_negative`).
use Rattle.std.proofs.Common.{◌≡◌, ℕ, ◌+◌, ◌*◌, ◌^◌, ◌<◌, ◌≤◌, Bool, true, false, ◌||◌, T, eqb, ◌↔◌, ℤ, sym, refl, le_of_eq, le_antisymm, mul-pos, lt_of_not-le, not-le_of_lt, arith, eqb→eq, ltb→lt, lt→ltb, pow_pos}
use mathlib.Core.Logic.Iff
use lib.Ieee.{Float, nan, inf, fin, Format, low, up, down, below, level, lt, le, eq}
use lib.Ieee.Scale.{finite}
use lib.Ieee.Fits.{down_pos, and_i, and_l, and_r, eq→eqb}
use Rattle.floats.specs.Value.{magnitude, sign, Finite}
use Rattle.floats.proofs.Value.{if_pos, if_neg, over_one, order}
use Rattle.floats.specs.Terms.Rounded.{pos_part, neg_part}

-- ---- ±a against ±b
below_is : (s t : Bool) (a b : ℕ) → T (below s a t b) ↔ (if_pos s a + if_neg t b < if_pos t b + if_neg s a)
below_is true true a b = (λ u. let h = ltb→lt b a u in omega arith, λ h. lt→ltb b a (omega arith))
below_is true false a b = (λ u. let h = ltb→lt 0 (a + b) u in omega arith, λ h. lt→ltb 0 (a + b) (omega arith))
below_is false true a b = (λ u. absurd u, λ h. absurd (never h))
  where
    never : a + b < 0 + 0 → ⊥
    never h = omega arith
below_is false false a b = (λ u. let h = ltb→lt a b u in omega arith, λ h. lt→ltb a b (omega arith))

same_sign : (a b : ℕ) → T (level true a true b) ↔ (a ≡ b)
same_sign a b = (λ u. eqb→eq a b (and_l (eqb a b) true u), λ h. and_i (eqb a b) true (eq→eqb h) tt)

other_sign : (a b : ℕ) → T (level true a false b) ↔ (a + b ≡ 0)
other_sign a b = (
  λ u. let h = eqb→eq a b (and_l (eqb a b) (eqb a 0) u) in let z = eqb→eq a 0 (and_r (eqb a b) (eqb a 0) u) in omega arith,
  λ h. let e : a ≡ b = omega arith in let z : a ≡ 0 = omega arith in and_i (eqb a b) (eqb a 0) (eq→eqb e) (eq→eqb z),
)

level_is : (s t : Bool) (a b : ℕ) → T (level s a t b) ↔ (if_pos s a + if_neg t b ≡ if_pos t b + if_neg s a)
level_is true true a b = let r = same_sign a b in (λ u. let h = r.0 u in omega arith, λ h. r.1 (omega arith))
level_is true false a b = let r = other_sign a b in (λ u. let h = r.0 u in omega arith, λ h. r.1 (omega arith))
level_is false true a b = let r = other_sign a b in (λ u. let h = r.0 u in omega arith, λ h. r.1 (omega arith))
level_is false false a b = let r = same_sign a b in (λ u. let h = r.0 u in omega arith, λ h. r.1 (omega arith))

-- `le` is `lt` or `eq`
or_is : (u v : Bool) {m n : ℕ} → (T u ↔ (m < n)) → (T v ↔ (m ≡ n)) → T (u || v) ↔ (m ≤ n)
or_is true v a b = (λ t. let h = a.0 tt in omega arith, λ h. tt)
or_is false true a b = (λ t. let h = b.0 tt in omega arith, λ h. tt)
or_is false false a b = (λ t. absurd t, λ h. a.1 (lt_of_not-le (λ g. b.1 (le_antisymm h g))))

-- two finite floats, also such as fit no format, by their sizes over one divisor
module _ (s t : Bool) (m n : ℕ) (e d : ℤ) where
  pub lt_fin : T (lt (fin s m e) (fin t n d)) ↔ (if_pos s (m * up e * down d) + if_neg t (n * up d * down e) < if_pos t (n * up d * down e) + if_neg s (m * up e * down d))
  unfolding lt
  lt_fin = below_is s t (m * up e * down d) (n * up d * down e)

  eq_fin : T (eq (fin s m e) (fin t n d)) ↔ (if_pos s (m * up e * down d) + if_neg t (n * up d * down e) ≡ if_pos t (n * up d * down e) + if_neg s (m * up e * down d))
  unfolding eq
  eq_fin = level_is s t (m * up e * down d) (n * up d * down e)

  pub le_fin : T (le (fin s m e) (fin t n d)) ↔ (if_pos s (m * up e * down d) + if_neg t (n * up d * down e) ≤ if_pos t (n * up d * down e) + if_neg s (m * up e * down d))
  unfolding le
  le_fin = or_is (lt (fin s m e) (fin t n d)) (eq (fin s m e) (fin t n d)) lt_fin eq_fin

-- ---- ±a / c against ±b / c, of ±X and ±Y units
side : (s t : Bool) (a b l X Y c : ℕ) → a * l ≡ X * c → b * l ≡ Y * c → (if_pos s a + if_neg t b) * l ≡ (if_pos s X + if_neg t Y) * c
side true true a b l X Y c p q = omega arith
side true false a b l X Y c p q = omega arith
side false true a b l X Y c p q = omega arith
side false false a b l X Y c p q = omega arith

module _ {u v l U W c : ℕ} (C : 0 < c) (L : 0 < l) (p : u * l ≡ U * c) (q : v * l ≡ W * c) where
  lt_units : (u < v) ↔ (U < W)
  lt_units = (λ h. lt_of_not-le (λ g. not-le_of_lt h (order W U c v u l L (sym q) (sym p) g)), λ h. lt_of_not-le (λ g. not-le_of_lt h (order v u l W U c C q p g)))

  eq_units : (u ≡ v) ↔ (U ≡ W)
  eq_units = (
    λ h. le_antisymm (order u v l U W c C p q (le_of_eq h)) (order v u l W U c C q p (le_of_eq (sym h))),
    λ h. le_antisymm (order U W c u v l L (sym p) (sym q) (le_of_eq h)) (order W U c v u l L (sym q) (sym p) (le_of_eq (sym h))),
  )

-- ---- two finite floats
compared : (f : Format) (x y : Float) → Finite f x → Finite f y
    → (T (lt x y) ↔ (pos_part f x + neg_part f y < pos_part f y + neg_part f x)) × (T (eq x y) ↔ (pos_part f x + neg_part f y ≡ pos_part f y + neg_part f x))
unfolding pos_part neg_part
compared f nan y A B = absurd A.finite
compared f (inf s) y A B = absurd A.finite
compared f (fin s m e) nan A B = absurd B.finite
compared f (fin s m e) (inf t) A B = absurd B.finite
compared f (fin s m e) (fin t n d) A B =
    let a = m * up e * down d in
    let b = n * up d * down e in
    let c = down e * down d in
    let l = 2 ^ low f in
    let X = magnitude f (fin s m e) in
    let Y = magnitude f (fin t n d) in
    let o = over_one f s t m n e d A.fits B.fits in
    let C : 0 < c = mul-pos (down_pos e) (down_pos d) in
    let left = side s t a b l X Y c o.0 o.1 in
    let right = side t s b a l Y X c o.1 o.0 in
    (Iff.trans (lt_fin s t m n e d) (lt_units C (pow_pos (low f)) left right), Iff.trans (eq_fin s t m n e d) (eq_units C (pow_pos (low f)) left right))

module _ {f : Format} {x y : Float} (A : Finite f x) (B : Finite f y) where
  pub lt_value : T (lt x y) ↔ (pos_part f x + neg_part f y < pos_part f y + neg_part f x)
  lt_value = (compared f x y A B).0

  pub eq_value : T (eq x y) ↔ (pos_part f x + neg_part f y ≡ pos_part f y + neg_part f x)
  eq_value = (compared f x y A B).1

  pub le_value : T (le x y) ↔ (pos_part f x + neg_part f y ≤ pos_part f y + neg_part f x)
  unfolding le
  le_value = or_is (lt x y) (eq x y) lt_value eq_value

-- a number is as large as itself
pub le_self : {f : Format} {x : Float} → Finite f x → T (le x x)
le_self a = (le_value a a).1 (omega arith)

-- what lies between two finite floats is finite
pub finite_between : (lo x hi : Float) → T (finite lo) → T (finite hi) → T (le lo x) → T (le x hi) → T (finite x)
unfolding le
finite_between nan x hi a b u v = absurd a
finite_between (inf s) x hi a b u v = absurd a
finite_between (fin s m e) nan hi a b u v = absurd u
finite_between (fin s m e) (inf true) hi a b u v = absurd u
finite_between (fin s m e) (inf false) nan a b u v = absurd b
finite_between (fin s m e) (inf false) (inf t) a b u v = absurd b
finite_between (fin s m e) (inf false) (fin t n d) a b u v = absurd v
finite_between (fin s m e) (fin t n d) hi a b u v = tt

-- one of the two parts is 0
one_sided : (s : Bool) (g : ℕ) → if_neg s g ≤ if_pos s g → if_neg s g ≡ 0
one_sided true g h = omega arith
one_sided false g h = refl

pub not_negative : (f : Format) (x : Float) → neg_part f x ≤ pos_part f x → neg_part f x ≡ 0
unfolding pos_part neg_part
not_negative f x h = one_sided (sign x) (magnitude f x) h

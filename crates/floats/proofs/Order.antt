-- The order of floats, whatever their bits; `le x x` says that x is no NaN. `le` is transitive (`le_trans`), of two that are no NaN one is at most the other (`nle_lt`),
-- and a bound passed by one is passed by the larger (`lt_le_trans`, `le_lt_trans`, `lt_past`). And a difference taken the other way round (`sub_turned`).
use Rattle.std.proofs.Common.{◌≡◌, ℕ, zero, suc, ◌+◌, ◌-◌, ◌*◌, ◌^◌, ◌<◌, ◌≤◌, Bool, true, false, cond, not, ◌&&◌, ◌||◌, T, ltb, ℤ, pos, sym, refl, ap, ◌∙◌, subst, mul-le-mul_right, mul_comm, add_comm, mul-pos, lt_of_not-le, zero-mul, le_of_mul-le-mul_right, arith, ltb→lt, nltb→le, T_not, pow_pos, lt-ltb}
use lib.Dec.{not_T}
use lib.Ieee.{Float, nan, inf, fin, Format, prec, emax, low, up, down, odd, units, round, sum, sub, neg, below, lt, le, eq}
use lib.Ieee.Fits.{down_pos}
use lib.Ieee.Nearest.{closest_same}
use lib.Ieee.Order.{kept, drop}
use Rattle.floats.proofs.Value.{if_pos, if_neg}
use Rattle.floats.proofs.Compare.{lt_fin, le_fin}

-- ---- ±a / e, ±b / d and ±c / g
part_mul : (s : Bool) (a d : ℕ) → (if_pos s (a * d) ≡ if_pos s a * d) × (if_neg s (a * d) ≡ if_neg s a * d)
part_mul true a d = (sym (zero-mul d), refl)
part_mul false a d = (refl, sym (zero-mul d))

scaled : (s t : Bool) (a b d e c : ℕ) → if_pos s (a * d) + if_neg t (b * e) ≤ if_pos t (b * e) + if_neg s (a * d) → (if_pos s a * d + if_neg t b * e) * c ≤ (if_pos t b * e + if_neg s a * d) * c
scaled s t a b d e c h = mul-le-mul_right c (omega (arith, part_mul s a d, part_mul t b e))

through : (s t u : Bool) (a b c e d g : ℕ) → 0 < d → if_pos s (a * d) + if_neg t (b * e) ≤ if_pos t (b * e) + if_neg s (a * d)
    → if_pos t (b * g) + if_neg u (c * d) ≤ if_pos u (c * d) + if_neg t (b * g) → if_pos s (a * g) + if_neg u (c * e) ≤ if_pos u (c * e) + if_neg s (a * g)
through s t u a b c e d g D h k =
    let all : if_pos s a * g + if_neg u c * e ≤ if_pos u c * e + if_neg s a * g = le_of_mul-le-mul_right (omega (arith, scaled s t a b d e g h, scaled t u b c g d e k)) D in
    omega (arith, part_mul s a g, part_mul u c e)

pub le_trans : (x y z : Float) → T (le x y) → T (le y z) → T (le x z)
unfolding le
le_trans nan y z h k = absurd h
le_trans (inf s) nan z h k = absurd h
le_trans (inf false) (inf true) z h k = absurd h
le_trans (inf false) (inf false) z h k = k
le_trans (inf true) (inf t) nan h k = absurd k
le_trans (inf true) (inf t) (inf true) h k = tt
le_trans (inf true) (inf t) (inf false) h k = tt
le_trans (inf true) (inf t) (fin u l g) h k = tt
le_trans (inf false) (fin t n d) z h k = absurd h
le_trans (inf true) (fin t n d) nan h k = absurd k
le_trans (inf true) (fin t n d) (inf true) h k = tt
le_trans (inf true) (fin t n d) (inf false) h k = tt
le_trans (inf true) (fin t n d) (fin u l g) h k = tt
le_trans (fin s m e) nan z h k = absurd h
le_trans (fin s m e) (inf true) z h k = absurd h
le_trans (fin s m e) (inf false) nan h k = absurd k
le_trans (fin s m e) (inf false) (inf true) h k = absurd k
le_trans (fin s m e) (inf false) (inf false) h k = tt
le_trans (fin s m e) (inf false) (fin u l g) h k = absurd k
le_trans (fin s m e) (fin t n d) nan h k = absurd k
le_trans (fin s m e) (fin t n d) (inf true) h k = absurd k
le_trans (fin s m e) (fin t n d) (inf false) h k = tt
le_trans (fin s m e) (fin t n d) (fin u l g) h k =
    (le_fin s u m l e g).1 (through s t u (m * up e) (n * up d) (l * up g) (down e) (down d) (down g) (down_pos d) ((le_fin s t m n e d).0 h) ((le_fin t u n l d g).0 k))

fin_self : (s : Bool) (m : ℕ) (e : ℤ) → T (le (fin s m e) (fin s m e))
fin_self s m e = (le_fin s s m m e e).1 (omega arith)

-- What stands on the right of a comparison that holds is no NaN.
pub le_right : (x y : Float) → T (le x y) → T (le y y)
unfolding le
le_right nan y h = absurd h
le_right (inf s) nan h = absurd h
le_right (inf s) (inf true) h = tt
le_right (inf s) (inf false) h = tt
le_right (inf s) (fin t n d) h = fin_self t n d
le_right (fin s m e) nan h = absurd h
le_right (fin s m e) (inf true) h = tt
le_right (fin s m e) (inf false) h = tt
le_right (fin s m e) (fin t n d) h = fin_self t n d

le_left : (x y : Float) → T (le x y) → T (le x x)
unfolding le
le_left nan y h = absurd h
le_left (inf true) y h = tt
le_left (inf false) y h = tt
le_left (fin s m e) y h = fin_self s m e

pub lt_le : (x y : Float) → T (lt x y) → T (le x y)
unfolding le
lt_le x y = go (lt x y) (eq x y)
  where
    go : (a b : Bool) → T a → T (a || b)
    go true b t = tt
    go false b t = absurd t

pub lt_nle : (x y : Float) → T (lt x y) → T (le y x) → ⊥
unfolding le
lt_nle nan y h k = h
lt_nle (inf s) nan h k = h
lt_nle (inf false) (inf t) h k = h
lt_nle (inf true) (inf true) h k = h
lt_nle (inf true) (inf false) h k = k
lt_nle (inf false) (fin t n d) h k = h
lt_nle (inf true) (fin t n d) h k = k
lt_nle (fin s m e) nan h k = h
lt_nle (fin s m e) (inf true) h k = h
lt_nle (fin s m e) (inf false) h k = k
lt_nle (fin s m e) (fin t n d) h k = omega (arith, (lt_fin s t m n e d).0 h, (le_fin t s n m d e).0 k)

pub nle_lt : (x y : Float) → T (le x x) → T (le y y) → T (not (le x y)) → T (lt y x)
unfolding le
nle_lt nan y a b h = absurd a
nle_lt (inf s) nan a b h = absurd b
nle_lt (inf true) (inf true) a b h = absurd h
nle_lt (inf true) (inf false) a b h = absurd h
nle_lt (inf false) (inf true) a b h = tt
nle_lt (inf false) (inf false) a b h = absurd h
nle_lt (inf true) (fin t n d) a b h = absurd h
nle_lt (inf false) (fin t n d) a b h = tt
nle_lt (fin s m e) nan a b h = absurd b
nle_lt (fin s m e) (inf true) a b h = tt
nle_lt (fin s m e) (inf false) a b h = absurd h
nle_lt (fin s m e) (fin t n d) a b h = (lt_fin t s n m d e).1 (lt_of_not-le (λ g. T_not (le (fin s m e) (fin t n d)) h ((le_fin s t m n e d).1 g)))

pub lt_le_trans : (x y z : Float) → T (lt x y) → T (le y z) → T (lt x z)
lt_le_trans x y z h k =
    nle_lt z x (le_right y z k) (le_left x y (lt_le x y h)) (not_T (le z x) (λ g. lt_nle x y h (le_trans y z x k g)))

pub le_lt_trans : (x y z : Float) → T (le x y) → T (lt y z) → T (lt x z)
le_lt_trans x y z h k =
    nle_lt z x (le_right y z (lt_le y z k)) (le_left x y h) (not_T (le z x) (λ g. lt_nle y z k (le_trans z x y g h)))

pub lt_self : (x : Float) → lt x x ≡ false
lt_self x = go (lt x x) (λ t. lt_nle x x t (lt_le x x t))
  where
    go : (b : Bool) → (T b → ⊥) → b ≡ false
    go true n = absurd (n tt)
    go false n = refl

-- A bound below x is below b, if x is not as high as b and b is no NaN.
pub lt_past : (bound x b : Float) → T (le b b) → T (lt bound x) → T (not (le b x)) → T (lt bound b)
lt_past bound x b r h k = lt_le_trans bound x b h (lt_le x b (nle_lt b x r (le_right bound x (lt_le bound x h)) k))

-- ---- y - x against x - y: the same but for the sign, and for the sign of a 0
neg_turned : (x y : Float) → T (lt (neg x) y) → T (lt (neg y) x)
unfolding lt neg
neg_turned nan y h = absurd h
neg_turned (inf s) nan h = absurd h
neg_turned (inf false) (inf false) h = tt
neg_turned (inf false) (inf true) h = absurd h
neg_turned (inf true) (inf t) h = absurd h
neg_turned (inf false) (fin t n d) h = tt
neg_turned (inf true) (fin t n d) h = absurd h
neg_turned (fin s m e) nan h = absurd h
neg_turned (fin s m e) (inf false) h = tt
neg_turned (fin s m e) (inf true) h = absurd h
neg_turned (fin s m e) (fin t n d) h = go s t (m * up e * down d) (n * up d * down e) h
  where
    go : (s t : Bool) (a b : ℕ) → T (below (not s) a t b) → T (below (not t) b s a)
    go true true a b k = k
    go true false a b k = k
    go false true a b k = k
    go false false a b k = subst (λ (z : ℕ). T (ltb 0 z)) (add_comm a b) k

neg_odd : (d : ℕ) (s : Bool) (q k l : ℕ) → neg (odd d s q k l) ≡ odd d (not s) q k l
unfolding neg odd
neg_odd d s zero k l = refl
neg_odd d s (suc q) k l = refl

pub neg_units : (f : Format) (s : Bool) (q k : ℕ) → neg (units f s q k) ≡ units f (not s) q k
unfolding neg units
neg_units f s q k = go (ltb (q * 2 ^ k) (2 ^ (low f + suc (emax f))))
  where
    go : (b : Bool) → neg (cond b (odd (suc (prec f)) s q k (low f)) (inf s)) ≡ cond b (odd (suc (prec f)) (not s) q k (low f)) (inf (not s))
    go true = neg_odd (suc (prec f)) s q k (low f)
    go false = refl

turned_round : (f : Format) (s : Bool) (a c : ℕ) (x : Float) → T (lt (neg x) (round f s a c)) → T (lt (round f (not s) a c) x)
unfolding round
turned_round f s a c x h =
    let k = drop (prec f) (a * 2 ^ low f) c in
    subst (λ (z : Float). T (lt z x)) (neg_units f s (kept (prec f) (a * 2 ^ low f) c) k) (neg_turned x (round f s a c) h)

-- 0 rounds to 0, whose sign does not matter
units_zero : (f : Format) (s : Bool) (k : ℕ) → units f s 0 k ≡ fin s 0 (pos 0)
unfolding units odd
units_zero f s k =
    let big = 2 ^ (low f + suc (emax f)) in
    ap (λ (z : ℕ). cond (ltb z big) (fin s 0 (pos 0)) (inf s)) (zero-mul (2 ^ k)) ∙ ap (λ (b : Bool). cond b (fin s 0 (pos 0)) (inf s)) (lt-ltb 0 big (pow_pos (low f + suc (emax f))))

round_zero : (f : Format) (s : Bool) (c : ℕ) → 0 < c → round f s 0 c ≡ fin s 0 (pos 0)
unfolding round
round_zero f s c C =
    let k = drop (prec f) (0 * 2 ^ low f) c in
    let none : kept (prec f) (0 * 2 ^ low f) c ≡ 0 = closest_same (0 * 2 ^ low f) (c * 2 ^ k) 0 1 (mul-pos C (pow_pos k)) (pow_pos 0) (omega arith) in
    ap (λ (q : ℕ). units f s q k) none ∙ units_zero f s k

zero_signs : (x : Float) → T (lt (fin true 0 (pos 0)) x) → T (lt (fin false 0 (pos 0)) x)
unfolding lt
zero_signs nan h = absurd h
zero_signs (inf t) h = h
zero_signs (fin true n d) h = absurd (let l = (lt_fin true true 0 n (pos 0) d).0 h in let z = zero-mul (down d) in omega arith)
zero_signs (fin false n d) h = (lt_fin false false 0 n (pos 0) d).1 (let l = (lt_fin true false 0 n (pos 0) d).0 h in let z = zero-mul (down d) in omega arith)

turned_zero : (f : Format) (a b c : ℕ) (x : Float) → 0 < c → a ≤ b → b ≤ a → T (lt (neg x) (round f false (a - b) c)) → T (lt (round f false (b - a) c) x)
turned_zero f a b c x C h k t =
    let p : a - b ≡ 0 = omega arith in
    let q : b - a ≡ 0 = omega arith in
    let t' = turned_round f false 0 c x (subst (λ (z : ℕ). T (lt (neg x) (round f false z c))) p t) in
    subst (λ (z : ℕ). T (lt (round f false z c) x)) (sym q)
    (subst (λ (z : Float). T (lt z x)) (sym (round_zero f false c C)) (zero_signs x (subst (λ (z : Float). T (lt z x)) (round_zero f true c C) t')))

-- ±a / c - ±b / c
turned_difference : (f : Format) (s k j : Bool) (a b c : ℕ) (x : Float) → 0 < c → (T k → a < b) → (T (not k) → b ≤ a) → (T j → b < a) → (T (not j) → a ≤ b)
    → T (lt (neg x) (cond k (round f (not s) (b - a) c) (round f (s && j) (a - b) c))) → T (lt (cond j (round f (not s) (a - b) c) (round f (s && k) (b - a) c)) x)
turned_difference f s true true a b c x C p q u v h = absurd (let l = p tt in let m = u tt in omega arith)
turned_difference f true true false a b c x C p q u v h = turned_round f false (b - a) c x h
turned_difference f false true false a b c x C p q u v h = turned_round f true (b - a) c x h
turned_difference f true false true a b c x C p q u v h = turned_round f true (a - b) c x h
turned_difference f false false true a b c x C p q u v h = turned_round f false (a - b) c x h
turned_difference f true false false a b c x C p q u v h = turned_zero f a b c x C (v tt) (q tt) h
turned_difference f false false false a b c x C p q u v h = turned_zero f a b c x C (v tt) (q tt) h

turned_sum : (f : Format) (s t : Bool) (a b c : ℕ) (x : Float) → 0 < c → T (lt (neg x) (sum f s a (not t) b c)) → T (lt (sum f t b (not s) a c) x)
unfolding sum
turned_sum f true false a b c x C h = subst (λ (z : ℕ). T (lt (round f false z c) x)) (add_comm a b) (turned_round f true (a + b) c x h)
turned_sum f false true a b c x C h = subst (λ (z : ℕ). T (lt (round f true z c) x)) (add_comm a b) (turned_round f false (a + b) c x h)
turned_sum f true true a b c x C h = turned_difference f true (ltb a b) (ltb b a) a b c x C (ltb→lt a b) (nltb→le a b) (ltb→lt b a) (nltb→le b a) h
turned_sum f false false a b c x C h = turned_difference f false (ltb a b) (ltb b a) a b c x C (ltb→lt a b) (nltb→le a b) (ltb→lt b a) (nltb→le b a) h

below_nan : (x : Float) → T (lt x nan) → ⊥
unfolding lt
below_nan nan h = h
below_nan (inf s) h = h
below_nan (fin s m e) h = h

-- x - y lies above -b: then y - x lies below b.
pub sub_turned : (f : Format) (x y b : Float) → T (lt (neg b) (sub f x y)) → T (lt (sub f y x) b)
unfolding sub
sub_turned f nan y b h = absurd (below_nan (neg b) h)
sub_turned f (inf s) nan b h = absurd (below_nan (neg b) h)
sub_turned f (inf true) (inf true) b h = absurd (below_nan (neg b) h)
sub_turned f (inf false) (inf false) b h = absurd (below_nan (neg b) h)
sub_turned f (inf true) (inf false) b h = neg_turned b (inf true) h
sub_turned f (inf false) (inf true) b h = neg_turned b (inf false) h
sub_turned f (inf s) (fin t n d) b h = neg_turned b (inf s) h
sub_turned f (fin s m e) nan b h = absurd (below_nan (neg b) h)
sub_turned f (fin s m e) (inf true) b h = neg_turned b (inf false) h
sub_turned f (fin s m e) (inf false) b h = neg_turned b (inf true) h
sub_turned f (fin s m e) (fin t n d) b h =
    subst (λ (z : ℕ). T (lt (sum f t (n * up d * down e) (not s) (m * up e * down d) z) b)) (mul_comm (down e) (down d))
    (turned_sum f s t (m * up e * down d) (n * up d * down e) (down e * down d) b (mul-pos (down_pos e) (down_pos d)) h)

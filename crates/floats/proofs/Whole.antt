-- The bridge to ℤ, for final statements: `Is z a b` says that z is a - b, its laws carry sums, differences, products and comparisons between ℤ and pairs of naturals,
-- and `value_is` says of a float's value what the other files say of its two parts.
use Rattle.std.proofs.Common.{◌≡◌, ℕ, zero, suc, ◌+◌, ◌-◌, ◌*◌, ◌<◌, ◌≤◌, Bool, true, false, cond, not, T, ltb, leb, ◌↔◌, ℤ, pos, negsuc, ◌+ℤ◌, ◌-ℤ◌, ◌*ℤ◌, neg_ℤ, nat_abs, ◌≤ℤ◌, sym, refl, ap, ◌∙◌, subst, arith, le→leb, ltb→lt, leb→le, nltb→le, le-leb, leb-false, leb-true}
use lib.IntN.{sub_ℕ, *ℤ_comm}
use lib.Signed.{le_z}
use borrow.Author.Tests.{lt-leb}
use lib.Ieee.{Float, Format}
use Rattle.floats.specs.Value.{magnitude, sign, value}
use Rattle.floats.proofs.Value.{if_pos, if_neg}
use Rattle.floats.specs.Terms.Rounded.{pos_part, neg_part}

-- z is a - b
abbrev pub Is : ℤ → ℕ → ℕ → Type 0
Is (pos k) a b = a ≡ b + k
Is (negsuc k) a b = a + suc k ≡ b

sub_is : (a b : ℕ) → Is (sub_ℕ a b) a b
sub_is a b = go (ltb a b) (ltb→lt a b) (nltb→le a b)
  where
    go : (t : Bool) → (T t → a < b) → (T (not t) → b ≤ a) → Is (cond t (negsuc (b - suc a)) (pos (a - b))) a b
    go true h k = let l = h tt in omega arith
    go false h k = let l = k tt in omega arith

-- a - b written otherwise
pub is_as : (z : ℤ) (a b c d : ℕ) → a + d ≡ c + b → Is z a b → Is z c d
is_as (pos k) a b c d e h = omega arith
is_as (negsuc k) a b c d e h = omega arith

pub is_add : (x y : ℤ) (a b c d : ℕ) → Is x a b → Is y c d → Is (x +ℤ y) (a + c) (b + d)
is_add (pos i) (pos j) a b c d h k = omega arith
is_add (pos i) (negsuc j) a b c d h k = is_as (sub_ℕ i (suc j)) i (suc j) (a + c) (b + d) (omega arith) (sub_is i (suc j))
is_add (negsuc i) (pos j) a b c d h k = is_as (sub_ℕ j (suc i)) j (suc i) (a + c) (b + d) (omega arith) (sub_is j (suc i))
is_add (negsuc i) (negsuc j) a b c d h k = omega arith

pub is_neg : (x : ℤ) (a b : ℕ) → Is x a b → Is (neg_ℤ x) b a
is_neg (pos zero) a b h = omega arith
is_neg (pos (suc i)) a b h = omega arith
is_neg (negsuc i) a b h = omega arith

pub is_sub : (x y : ℤ) (a b c d : ℕ) → Is x a b → Is y c d → Is (x -ℤ y) (a + d) (b + c)
is_sub x y a b c d h k = is_add x (neg_ℤ y) a b d c h (is_neg y c d k)

pub is_times : (z : ℤ) (c a b : ℕ) → Is z a b → Is (pos c *ℤ z) (c * a) (c * b)
is_times (pos k) c a b h = ap (λ (x : ℕ). c * x) h ∙ omega arith
is_times (negsuc k) c a b h = is_as (neg_ℤ (pos (c * suc k))) 0 (c * suc k) (c * a) (c * b) (omega (arith, ap (λ (x : ℕ). c * x) h)) (is_neg (pos (c * suc k)) (c * suc k) 0 (omega arith))

pub is_scaled : (z : ℤ) (c a b : ℕ) → Is z a b → Is (z *ℤ pos c) (a * c) (b * c)
is_scaled z c a b h = is_as (z *ℤ pos c) (c * a) (c * b) (a * c) (b * c) (omega arith) (subst (λ (x : ℤ). Is x (c * a) (c * b)) (*ℤ_comm (pos c) z) (is_times z c a b h))

-- A test of two such numbers is one of naturals.
leb_same : (i j p q : ℕ) → (i ≤ j → p ≤ q) → (j < i → q < p) → leb i j ≡ leb p q
leb_same i j p q f g = go (leb i j) refl
  where
    go : (b : Bool) → leb i j ≡ b → b ≡ leb p q
    go true e = sym (le-leb p q (f (leb-true i j e)))
    go false e = sym (lt-leb p q (g (leb-false i j e)))

pub le_is : (x y : ℤ) (a b c d : ℕ) → Is x a b → Is y c d → le_z x y ≡ leb (a + d) (c + b)
le_is (pos i) (pos j) a b c d h k = leb_same i j (a + d) (c + b) (λ l. omega arith) (λ l. omega arith)
le_is (pos i) (negsuc j) a b c d h k = sym (lt-leb (a + d) (c + b) (omega arith))
le_is (negsuc i) (pos j) a b c d h k = sym (le-leb (a + d) (c + b) (omega arith))
le_is (negsuc i) (negsuc j) a b c d h k = leb_same j i (a + d) (c + b) (λ l. omega arith) (λ l. omega arith)

pub is_le : (x y : ℤ) (a b c d : ℕ) → Is x a b → Is y c d → (x ≤ℤ y) ↔ (a + d ≤ c + b)
is_le (pos i) (pos j) a b c d h k = (λ t. let l = leb→le i j t.le in omega arith, λ l. record { le = le→leb i j (omega arith) })
is_le (pos i) (negsuc j) a b c d h k = (λ t. absurd t.le, λ l. absurd (never l))
  where
    never : a + d ≤ c + b → ⊥
    never l = omega arith
is_le (negsuc i) (pos j) a b c d h k = (λ t. omega arith, λ l. record { le = tt })
is_le (negsuc i) (negsuc j) a b c d h k = (λ t. let l = leb→le j i t.le in omega arith, λ l. record { le = le→leb j i (omega arith) })

-- how large it is
pub is_size : (z : ℤ) (a b E : ℕ) → Is z a b → a ≤ b + E → b ≤ a + E → nat_abs z ≤ E
is_size (pos k) a b E h u v = omega arith
is_size (negsuc k) a b E h u v = omega arith

-- the value of a float is pos_part - neg_part
signed : (s : Bool) (g : ℕ) → Is (cond s (neg_ℤ (pos g)) (pos g)) (if_pos s g) (if_neg s g)
signed true zero = refl
signed true (suc g) = omega arith
signed false g = omega arith

pub value_is : (f : Format) (x : Float) → Is (value f x) (pos_part f x) (neg_part f x)
unfolding value pos_part neg_part
value_is f x = signed (sign x) (magnitude f x)

pub value_is_pos : (f : Format) (x : Float) → neg_part f x ≡ 0 → Is (value f x) (pos_part f x) 0
value_is_pos f x h = is_as (value f x) (pos_part f x) (neg_part f x) (pos_part f x) 0 (omega arith) (value_is f x)

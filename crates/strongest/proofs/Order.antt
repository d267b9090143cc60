-- Signed numbers as differences of two naturals: `Is z a b` says that z is a - b.
use Rattle.std.proofs.Common.{◌≡◌, refl, sym, ap, subst, Bool, true, false, not, ◌↔◌, ℕ, suc, ◌+◌, ◌-◌, ◌≤◌, ◌<◌, arith, T, ltb, ltb→lt, lt→ltb, ℤ, pos, negsuc, ◌-ℤ◌, ◌≤ℤ◌, ◌<ℤ◌}
use lib.Dec.{nleb→lt}
use lib.Signed.{lt_z, le_z}
use borrow.Author.Tests.{ltb-true, ltb-false, lt-ltb, le-ltb}
use Rattle.floats.proofs.Whole.{Is, is_as, is_sub, is_le, le_is}
use Rattle.strongest.specs.Strongest.{excess}

pub is_pos : (a : ℕ) → Is (pos a) a 0
is_pos a = omega arith

pub difference_is : (a b : ℕ) → Is (pos a -ℤ pos b) a b
difference_is a b = is_as (pos a -ℤ pos b) (a + 0) (0 + b) a b (omega arith) (is_sub (pos a) (pos b) a 0 b 0 (is_pos a) (is_pos b))

pub is_same : (x y : ℤ) (a b : ℕ) → Is x a b → Is y a b → x ≡ y
is_same (pos i) (pos j) a b h k = ap pos (omega arith)
is_same (pos i) (negsuc j) a b h k = absurd (let z : ⊥ = omega arith in z)
is_same (negsuc i) (pos j) a b h k = absurd (let z : ⊥ = omega arith in z)
is_same (negsuc i) (negsuc j) a b h k = ap negsuc (omega arith)

ltb_same : (i j p q : ℕ) → (i < j → p < q) → (j ≤ i → q ≤ p) → ltb i j ≡ ltb p q
ltb_same i j p q f g = go (ltb i j) refl
  where
    go : (b : Bool) → ltb i j ≡ b → b ≡ ltb p q
    go true e = sym (lt-ltb p q (f (ltb-true i j e)))
    go false e = sym (le-ltb p q (g (ltb-false i j e)))

pub lt_is : (x y : ℤ) (a b c d : ℕ) → Is x a b → Is y c d → lt_z x y ≡ ltb (a + d) (c + b)
lt_is (pos i) (pos j) a b c d h k = ltb_same i j (a + d) (c + b) (λ l. omega arith) (λ l. omega arith)
lt_is (pos i) (negsuc j) a b c d h k = sym (le-ltb (a + d) (c + b) (omega arith))
lt_is (negsuc i) (pos j) a b c d h k = sym (lt-ltb (a + d) (c + b) (omega arith))
lt_is (negsuc i) (negsuc j) a b c d h k = ltb_same j i (a + d) (c + b) (λ l. omega arith) (λ l. omega arith)

pub excess_is : (z : ℤ) (a b : ℕ) → Is z a b → excess z ≡ a - b
excess_is (pos i) a b h = omega arith
excess_is (negsuc i) a b h = omega arith

pub is_lt : (x y : ℤ) (a b c d : ℕ) → Is x a b → Is y c d → (x <ℤ y) ↔ (a + d < c + b)
is_lt x y a b c d h k =
    let e = lt_is x y a b c d h k in
    (λ t. ltb→lt (a + d) (c + b) (subst (λ (z : Bool). T z) e t.lt), λ l. record { lt = subst (λ (z : Bool). T z) (sym e) (lt→ltb (a + d) (c + b) l) })

-- ---- The order.
abbrev pub up : ℤ → ℕ
up (pos k) = k
up (negsuc k) = 0

abbrev pub down : ℤ → ℕ
down (pos k) = 0
down (negsuc k) = suc k

pub parts : (z : ℤ) → Is z (up z) (down z)
parts (pos k) = omega arith
parts (negsuc k) = omega arith

pub le_trans : (x y z : ℤ) → x ≤ℤ y → y ≤ℤ z → x ≤ℤ z
le_trans x y z h k =
    let a = (is_le x y (up x) (down x) (up y) (down y) (parts x) (parts y)).0 h in
    let b = (is_le y z (up y) (down y) (up z) (down z) (parts y) (parts z)).0 k in
    (is_le x z (up x) (down x) (up z) (down z) (parts x) (parts z)).1 (omega arith)

pub not_le : (x y : ℤ) → T (not (le_z x y)) → y <ℤ x
not_le x y t =
    let e = le_is x y (up x) (down x) (up y) (down y) (parts x) (parts y) in
    let l = nleb→lt (up x + down y) (up y + down x) (subst (λ (z : Bool). T (not z)) e t) in
    (is_lt y x (up y) (down y) (up x) (down x) (parts y) (parts x)).1 (omega arith)

pub both_le : (x y : ℤ) → x ≤ℤ y → y ≤ℤ x → x ≡ y
both_le x y h k =
    let a = (is_le x y (up x) (down x) (up y) (down y) (parts x) (parts y)).0 h in
    let b = (is_le y x (up y) (down y) (up x) (down x) (parts y) (parts x)).0 k in
    is_same x y (up y) (down y) (is_as x (up x) (down x) (up y) (down y) (omega arith) (parts x)) (parts y)

pub lt_le : (x y : ℤ) → x <ℤ y → x ≤ℤ y
lt_le x y h =
    let a = (is_lt x y (up x) (down x) (up y) (down y) (parts x) (parts y)).0 h in
    (is_le x y (up x) (down x) (up y) (down y) (parts x) (parts y)).1 (omega arith)

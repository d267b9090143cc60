-- The density records that the code makes, and the numbers of k-mers in the classes: what the code multiplies and shifts stays below 2^64.
use Rattle.std.proofs.Common.{◌≡◌, ℕ, zero, suc, ◌+◌, ◌-◌, ◌*◌, ◌/◌, ◌%◌, ◌^◌, ◌<◌, ◌≤◌, List, set, replicate, sym, ap, ◌∙◌, le_trans, le_of_eq, le_refl, mul-le-mul_right, mod-eq_of_lt, mul-le-mul_left, pow-suc, div-le_self, add-one, arith, lit<, pow_mono, Float}
use native.Mathlib.Nat.{pow-le-pow_right}
use Rattle.buffers.specs.Fill.{tabulate, tabulate_from}
use Rattle.buffers.proofs.Filling.{part, part_turn, part_end}
use Rattle.buffers.proofs.Tabulate.{tabulate_length, tabulate_at}
use Rattle.floats.specs.Arithmetic.{◌⊖◌, ◌⊗◌, ◌⊘◌}
use Rattle.floats.specs.Binary64.{number, zero64, half64, one64}
use Rattle.tables.specs.Density.{thirteen, uniform, ratio_at, binomial, count_at, by_gc}
use Rattle.tables.specs.Exp.{powi}

power_le : (k i : ℕ) → k ≤ 12 → binomial k i ≤ 12 ^ i
unfolding binomial
power_le k zero h = le_refl 1
power_le k (suc i) h =
    le_trans (div-le_self (binomial k i * (k - i)) (i + 1))
    (le_trans (mul-le-mul_left (binomial k i) (let l : k - i ≤ 12 = omega arith in l))
    (le_trans (mul-le-mul_right 12 (power_le k i h)) (le_of_eq (sym (pow-suc 12 i)))))

small : (k i : ℕ) → k ≤ 12 → i ≤ 12 → binomial k i ≤ 8916100448256
small k i h l = le_trans (power_le k i h) (pow-le-pow_right {n = 12} (lit< tt) {i = i} {j = 12} l)

pub product_fits : (k i m b : ℕ) → k ≤ 12 → i ≤ 12 → m ≤ 12 → b ≡ binomial k i → b * m < 2 ^ 64
product_fits k i m b h l n e =
    let a : b * m ≤ 8916100448256 * m = mul-le-mul_right m (le_trans (le_of_eq e) (small k i h l)) in
    omega arith

pub binomial_first : (k i : ℕ) → i ≡ 0 → 1 ≡ binomial k i
unfolding binomial
binomial_first k i e = rw e

pub binomial_next : (k i b : ℕ) → b ≡ binomial k i → b * (k - i) / (i + 1) ≡ binomial k (i + 1)
unfolding binomial
binomial_next k i b e = ap (λ (n : ℕ). n * (k - i) / (i + 1)) e ∙ ap (λ (n : ℕ). binomial k n) (sym (add-one i))

-- The number of k-mers in class i, shifted from the binomial.
pub counted : (k i b : ℕ) → k ≤ 12 → i ≤ 12 → b ≡ binomial k i → number ((b * 2 ^ k) % 2 ^ 64) ≡ count_at k i
unfolding count_at
counted k i b h l e =
    let a : b * 2 ^ k ≤ 8916100448256 * 2 ^ k = mul-le-mul_right (2 ^ k) (le_trans (le_of_eq e) (small k i h l)) in
    let p : 2 ^ k ≤ 4096 = pow_mono h in
    ap number (mod-eq_of_lt (omega arith) ∙ ap (λ (n : ℕ). n * 2 ^ k) e)

-- ---- thirteen numbers stored one by one
module _ (f : ℕ → Float) (k : ℕ) (l : List Float) (i : ℕ) (small_k : k ≤ 12) (so_far : l ≡ part (tabulate f (k + 1)) (replicate 13 zero64) i) where
  next : (v : Float) → i < k + 1 → v ≡ f i → set l i v ≡ part (tabulate f (k + 1)) (replicate 13 zero64) (i + 1)
  next v h g =
      let t = tabulate_length f (k + 1) in
      part_turn (tabulate f (k + 1)) (replicate 13 zero64) l i zero64 v so_far (omega arith) (omega arith) (g ∙ sym (tabulate_at f (k + 1) i zero64 h))

  last : i ≡ k + 1 → l ≡ thirteen f (k + 1)
  unfolding thirteen
  last e =
      let t = tabulate_length f (k + 1) in
      part_end (tabulate f (k + 1)) (replicate 13 zero64) l i so_far (omega arith) (omega arith)

pub ratio_next : (k : ℕ) (gc : Float) (l : List Float) (i : ℕ) (p q : Float) → k ≤ 12 → i < k + 1 → l ≡ part (tabulate (ratio_at k gc) (k + 1)) (replicate 13 zero64) i
    → p ≡ powi (gc ⊘ half64) i → q ≡ powi ((one64 ⊖ gc) ⊘ half64) (k - i)
    → set l i (p ⊗ q) ≡ part (tabulate (ratio_at k gc) (k + 1)) (replicate 13 zero64) (i + 1)
unfolding ratio_at
ratio_next k gc l i p q h j e a b = next (ratio_at k gc) k l i h e (p ⊗ q) j (rw (a, b))

pub ratio_last : (k : ℕ) (gc : Float) (l : List Float) (i : ℕ) → k ≤ 12 → l ≡ part (tabulate (ratio_at k gc) (k + 1)) (replicate 13 zero64) i → i ≡ k + 1 → l ≡ thirteen (ratio_at k gc) (k + 1)
ratio_last k gc l i h e j = last (ratio_at k gc) k l i h e j

pub count_next : (k : ℕ) (l : List Float) (i b : ℕ) (v : Float) → k ≤ 12 → i < k + 1 → l ≡ part (tabulate (count_at k) (k + 1)) (replicate 13 zero64) i
    → b ≡ binomial k i → v ≡ number ((b * 2 ^ k) % 2 ^ 64) → set l i v ≡ part (tabulate (count_at k) (k + 1)) (replicate 13 zero64) (i + 1)
count_next k l i b v h j e g a = next (count_at k) k l i h e v j (a ∙ counted k i b h (omega arith) g)

pub count_last : (k : ℕ) (l : List Float) (i : ℕ) → k ≤ 12 → l ≡ part (tabulate (count_at k) (k + 1)) (replicate 13 zero64) i → i ≡ k + 1 → l ≡ thirteen (count_at k) (k + 1)
count_last k l i h e j = last (count_at k) k l i h e j

-- ---- the records
pub uniform_made : (k : ℕ) (x : Float) → x ≡ number (4 ^ k) → record { ratio = set (replicate 13 zero64) 0 one64; count = set (replicate 13 zero64) 0 x; classes = 1 } ≡ uniform k
unfolding uniform thirteen tabulate tabulate_from
uniform_made k x e = rw e

pub by_gc_made : (k : ℕ) (gc : Float) (r m : List Float) → r ≡ thirteen (ratio_at k gc) (k + 1) → m ≡ thirteen (count_at k) (k + 1) → record { ratio = r; count = m; classes = k + 1 } ≡ by_gc k gc
unfolding by_gc
by_gc_made k gc r m e g = rw (e, g)

-- The laws by which `ratios`, `counts` are proved.
pub ruleset in_thirteen = (ratio_next, ratio_last, product_fits, binomial_first, binomial_next, count_next, count_last)

-- The laws by which `calculate_f`, `calculate_f_gc` are proved.
pub ruleset made = (uniform_made, by_gc_made)

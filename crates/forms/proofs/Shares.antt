-- A share is at most a million millionths.
use Rattle.std.proofs.Common.{◌≡◌, ℕ, ◌*◌, ◌/◌, ◌%◌, ◌<◌, ◌≤◌, Bool, true, false, cond, ltb, refl, sym, subst, ⊎_elim, arith, ltb-false}
use Rattle.std.proofs.Math.Nat.{div-lt_iff_lt-mul, mul-le-mul_right}
use Rattle.std.proofs.lemmas.Nat.{div-add-mod'}
use Rattle.intervals.proofs.Order.{lt_or_le}
use Rattle.forms.specs.Share.{rounded}

within : (b : Bool) (x y m : ℕ) → (b ≡ true → x ≤ m) → (b ≡ false → y ≤ m) → cond b x y ≤ m
within true x y m p q = p refl
within false x y m p q = q refl

rounded_small : (a d : ℕ) → 0 < d → a ≤ 1000000 * d → rounded a d ≤ 1000000
unfolding rounded
rounded_small a d pos h =
    let most : a / d < 1000001 = (div-lt_iff_lt-mul {k = d} {x = a} {y = 1000001} pos).1 (omega arith) in
    ⊎_elim
    (λ (less : a / d < 1000000).
    within (ltb (2 * (a % d)) d) _ _ _ (λ t. omega arith)
    (λ t. within (ltb d (2 * (a % d))) _ _ _ (λ u. omega arith) (λ u. omega arith)))
    (λ (all : 1000000 ≤ a / d).
    let more : 1000000 * d ≤ a / d * d = mul-le-mul_right d all in
    let none : a % d ≡ 0 = omega (arith, more, div-add-mod' a d) in
    within (ltb (2 * (a % d)) d) _ _ _ (λ t. omega arith)
    (λ t. absurd (let k : d ≤ 2 * (a % d) = ltb-false (2 * (a % d)) d t in let z : ⊥ = omega arith in z)))
    (lt_or_le (a / d) 1000000)

pub few_millionths : (n d m : ℕ) → 0 < d → n ≤ d → m ≡ rounded (n * 1000000) d → m ≤ 1000000
few_millionths n d m pos h e = subst (λ (k : ℕ). k ≤ 1000000) (sym e) (rounded_small (n * 1000000) d pos (omega arith))

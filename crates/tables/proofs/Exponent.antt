-- A difference of two exponents as a whole number, `minus`, and its float where it is below 0.
use Rattle.std.proofs.Common.{◌≡◌, ℕ, zero, suc, ◌+◌, ◌-◌, ◌<◌, ◌≤◌, Bool, true, false, leb, ℤ, pos, negsuc, ◌+ℤ◌, sym, refl, ap, ◌∙◌, add-zero, add-suc, arith, le-leb, leb-false, leb-true}
use lib.IntN.{suc_ℤ, +ℤ_idr, +ℤ-suc_ℤ}
use lib.Ieee.{Format, neg, round, minus, of_int, binary64}
use borrow.Author.Tests.{lt-leb}
use Rattle.floats.proofs.Order.{neg_units}

pub minus_le : (a b : ℕ) → b ≤ a → minus a b ≡ pos (a - b)
minus_le a b h = rw (le-leb b a h)

minus_lt : (a b : ℕ) → a < b → minus a b ≡ negsuc (b - suc a)
minus_lt a b h = rw (lt-leb b a h)

-- by one
below_one : (n m : ℕ) → n ≡ suc m → negsuc m ≡ suc_ℤ (negsuc n)
below_one n m e = rw e

at_zero : (n : ℕ) → n ≡ 0 → pos 0 ≡ suc_ℤ (negsuc n)
at_zero n e = rw e

minus_suc : (a b : ℕ) → minus (suc a) b ≡ suc_ℤ (minus a b)
minus_suc a b = go (leb b a) refl (leb b (suc a)) refl
  where
    go : (t : Bool) → leb b a ≡ t → (u : Bool) → leb b (suc a) ≡ u → minus (suc a) b ≡ suc_ℤ (minus a b)
    go true e u f =
        let h : b ≤ a = leb-true b a e in
        let k : suc a - b ≡ suc (a - b) = omega arith in
        minus_le (suc a) b (omega arith) ∙ ap pos k ∙ ap suc_ℤ (sym (minus_le a b h))
    go false e true f =
        let h : a < b = leb-false b a e in
        let g : b ≤ suc a = leb-true b (suc a) f in
        let k : suc a - b ≡ 0 = omega arith in
        minus_le (suc a) b g ∙ ap pos k ∙ at_zero (b - suc a) (omega arith) ∙ ap suc_ℤ (sym (minus_lt a b h))
    go false e false f =
        let g : suc a < b = leb-false b (suc a) f in
        minus_lt (suc a) b g ∙ below_one (b - suc a) (b - suc (suc a)) (omega arith) ∙ ap suc_ℤ (sym (minus_lt a b (omega arith)))

pub minus_add : (a b n : ℕ) → minus a b +ℤ pos n ≡ minus (a + n) b
minus_add a b zero = +ℤ_idr (minus a b) ∙ ap (λ (n : ℕ). minus n b) (sym (add-zero a))
minus_add a b (suc n) =
    +ℤ-suc_ℤ (minus a b) (pos n) ∙ ap suc_ℤ (minus_add a b n) ∙ sym (minus_suc (a + n) b) ∙ ap (λ (n : ℕ). minus n b) (sym (add-suc a n))

minus_both : (a b c : ℕ) → minus (a + c) (b + c) ≡ minus a b
minus_both a b c = go (leb b a) refl
  where
    go : (t : Bool) → leb b a ≡ t → minus (a + c) (b + c) ≡ minus a b
    go true e =
        let h : b ≤ a = leb-true b a e in
        minus_le (a + c) (b + c) (omega arith) ∙ ap pos (let k : a + c - (b + c) ≡ a - b = omega arith in k) ∙ sym (minus_le a b h)
    go false e =
        let h : a < b = leb-false b a e in
        minus_lt (a + c) (b + c) (omega arith) ∙ ap negsuc (let k : b + c - suc (a + c) ≡ b - suc a = omega arith in k) ∙ sym (minus_lt a b h)

-- the same difference
pub minus_same : (a b c d : ℕ) → a + d ≡ c + b → minus a b ≡ minus c d
minus_same a b c d e =
    sym (minus_both a b d) ∙ ap (λ (n : ℕ). minus n (b + d)) e ∙ ap (λ (n : ℕ). minus (c + b) n) (let k : b + d ≡ d + b = omega arith in k) ∙ minus_both c d b

-- ---- the float of a negative number
neg_round : (f : Format) (n d : ℕ) → neg (round f false n d) ≡ round f true n d
unfolding round
neg_round f n d = neg_units f false _ _

pub of_minus : (a b : ℕ) → a < b → neg (of_int binary64 (pos (b - a))) ≡ of_int binary64 (minus a b)
unfolding of_int
of_minus a b h =
    neg_round binary64 (b - a) 1
    ∙ ap (λ (n : ℕ). round binary64 true n 1) (let k : b - a ≡ suc (b - suc a) = omega arith in k)
    ∙ ap (λ (z : ℤ). of_int binary64 z) (sym (minus_lt a b h))

-- The laws by which `difference` is proved.
pub ruleset differences = (minus_le, of_minus)

-- The laws by which `ln_scaled` is proved.
pub ruleset raised = (minus_add)

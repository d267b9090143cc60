-- The fewest decimal digits of a number: there is one such count, it is `digit_count`, and a bound on the number bounds it.
use Rattle.std.proofs.Common.{ℕ, zero, suc, ◌-◌, ◌/◌, ◌^◌, ◌≤◌, ◌<◌, ◌≡◌, refl, ◌∙◌, ⊎_elim, pow-suc, arith, length, length-append}
use native.Mathlib.Nat.{pow-le-pow_right}
use borrow.Author.Tests.{lt-ltb, le-ltb}
use Rattle.intervals.proofs.Order.{lt_or_le}
use Rattle.io.specs.Digits.{last_digits, IsDigitCount}
use Rattle.report.specs.Text.{digit_count, decimal}

least : (n k k' : ℕ) → IsDigitCount 10 1 n k' → 1 ≤ k → n < 10 ^ k → k' ≤ k
least n k k' f one h =
    ⊎_elim
    (λ (gt : k < k'). absurd
    (let p : 10 ^ k ≤ 10 ^ (k' - 1) = pow-le-pow_right {n = 10} (omega arith) {i = k} {j = k' - 1} (omega arith) in
    let q : 10 ^ (k' - 1) ≤ n = f.2 (omega arith) in
    omega arith))
    (λ (le : k' ≤ k). le)
    (lt_or_le k k')

fewest : (m n : ℕ) → n ≤ m → IsDigitCount 10 1 n (digit_count m n)
unfolding digit_count
fewest zero n h = (omega arith, omega arith, λ l. absurd (omega arith))
fewest (suc m) n h =
    ⊎_elim
    (λ (lt : n < 10). rw (lt-ltb n 10 lt) (omega arith, omega arith, λ l. absurd (omega arith)))
    (λ (ge : 10 ≤ n). rw (le-ltb n 10 ge) (more (digit_count m (n / 10)) ge (fewest m (n / 10) (omega arith))))
    (lt_or_le n 10)
  where
    more : (k : ℕ) → 10 ≤ n → IsDigitCount 10 1 (n / 10) k → IsDigitCount 10 1 n (suc k)
    more k ge f = (
      omega arith,
      rw pow-suc (omega arith),
      λ l. ⊎_elim
          (λ (gt : 1 < k). let h = f.2 gt in let e : suc k - 1 ≡ suc (k - 1) = omega arith in rw (e, pow-suc) (omega arith))
          (λ (le : k ≤ 1). let e : suc k - 1 ≡ 1 = omega arith in rw e (omega arith))
          (lt_or_le 1 k),
    )

pub decimal_digits : (n k : ℕ) → IsDigitCount 10 1 n k → last_digits 10 k n ≡ decimal n
unfolding decimal
decimal_digits n k f =
    let g = fewest n n (omega arith) in
    let e : k ≡ digit_count n n = omega (arith, least n k (digit_count n n) g f.0 f.1, least n (digit_count n n) k f g.0 g.1) in
    rw e

length_digits : (k n : ℕ) → length (last_digits 10 k n) ≡ k
length_digits zero n = refl
length_digits (suc k) n = length-append (last_digits 10 k (n / 10)) _ ∙ omega (arith, length_digits k (n / 10))

pub length_decimal : (n k : ℕ) → 1 ≤ k → n < 10 ^ k → length (decimal n) ≤ k
unfolding decimal
length_decimal n k one h = rw length_digits (least n k (digit_count n n) (fewest n n (omega arith)) one h)

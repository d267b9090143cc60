-- Powers of four, the numbers of k-mers: their size and remainders by them.
use Rattle.std.proofs.Common.{◌≡◌, ℕ, zero, suc, ◌+◌, ◌-◌, ◌*◌, ◌/◌, ◌%◌, ◌^◌, ◌<◌, ◌≤◌, sym, refl, ap, ◌∙◌, mod-lt, mod-eq_of_lt, mul_assoc, mul_comm, pow-suc, div-add-mod', arith, lit<, pow-add}
use native.Mathlib.Nat.{mod-mod_of_dvd, mul-add-mod_self_left, dvd-mul_right, pow-le-pow_right}

pub four_pos : (k : ℕ) → 0 < 4 ^ k
four_pos k = pow-le-pow_right {n = 4} (lit< tt) {i = 0} {j = k} (omega arith)

pub four_small : (k : ℕ) → k ≤ 12 → 4 ^ k ≤ 16777216
four_small k h = pow-le-pow_right {n = 4} (lit< tt) {i = k} {j = 12} h

-- The most that 64 bits hold, and more.
pub four_fits : (k : ℕ) → k ≤ 31 → 4 ^ k ≤ 4611686018427387904
four_fits k h = pow-le-pow_right {n = 4} (lit< tt) {i = k} {j = 31} h

pub four_large : (k : ℕ) → 31 < k → 18446744073709551616 ≤ 4 ^ k
four_large k h = pow-le-pow_right {n = 4} (lit< tt) {i = 32} {j = k} h

pub four_two : (k : ℕ) → 4 ^ k ≡ 2 ^ (2 * k)
four_two zero = refl
four_two (suc k) = pow-suc 4 k ∙ ap (λ (n : ℕ). n * 4) (four_two k) ∙ sym (pow-add 2 (2 * k) 2) ∙ ap (λ (n : ℕ). 2 ^ n) (omega arith)

-- A remainder keeps its j lowest letters.
pub mod_mod_four : (x j k : ℕ) → j ≤ k → x % 4 ^ k % 4 ^ j ≡ x % 4 ^ j
mod_mod_four x j k h =
    ap (λ (n : ℕ). x % n % 4 ^ j) (ap (λ (n : ℕ). 4 ^ n) (let e : k ≡ j + (k - j) = omega arith in e) ∙ pow-add 4 j (k - j))
    ∙ mod-mod_of_dvd (4 ^ j) x (dvd-mul_right (4 ^ j) (4 ^ (k - j)))

-- One letter more at the low end.
pub mod_letter : (v c j : ℕ) → c < 4 → (v * 4 + c) % 4 ^ suc j ≡ v % 4 ^ j * 4 + c
mod_letter v c j h =
    let m = 4 ^ j in
    let q = v / m in
    let r = v % m in
    let d : q * m + r ≡ v = div-add-mod' v m in
    let l : r < m = mod-lt v (four_pos j) in
    let e : v * 4 + c ≡ m * 4 * q + (r * 4 + c) = omega (arith, mul_comm (m * 4) q ∙ sym (mul_assoc q m 4)) in
    ap (λ (n : ℕ). (v * 4 + c) % n) (pow-suc 4 j)
    ∙ ap (λ (x : ℕ). x % (m * 4)) e
    ∙ mul-add-mod_self_left (m * 4) q (r * 4 + c)
    ∙ mod-eq_of_lt (omega arith)

-- What a shift by 2k says of the number of k-mers.
pub ruleset of_four = (four_two, four_pos, four_small, four_fits, four_large)

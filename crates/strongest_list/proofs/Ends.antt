-- Letters in a row that are not barred.
use Rattle.std.proofs.Common.{◌≡◌, ℕ, zero, suc, ◌+◌, ◌-◌, ◌<◌, ◌≤◌, Bool, cond, ltb, ltb→lt, List, length, get_or, ap, subst, arith, ⊎_elim, lt-ltb}
use Rattle.intervals.proofs.Order.{lt_or_le}
use Rattle.scans.proofs.Test.{by_test}
use Rattle.buffers.proofs.At.{default_free}
use Rattle.strongest_list.specs.Terms.Codes.{run_to}

module _ (cs : List ℕ) where
  pub run_low : (e : ℕ) → run_to cs e ≤ e
  unfolding run_to
  run_low zero = omega arith
  run_low (suc e) = by_test (λ (r : ℕ). r ≤ suc e) (ltb (get_or cs e 5) 5) (suc (run_to cs e)) 0 (λ t. omega (arith, run_low e)) (λ t. omega arith)

  pub run_in : (e x : ℕ) → x < e → e ≤ x + run_to cs e → get_or cs x 5 < 5
  unfolding run_to
  run_in zero x h k = absurd (let z : ⊥ = omega arith in z)
  run_in (suc e) x h k =
      by_test (λ (r : ℕ). suc e ≤ x + r → get_or cs x 5 < 5) (ltb (get_or cs e 5) 5) (suc (run_to cs e)) 0
      (λ t j. ⊎_elim (λ i. run_in e x i (omega arith)) (λ i. subst (λ (n : ℕ). get_or cs n 5 < 5) (let z : e ≡ x = omega arith in z) (ltb→lt (get_or cs e 5) 5 t)) (lt_or_le x e))
      (λ t j. absurd (let z : ⊥ = omega arith in z))
      k

  pub run_all : (e a : ℕ) → a ≤ e → ((x : ℕ) → a ≤ x → x < e → get_or cs x 5 < 5) → e ≤ a + run_to cs e
  unfolding run_to
  run_all zero a h k = omega arith
  run_all (suc e) a h k =
      ⊎_elim
      (λ i.
      let j : a ≤ e = omega arith in
      let l : run_to cs (suc e) ≡ suc (run_to cs e) = ap (λ (t : Bool). cond t (suc (run_to cs e)) 0) (lt-ltb (get_or cs e 5) 5 (k e j (omega arith))) in
      let m = run_all e a j (λ x p q. k x p (omega arith)) in
      omega arith)
      (λ i. omega arith)
      (lt_or_le a (suc e))

  -- One letter more to the front of a row, or none.
  pub run_next : (e r : ℕ) → r < e → r ≤ run_to cs e → get_or cs (e - 1 - r) 5 < 5 → r + 1 ≤ run_to cs e
  run_next e r h k l =
      let m = run_all e (e - 1 - r) (omega arith)
      (λ x i j. ⊎_elim (λ p. run_in e x j (omega arith)) (λ p. subst (λ (n : ℕ). get_or cs n 5 < 5) (let z : e - 1 - r ≡ x = omega arith in z) l) (lt_or_le (e - 1 - r) x)) in
      omega arith

  pub run_stop : (e r : ℕ) → r < e → 5 ≤ get_or cs (e - 1 - r) 5 → run_to cs e ≤ r
  run_stop e r h k = ⊎_elim (λ l. let m = run_in e (e - 1 - r) (omega arith) (omega arith) in absurd (let z : ⊥ = omega arith in z)) (λ l. l) (lt_or_le r (run_to cs e))

  pub at_zero : (x : ℕ) → x < length cs → get_or cs x 0 ≡ get_or cs x 5
  at_zero x h = default_free cs x 0 5 h

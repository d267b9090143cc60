-- A list read backwards: the letters it covers, and that it is canonical.
use Rattle.std.proofs.Common.{ℕ, ◌+◌, ◌-◌, ◌≤◌, ◌<◌, ◌≡◌, refl, List, [], ◌∷◌, ◌++◌, inl, inr, ⊎_elim, ◌↔◌, arith}
use Rattle.intervals.specs.declared.Interval.{Interval}
use Rattle.intervals.specs.Interval.{interval, Covers, Ascending, Canonical}
use Rattle.intervals.specs.Merge.{flip, backwards}
use Rattle.intervals.proofs.Shape.{ascending_more}
use Rattle.intervals.proofs.Covered.{append_covers}

pub backwards_snoc : (n : ℕ) (is : List Interval) (i : Interval) → backwards n (is ++ (i ∷ [])) ≡ flip n i ∷ backwards n is
unfolding backwards
backwards_snoc n [] i = refl
backwards_snoc n (j ∷ is) i = rw (backwards_snoc n is i)

-- Letter x read backwards is letter y.
pub backwards_covers : (n x y : ℕ) (is : List Interval) → x + y + 1 ≡ n → Covers (backwards n is) x ↔ Covers is y
unfolding backwards
backwards_covers n x y [] q = ((λ h. absurd h), (λ h. absurd h))
backwards_covers n x y (i ∷ is) q =
    let ih = backwards_covers n x y is q in
    let a = append_covers x (backwards n is) (flip n i ∷ []) in (
      (λ h. ⊎_elim (λ c. inr (ih.0 c)) (λ c. ⊎_elim (λ d. inl (omega arith)) (λ d. absurd d) c) (a.0 h)),
      (λ h. a.1 (⊎_elim (λ c. inr (inl (omega arith))) (λ c. inl (ih.1 c)) h)),
    )

ascending_snoc : (n m k lo s e : ℕ) (is : List Interval) → Ascending m k lo is → m < s → lo ≤ s → s + k ≤ e → e ≤ n
    → Ascending n k lo (is ++ (interval s e ∷ []))
ascending_snoc n m k lo s e [] a h l o p = (l, o, p, tt)
ascending_snoc n m k lo s e (i ∷ is) a h l o p =
    (a.0, a.1, omega arith, ascending_snoc n m k (i.end + 1) s e is a.3 h (omega arith) o p)

backwards_ascending : (n k lo : ℕ) (is : List Interval) → 0 < k → Ascending n k lo is → Ascending (n - lo) k 0 (backwards n is)
unfolding backwards
backwards_ascending n k lo [] p a = tt
backwards_ascending n k lo (i ∷ []) p a = (omega arith, omega arith, omega arith, tt)
backwards_ascending n k lo (i ∷ j ∷ is) p a =
    ascending_snoc (n - lo) (n - (i.end + 1)) k 0 (n - i.end) (n - i.start) (backwards n (j ∷ is))
    (backwards_ascending n k (i.end + 1) (j ∷ is) p a.3) (omega arith) (omega arith) (omega arith) (omega arith)

pub backwards_canonical : (n k : ℕ) (is : List Interval) → 0 < k → Canonical n k is → Canonical n k (backwards n is)
backwards_canonical n k is p a = ascending_more (n - 0) n k 0 (backwards n is) (omega arith) (backwards_ascending n k 0 is p a)

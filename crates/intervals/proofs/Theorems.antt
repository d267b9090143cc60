-- Canonical lists are told by the letters they cover; what follows for merges and for reading backwards.
use Rattle.std.proofs.Common.{ℕ, ◌+◌, ◌-◌, ◌<◌, ◌≡◌, List, [], inl, inr, ⊎_elim, ◌↔◌, arith}
use Rattle.intervals.specs.declared.Interval.{Interval}
use Rattle.intervals.specs.Interval.{Covers, Canonical}
use Rattle.intervals.specs.Merge.{merge, backwards}
use Rattle.intervals.proofs.Shape.{covers_below, merge_canonical}
use Rattle.intervals.proofs.Covered.{merge_covers}
use Rattle.intervals.proofs.Backward.{backwards_covers, backwards_canonical}
use Rattle.intervals.proofs.Unique.{unique}

-- Two canonical lists that cover the same letters are equal.
pub canonical_unique : (n k : ℕ) (is js : List Interval) → 0 < k → Canonical n k is → Canonical n k js
    → ((x : ℕ) → x < n → Covers is x ↔ Covers js x) → is ≡ js
canonical_unique n k is js p a b w =
    unique n k 0 0 is js p a b (λ x c. (w x (covers_below n k x 0 is a c)).0 c) (λ x c. (w x (covers_below n k x 0 js b c)).1 c)

-- Mirror: b merged with a read backwards is a merged with b read backwards, read backwards.
pub merge_mirror : (n k : ℕ) (a b : List Interval) → 0 < k → Canonical n k a → Canonical n k b
    → merge b (backwards n a) ≡ backwards n (merge a (backwards n b))
merge_mirror n k a b p ca cb =
    let cba = backwards_canonical n k a p ca in
    let cbb = backwards_canonical n k b p cb in
    let cl = merge_canonical n k b (backwards n a) p cb cba in
    let cm = merge_canonical n k a (backwards n b) p ca cbb in
    canonical_unique n k (merge b (backwards n a)) (backwards n (merge a (backwards n b))) p cl
    (backwards_canonical n k (merge a (backwards n b)) p cm)
    (λ x l.
    let y : ℕ = n - 1 - x in
    let q : x + y + 1 ≡ n = omega arith in
    let q' : y + x + 1 ≡ n = omega arith in
    let left = merge_covers n k b (backwards n a) x cb cba in
    let right = merge_covers n k a (backwards n b) y ca cbb in
    let whole = backwards_covers n x y (merge a (backwards n b)) q in
    let in_a = backwards_covers n x y a q in
    let in_b = backwards_covers n y x b q' in (
      (λ h. whole.1 (right.1 (⊎_elim (λ c. inr (in_b.1 c)) (λ c. inl (in_a.0 c)) (left.0 h)))),
      (λ h. left.1 (⊎_elim (λ c. inr (in_a.1 c)) (λ c. inl (in_b.0 c)) (right.0 (whole.0 h)))),
    ))

-- A canonical list merged with no other is itself.
pub merge_alone : (n k : ℕ) (is : List Interval) → 0 < k → Canonical n k is → merge is [] ≡ is
merge_alone n k is p a =
    canonical_unique n k (merge is []) is p (merge_canonical n k is [] p a tt) a
    (λ x l.
    let c = merge_covers n k is [] x a tt in
    ((λ h. ⊎_elim (λ d. d) (λ d. absurd d) (c.0 h)), (λ h. c.1 (inl h))))

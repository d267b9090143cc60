-- A strand and its reverse complement: places that mirror each other, how often their k-mers stand in stretches that do, and what these score.
use Rattle.std.proofs.Common.{◌≡◌, ℕ, zero, suc, ◌+◌, ◌-◌, ◌*◌, ◌^◌, ◌<◌, ◌≤◌, Bool, true, false, cond, ltb, eqb, ◌&&◌, List, [], ◌∷◌, ◌++◌, length, get_or, take, drop, refl, sym, ap, ap₂, ◌∙◌, subst, arith, ⊎_elim, true≢false, lt-ltb, ltb-true, eqb-true, eq-eqb}
use Rattle.buffers.proofs.At.{default_free}
use Rattle.intervals.proofs.Counted.{same_test}
use Rattle.intervals.proofs.Order.{lt_or_le}
use Rattle.letters.specs.Code.{complement, reverse_complement}
use Rattle.letters.specs.Place.{Place, ambiguous, plain, packed, all_plain, place_at, places_from, places, Below}
use Rattle.letters.proofs.Codes.{complement_twice, reverse_complement_at}
use Rattle.letters.proofs.Places.{places_drop, place_below}
use Rattle.scans.specs.Counts.{count, hit}
use Rattle.scans.specs.Score.{stretch}
use Rattle.scans.proofs.Counting.{count_snoc}
use Rattle.strongest_list.proofs.Orders.{worth, gain, gain_snoc}

both : (a b : Bool) → a && b ≡ true → (a ≡ true) × (b ≡ true)
both true b e = (refl, e)
both false b e = absurd (true≢false (sym e))

-- ---- The j newest of the first m letters exist and have codes below 4.
record Run (s : List ℕ) (m j : ℕ) : Type 0 where
  long : j ≤ m
  small : (x : ℕ) → x < m → m ≤ x + j → get_or s x 4 < 4

run_of : (s : List ℕ) (m j : ℕ) → all_plain s m j ≡ true → Run s m j
unfolding all_plain
run_of s m zero e = record { long = omega arith; small = λ x h k. absurd (let z : ⊥ = omega arith in z) }
run_of s zero (suc j) e = absurd (true≢false (sym e))
run_of s (suc m) (suc j) e =
    let p = both (ltb (get_or s m 4) 4) (all_plain s m j) e in
    let r = run_of s m j p.1 in
    let l = ltb-true (get_or s m 4) 4 p.0 in
    record {
      long = omega (arith, r.long);
      small = λ x h k. ⊎_elim (λ i. r.small x i (omega arith)) (λ i. subst (λ (n : ℕ). get_or s n 4 < 4) (let z : m ≡ x = omega arith in z) l) (lt_or_le x m);
    }

of_run : (s : List ℕ) (m j : ℕ) → Run s m j → all_plain s m j ≡ true
unfolding all_plain
of_run s m zero r = refl
of_run s zero (suc j) r = absurd (let l = r.long in let z : ⊥ = omega arith in z)
of_run s (suc m) (suc j) r =
    ap₂ (λ (a b : Bool). a && b) (lt-ltb (get_or s m 4) 4 (r.small m (omega arith) (omega arith)))
    (of_run s m j (record { long = let l = r.long in omega arith; small = λ x h k. r.small x (omega arith) (omega arith) }))

-- Letters x and y that stand as far from the end of such a run.
abbrev Alike : List ℕ → ℕ → List ℕ → ℕ → ℕ → Type 0
Alike s m s' m' j = (x y : ℕ) → x < m → m ≤ x + j → x + m' ≡ y + m → get_or s x 4 ≡ get_or s' y 4

packed_same : (s s' : List ℕ) (m m' j : ℕ) → j ≤ m → j ≤ m' → Alike s m s' m' j → packed s m j ≡ packed s' m' j
unfolding packed
packed_same s s' m m' zero h k a = refl
packed_same s s' zero m' (suc j) h k a = absurd (let z : ⊥ = omega arith in z)
packed_same s s' (suc m) zero (suc j) h k a = absurd (let z : ⊥ = omega arith in z)
packed_same s s' (suc m) (suc m') (suc j) h k a =
    ap₂ (λ (x y : ℕ). x * 4 + y)
    (packed_same s s' m m' j (omega arith) (omega arith) (λ x y p q e. a x y (omega arith) (omega arith) (omega arith)))
    (a m m' (omega arith) (omega arith) (omega arith))

packed_alike : (s s' : List ℕ) (m m' j : ℕ) → Run s m j → Run s' m' j → packed s m j ≡ packed s' m' j → Alike s m s' m' j
unfolding packed
packed_alike s s' m m' zero r r' e x y h k q = absurd (let z : ⊥ = omega arith in z)
packed_alike s s' zero m' (suc j) r r' e x y h k q = absurd (let z : ⊥ = omega arith in z)
packed_alike s s' (suc m) zero (suc j) r r' e x y h k q = absurd (let l = r'.long in let z : ⊥ = omega arith in z)
packed_alike s s' (suc m) (suc m') (suc j) r r' e x y h k q =
    let c = r.small m (omega arith) (omega arith) in
    let d = r'.small m' (omega arith) (omega arith) in
    let older : packed s m j ≡ packed s' m' j = omega arith in
    let last : get_or s m 4 ≡ get_or s' m' 4 = omega arith in
    ⊎_elim
    (λ i. packed_alike s s' m m' j
    (record { long = let l = r.long in omega arith; small = λ v n o. r.small v (omega arith) (omega arith) })
    (record { long = let l = r'.long in omega arith; small = λ v n o. r'.small v (omega arith) (omega arith) })
    older x y i (omega arith) (omega arith))
    (λ i. ap (λ (n : ℕ). get_or s n 4) (let z : x ≡ m = omega arith in z) ∙ last ∙ ap (λ (n : ℕ). get_or s' n 4) (let z : m' ≡ y = omega arith in z))
    (lt_or_le x m)

-- ---- One strand is the reverse complement of the other, n letters each.
pub record Turned (n : ℕ) (s s' : List ℕ) : Type 0 where
  pub at : (x y : ℕ) → x + y + 1 ≡ n → get_or s' y 4 ≡ complement (get_or s x 4)

pub is_turned : (s : List ℕ) → Turned (length s) s (reverse_complement s)
is_turned s =
    record {
      at = λ x y e.
          reverse_complement_at s y (omega arith)
          ∙ ap complement (default_free s (length s - 1 - y) 0 4 (omega arith) ∙ ap (λ (n : ℕ). get_or s n 4) (let z : length s - 1 - y ≡ x = omega arith in z));
    }

pub turned_back : (n : ℕ) (s s' : List ℕ) → Turned n s s' → Turned n s' s
turned_back n s s' T = record { at = λ x y e. sym (ap complement (T.at y x (omega arith)) ∙ complement_twice (get_or s y 4)) }

complement_small : (c : ℕ) → c < 4 → complement c < 4
unfolding complement
complement_small c h = subst (λ (t : Bool). cond t (3 - c) c < 4) (sym (lt-ltb c 4 h)) (omega arith)

place_plain : (k : ℕ) (s : List ℕ) (p : ℕ) → all_plain s (suc p) k ≡ true → place_at k s p ≡ plain (packed s (suc p) k)
unfolding place_at
place_plain k s p e = ap (λ (t : Bool). cond t (plain (packed s (suc p) k)) ambiguous) e

place_other : (k : ℕ) (s : List ℕ) (p : ℕ) → all_plain s (suc p) k ≡ false → place_at k s p ≡ ambiguous
unfolding place_at
place_other k s p e = ap (λ (t : Bool). cond t (plain (packed s (suc p) k)) ambiguous) e

-- A place with fewer letters up to it.
pub place_long : (k : ℕ) (s : List ℕ) (p : ℕ) → p + 1 < k → place_at k s p ≡ ambiguous
place_long k s p h = by (all_plain s (suc p) k) refl
  where
    by : (t : Bool) → all_plain s (suc p) k ≡ t → place_at k s p ≡ ambiguous
    by true e = absurd (let l = (run_of s (suc p) k e).long in let z : ⊥ = omega arith in z)
    by false e = place_other k s p e

-- Place p of one mirrors place q of the other.
pub record Pair (n k p q : ℕ) : Type 0 where
  pub sum : p + q + 2 ≡ n + k
  pub left : p < n
  pub right : q < n

pair_back : (n k p q : ℕ) → Pair n k p q → Pair n k q p
pair_back n k p q P = record { sum = omega (arith, P.sum); left = P.right; right = P.left }

module _ (n k : ℕ) (s s' : List ℕ) (T : Turned n s s') where
  run_turned : (p q : ℕ) → Pair n k p q → Run s (suc p) k → Run s' (suc q) k
  run_turned p q P r =
      let e = P.sum in
      let l = P.left in
      let m = P.right in
      record {
        long = omega arith;
        small = λ y h i.
            let x : ℕ = n - 1 - y in
            subst (λ (c : ℕ). c < 4) (sym (T.at x y (omega arith))) (complement_small (get_or s x 4) (r.small x (omega arith) (omega arith)));
      }

  packed_turned : (p q b c : ℕ) → Pair n k p q → Pair n k b c → Run s (suc p) k → Run s (suc b) k → packed s (suc p) k ≡ packed s (suc b) k → packed s' (suc q) k ≡ packed s' (suc c) k
  packed_turned p q b c P B r t e =
      let ps = P.sum in
      let bs = B.sum in
      let pl = P.left in
      let bl = B.left in
      let pr = P.right in
      let br = B.right in
      packed_same s' s' (suc q) (suc c) k (omega arith) (omega arith)
      (λ y z h i d.
      let x : ℕ = n - 1 - y in
      let w : ℕ = n - 1 - z in
      T.at x y (omega arith)
      ∙ ap complement (packed_alike s s (suc p) (suc b) k r t e x w (omega arith) (omega arith) (omega arith))
      ∙ sym (T.at w z (omega arith)))

plain_turned : (n k : ℕ) (s s' : List ℕ) → Turned n s s' → (p q : ℕ) → Pair n k p q → all_plain s (suc p) k ≡ true → all_plain s' (suc q) k ≡ true
plain_turned n k s s' T p q P e = of_run s' (suc q) k (run_turned n k s s' T p q P (run_of s (suc p) k e))

eqb_same : (x y x' y' : ℕ) → (x ≡ y → x' ≡ y') → (x' ≡ y' → x ≡ y) → eqb x y ≡ eqb x' y'
eqb_same x y x' y' f g = same_test (eqb x y) (eqb x' y') (λ h. eq-eqb x' y' (f (eqb-true x y h))) (λ h. eq-eqb x y (g (eqb-true x' y' h)))

module _ (n k : ℕ) (s s' : List ℕ) (T : Turned n s s') where
  U : Turned n s' s
  U = turned_back n s s' T

  plain_alike : (p q : ℕ) → Pair n k p q → all_plain s (suc p) k ≡ all_plain s' (suc q) k
  plain_alike p q P = same_test (all_plain s (suc p) k) (all_plain s' (suc q) k) (plain_turned n k s s' T p q P) (plain_turned n k s' s U q p (pair_back n k p q P))

  -- The k-mer of a plain place p stands at place b exactly when its mirror's does at b's mirror.
  hit_turned : (p q b c : ℕ) → Pair n k p q → Pair n k b c → all_plain s (suc p) k ≡ true → hit (packed s (suc p) k) (place_at k s b) ≡ hit (packed s' (suc q) k) (place_at k s' c)
  hit_turned p q b c P B e = by (all_plain s (suc b) k) refl
    where
      by : (t : Bool) → all_plain s (suc b) k ≡ t → hit (packed s (suc p) k) (place_at k s b) ≡ hit (packed s' (suc q) k) (place_at k s' c)
      by false d = ap (hit (packed s (suc p) k)) (place_other k s b d) ∙ sym (ap (hit (packed s' (suc q) k)) (place_other k s' c (sym (plain_alike b c B) ∙ d)))
      by true d =
          let d' : all_plain s' (suc c) k ≡ true = plain_turned n k s s' T b c B d in
          let e' : all_plain s' (suc q) k ≡ true = plain_turned n k s s' T p q P e in
          ap (hit (packed s (suc p) k)) (place_plain k s b d)
          ∙ ap (λ (t : Bool). cond t 1 0)
          (eqb_same (packed s (suc p) k) (packed s (suc b) k) (packed s' (suc q) k) (packed s' (suc c) k)
          (packed_turned n k s s' T p q b c P B (run_of s (suc p) k e) (run_of s (suc b) k d))
          (packed_turned n k s' s U q p c b (pair_back n k p q P) (pair_back n k b c B) (run_of s' (suc q) k e') (run_of s' (suc c) k d')))
          ∙ sym (ap (hit (packed s' (suc q) k)) (place_plain k s' c d'))

-- ---- Stretches: l places from a on, k - 1 letters or more before them; those of the other strand from b on mirror them.
pub from_snoc : (k : ℕ) (s : List ℕ) (a l : ℕ) → places_from k s a (suc l) ≡ places_from k s a l ++ (place_at k s (a + l) ∷ [])
unfolding places_from
from_snoc k s a zero = ap (λ (n : ℕ). place_at k s n ∷ []) (let z : a ≡ a + 0 = omega arith in z)
from_snoc k s a (suc l) =
    ap (λ (q : List Place). place_at k s a ∷ q) (from_snoc k s (suc a) l)
    ∙ ap (λ (n : ℕ). place_at k s a ∷ (places_from k s (suc a) l ++ (place_at k s n ∷ []))) (let z : suc a + l ≡ a + suc l = omega arith in z)

pub from_length : (k : ℕ) (s : List ℕ) (a l : ℕ) → length (places_from k s a l) ≡ l
unfolding places_from
from_length k s a zero = refl
from_length k s a (suc l) = omega (arith, from_length k s (suc a) l)

pub from_below : (k : ℕ) (s : List ℕ) (a l : ℕ) → Below (4 ^ k) (places_from k s a l)
unfolding places_from
from_below k s a zero = tt
from_below k s a (suc l) = (place_below k s a, from_below k s (suc a) l)

pub stretch_from : (k : ℕ) (s : List ℕ) (a l : ℕ) → a + l ≤ length s → stretch (places k s) a l ≡ places_from k s a l
unfolding places_from
stretch_from k s a zero h = refl
stretch_from k s a (suc l) h =
    ap (take (suc l)) (places_drop k s a (omega arith))
    ∙ ap (λ (q : List Place). place_at k s a ∷ q) (ap (λ (n : ℕ). take l (drop n (places k s))) (let z : a + 1 ≡ suc a = omega arith in z) ∙ stretch_from k s (suc a) l (omega arith))

module _ (n k : ℕ) (s s' : List ℕ) (T : Turned n s s') where
  count_turned : (p q : ℕ) → Pair n k p q → all_plain s (suc p) k ≡ true → (a l b : ℕ) → b + a + l + 1 ≡ n + k → a + l ≤ n → k ≤ a + 1
      → count (packed s (suc p) k) (places_from k s a l) ≡ count (packed s' (suc q) k) (places_from k s' b l)
  unfolding places_from
  count_turned p q P e a zero b h i j = refl
  count_turned p q P e a (suc l) b h i j =
      ap₂ (λ (x y : ℕ). x + y)
      (hit_turned n k s s' T p q a (b + l) P (record { sum = omega arith; left = omega arith; right = omega arith }) e)
      (count_turned p q P e (suc a) l b (omega arith) (omega arith) (omega arith))
      ∙ sym (ap (count (packed s' (suc q) k)) (from_snoc k s' b l) ∙ count_snoc (packed s' (suc q) k) (places_from k s' b l) (place_at k s' (b + l)))

  module _ (ln : List ℕ) where
    worth_turned : (p q : ℕ) → Pair n k p q → (a l b : ℕ) → b + a + l + 1 ≡ n + k → a + l ≤ n → k ≤ a + 1
        → worth ln (places_from k s a l) (place_at k s p) ≡ worth ln (places_from k s' b l) (place_at k s' q)
    worth_turned p q P a l b h i j = by (all_plain s (suc p) k) refl
      where
        by : (t : Bool) → all_plain s (suc p) k ≡ t → worth ln (places_from k s a l) (place_at k s p) ≡ worth ln (places_from k s' b l) (place_at k s' q)
        by false d = ap (worth ln (places_from k s a l)) (place_other k s p d) ∙ sym (ap (worth ln (places_from k s' b l)) (place_other k s' q (sym (plain_alike n k s s' T p q P) ∙ d)))
        by true d =
            ap (worth ln (places_from k s a l)) (place_plain k s p d)
            ∙ ap (λ (c : ℕ). get_or ln (suc c) 0) (count_turned p q P d a l b h i j)
            ∙ sym (ap (worth ln (places_from k s' b l)) (place_plain k s' q (plain_turned n k s s' T p q P d)))

    pub gain_turned : (a l b : ℕ) → b + a + l + 1 ≡ n + k → a + l ≤ n → k ≤ a + 1 → gain ln (places_from k s a l) ≡ gain ln (places_from k s' b l)
    unfolding places_from
    gain_turned a zero b h i j = refl
    gain_turned a (suc l) b h i j =
        let P : Pair n k a (b + l) = record { sum = omega arith; left = omega arith; right = omega arith } in
        let w = worth_turned a (b + l) P (suc a) l b (omega arith) (omega arith) (omega arith) in
        let g = gain_turned (suc a) l b (omega arith) (omega arith) (omega arith) in
        let z : worth ln (places_from k s (suc a) l) (place_at k s a) + gain ln (places_from k s (suc a) l) ≡ gain ln (places_from k s' b l) + worth ln (places_from k s' b l) (place_at k s' (b + l)) = omega arith in
        z
        ∙ sym (ap (gain ln) (from_snoc k s' b l) ∙ gain_snoc ln (4 ^ k) (places_from k s' b l) (place_at k s' (b + l)) (from_below k s' b l) (place_below k s' (b + l)))

-- Letters that have got a value.
use Rattle.std.proofs.Common.{◌≡◌, ℕ, zero, suc, ◌+◌, ◌-◌, ◌<◌, ◌≤◌, min, max, Bool, true, false, cond, not, ◌&&◌, ◌||◌, List, [], ◌∷◌, ◌++◌, take, set, replicate, length, get_or, nat_lt, nat_le, leb, ltb, refl, sym, ap, ap₂, ◌∙◌, ◌≢◌, ◌==◌, arith, length-set, get_or-set_same, ltb-true, ltb-false}
use Rattle.std.proofs.lemmas.Bool.Decides.{nat_tests}
use Rattle.std.proofs.lemmas.List.{get_or-set_other, get_or-replicate, get_or_past, length-replicate}
use Rattle.std.proofs.Math.Seq.{take-suc}
use Rattle.intervals.specs.declared.Interval.{Interval}
use Rattle.intervals.specs.Interval.{interval, covered}
use Rattle.letters.specs.Code.{code}
use Rattle.free.specs.Free.{is_base, near, is_free}
use Rattle.free.specs.Terms.Letters.{at, set_where, between}

by_test : {G : Type 0} (b : Bool) → (b ≡ true → G) → (b ≡ false → G) → G
by_test true f g = f refl
by_test false f g = g refl

-- From `old` on, those that pass have got the value.
pub record Set (passes : ℕ → Bool) (value : Bool) (old new : List Bool) : Type 0 where
  pub same : length new ≡ length old
  pub values : (x : ℕ) → x < length old → at new x ≡ set_where passes value old x

pub between_all : (from to i x : ℕ) → from ≤ i → i ≤ max from to → to ≤ i → between from i x ≡ between from to x
between_all from to i x a b c = grind (arith, nat_tests)

-- ---- Near.
-- Letter x lies in the interval, or at most `pad` letters beside it.
abbrev hit : ℕ → Interval → ℕ → Bool
hit pad i x = leb i.start (x + pad) && ltb x (i.end + pad)

or_last : (a b c : Bool) → (a || (b || c)) ≡ ((a || b) || c)
or_last true b c = refl
or_last false b c = refl

or_nothing : (a : Bool) → (a || false) ≡ a
or_nothing true = refl
or_nothing false = refl

near_last : (pad x : ℕ) (i : Interval) (is : List Interval) → near pad (is ++ (i ∷ [])) x ≡ (near pad is x || hit pad i x)
unfolding near
near_last pad x i [] = or_nothing (hit pad i x)
near_last pad x i (j ∷ is) = ap (λ (b : Bool). hit pad j x || b) (near_last pad x i is) ∙ or_last (hit pad j x) (near pad is x) (hit pad i x)

near_none : (pad x : ℕ) → near pad [] x ≡ false
unfolding near
near_none pad x = refl

hit_is : (pad n x : ℕ) (i : Interval) → x < n → between (i.start - pad) (min (i.end + pad) n) x ≡ hit pad i x
hit_is pad n x i h = grind (arith, nat_tests)

both : (near hit value old : Bool) → cond hit value (cond near value old) ≡ cond (near || hit) value old
both true true value old = refl
both true false value old = refl
both false true value old = refl
both false false value old = refl

pub set_none : (pad : ℕ) (value : Bool) (map : List Bool) → Set (near pad []) value map map
set_none pad value map = record { same = refl; values = λ x h. ap (λ (b : Bool). cond b value (at map x)) (sym (near_none pad x)) }

pub set_more : (pad from to k : ℕ) (value : Bool) (is : List Interval) (i d : Interval) (old map new : List Bool) → k < length is → i ≡ get_or is k d
    → from ≡ i.start - pad → to ≡ min (i.end + pad) (length map) → Set (near pad (take k is)) value old map
    → length new ≡ length map → ((x : ℕ) → x < length map → at new x ≡ set_where (between from to) value map x)
    → Set (near pad (take (k + 1) is)) value old new
set_more pad from to k value is i d old map new h g e e' S l v =
    record {
      same = l ∙ S.same;
      values = λ x m.
          let m' : x < length map = omega (arith, S.same) in
          v x m'
          ∙ ap (λ (b : Bool). cond b value (at map x)) (rw (e, e') (hit_is pad (length map) x i m'))
          ∙ ap (λ (b : Bool). cond (hit pad i x) value b) (S.values x m)
          ∙ both (near pad (take k is) x) (hit pad i x) value (at old x)
          ∙ ap (λ (b : Bool). cond b value (at old x)) (sym (near_last pad x i (take k is)) ∙ ap (λ (js : List Interval). near pad js x) (sym (front k h g)));
    }
  where
    front : (k : ℕ) → k < length is → i ≡ get_or is k d → take (k + 1) is ≡ take k is ++ (i ∷ [])
    front k h g = ap (λ (j : ℕ). take j is) (let z : k + 1 ≡ suc k = omega arith in z) ∙ take-suc is k d h ∙ ap (λ (j : Interval). take k is ++ (j ∷ [])) (sym g)

pub near_covers : (x : ℕ) (is : List Interval) → near 0 is x ≡ covered is x
unfolding near covered
near_covers x [] = refl
near_covers x (i ∷ is) =
    ap (λ (b : Bool). hit 0 i x || b) (near_covers x is)
    ∙ ap (λ (b : Bool). b || covered is x) (let z : hit 0 i x ≡ (leb i.start x && ltb x i.end) = grind (arith, nat_tests) in z)

-- ---- Others.
-- One of the first n letters, and no base.
abbrev pub other_before : List ℕ → ℕ → ℕ → Bool
other_before s n x = nat_lt x n && not (is_base (get_or s x 0))

lt_none : (x : ℕ) → nat_lt x 0 ≡ false
lt_none x = grind (arith, nat_tests)

pub others_none : (s : List ℕ) (map : List Bool) → Set (other_before s 0) false map map
others_none s map = record { same = refl; values = λ x h. ap (λ (b : Bool). cond (b && not (is_base (get_or s x 0))) false (at map x)) (sym (lt_none x)) }

lt_more : (x i : ℕ) → x ≢ i → nat_lt x (i + 1) ≡ nat_lt x i
lt_more x i h = grind (arith, nat_tests)

lt_next : (i : ℕ) → nat_lt i (i + 1) ≡ true
lt_next i = grind (arith, nat_tests)

base_or_not : (c : ℕ) (b : Bool) → leb 4 c ≡ b → nat_lt c 4 ≡ not b
base_or_not c true h = grind (arith, nat_tests)
base_or_not c false h = grind (arith, nat_tests)

module _ (s : List ℕ) (i : ℕ) (old map : List Bool) (h : i < length old) (S : Set (other_before s i) false old map) where
  other_at : (x : ℕ) → x ≢ i → set_where (other_before s i) false old x ≡ set_where (other_before s (i + 1)) false old x
  other_at x e = ap (λ (b : Bool). cond (b && not (is_base (get_or s x 0))) false (at old x)) (sym (lt_more x i e))

  here_is : (b : Bool) → is_base (get_or s i 0) ≡ b → set_where (other_before s (i + 1)) false old i ≡ cond (not b) false (at old i)
  here_is b e = ap₂ (λ (a c : Bool). cond (a && not c) false (at old i)) (lt_next i) e

  before_is : set_where (other_before s i) false old i ≡ at old i
  before_is = ap (λ (b : Bool). cond (b && not (is_base (get_or s i 0))) false (at old i)) (let z : nat_lt i i ≡ false = grind (arith, nat_tests) in z)

  -- Letter i is no base.
  pub others_more : leb 4 (code (get_or s i 0)) ≡ true → Set (other_before s (i + 1)) false old (set map i false)
  others_more e =
      record {
        same = length-set map i false ∙ S.same;
        values = λ x l. by_test (x == i)
            (λ t. let q : x ≡ i = grind (arith, nat_tests) in
            rw q (get_or-set_same map i false false (omega (arith, S.same)) ∙ sym (here_is false (base_or_not (code (get_or s i 0)) true e))))
            (λ t. let q : x ≢ i = grind (arith, nat_tests) in get_or-set_other map i x false false q ∙ S.values x l ∙ other_at x q);
      }

  -- Letter i is one.
  pub others_same : leb 4 (code (get_or s i 0)) ≡ false → Set (other_before s (i + 1)) false old map
  others_same e =
      record {
        same = S.same;
        values = λ x l. by_test (x == i)
            (λ t. let q : x ≡ i = grind (arith, nat_tests) in
            rw q (S.values i h ∙ before_is ∙ sym (here_is true (base_or_not (code (get_or s i 0)) false e))))
            (λ t. let q : x ≢ i = grind (arith, nat_tests) in S.values x l ∙ other_at x q);
      }

others_end : (n : ℕ) (s : List ℕ) (old : List Bool) (x : ℕ) → x < n → set_where (other_before s n) false old x ≡ (is_base (get_or s x 0) && at old x)
others_end n s old x h =
    ap (λ (b : Bool). cond (b && not (is_base (get_or s x 0))) false (at old x)) (let z : nat_lt x n ≡ true = grind (arith, nat_tests) in z)
    ∙ both_ways (is_base (get_or s x 0)) (at old x)
  where
    both_ways : (b c : Bool) → cond (not b) false c ≡ (b && c)
    both_ways true c = refl
    both_ways false c = refl

pub others_all : (s : List ℕ) (i : ℕ) (old map : List Bool) → length old ≡ i → Set (other_before s i) false old map
    → (x : ℕ) → x < length old → at map x ≡ (is_base (get_or s x 0) && at old x)
others_all s i old map e S x h = S.values x h ∙ others_end i s old x (omega arith)

-- ---- All.
lawful : (inside base close : Bool) → (base && cond close false (cond inside true false)) ≡ (inside && (base && not close))
lawful true true true = refl
lawful true true false = refl
lawful true false true = refl
lawful true false false = refl
lawful false true true = refl
lawful false true false = refl
lawful false false true = refl
lawful false false false = refl

-- From no letter on: those inside, without those near the mask, without those that are no bases.
pub free_at : (pad : ℕ) (regions mask : List Interval) (s : List ℕ) (none first second third : List Bool) (n : ℕ)
    → ((x : ℕ) → x < n → at none x ≡ false) → ((x : ℕ) → x < n → at first x ≡ set_where (near 0 regions) true none x)
    → ((x : ℕ) → x < n → at second x ≡ set_where (near pad mask) false first x)
    → ((x : ℕ) → x < n → at third x ≡ (is_base (get_or s x 0) && at second x))
    → (x : ℕ) → x < n → at third x ≡ is_free pad regions mask s x
free_at pad regions mask s none first second third n a b c d x h =
    d x h
    ∙ ap (λ (v : Bool). is_base (get_or s x 0) && v) (c x h)
    ∙ ap (λ (v : Bool). is_base (get_or s x 0) && cond (near pad mask x) false v)
    (b x h ∙ ap₂ (λ (u v : Bool). cond u true v) (near_covers x regions) (a x h))
    ∙ lawful (covered regions x) (is_base (get_or s x 0)) (near pad mask x)

no_letter : (n : ℕ) → take {A = Bool} n [] ≡ []
no_letter zero = refl
no_letter (suc n) = refl

all_no : (m x : ℕ) → get_or (replicate m false) x false ≡ false
all_no m x =
    by_test (ltb x m) (λ t. get_or-replicate m x false false (ltb-true x m t))
    (λ t. get_or_past (replicate m false) x false (omega (arith, ltb-false x m t, length-replicate m false)))

pub cleared : (n m x : ℕ) (before none : List Bool) → before ≡ [] → none ≡ take n before ++ replicate m false → at none x ≡ false
cleared n m x before none e q = rw (q, e, no_letter n) (all_no m x)

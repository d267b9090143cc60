-- The marked merge without its marks is the merge; what its marks say; that two marked lists which say the same are equal; a forward list alone; and the mirror.
use Rattle.std.proofs.Common.{ℕ, suc, ◌+◌, ◌≤◌, ◌<◌, ◌≡◌, refl, sym, ap, ap₂, ◌∙◌, subst, Bool, true, false, ◌||◌, List, [], ◌∷◌, ◌++◌, map, ◌⊎◌, inl, inr, ⊎_elim, ◌↔◌, arith, T, length}
use mathlib.Core.List.{map-append}
use Rattle.intervals.specs.declared.Marked.{Marked}
use Rattle.intervals.specs.declared.Interval.{Interval}
use Rattle.intervals.specs.Interval.{interval, Holds, Covers, Canonical, Ascending}
use Rattle.intervals.specs.Terms.Bounds.{Inside}
use Rattle.intervals.specs.Merge.{insert, interleave, nonempty, join, merge, flip, backwards}
use Rattle.intervals.specs.Merge.{marked, from_forward, from_reverse, insert_marked, interleave_marked, nonempty_marked, grown, join_marked, merge_marked, range, ranges, flip_marked, backwards_marked}
use Rattle.intervals.specs.Marks.{Some, Every, LiesIn, Shares, Told, ToldLetters}
use Rattle.intervals.proofs.Order.{lt_or_le}
use Rattle.intervals.proofs.Joining.{insert_here, insert_later, nonempty_some, nonempty_none, join_touch, join_gap}
use Rattle.intervals.proofs.Joining.{marked_here, marked_later, marked_some, marked_none, marked_touch, marked_gap}
use Rattle.intervals.proofs.Shape.{Rising, rising_lower, both_rising, merge_canonical, ascending_inside}
use Rattle.intervals.proofs.Covered.{first_apart, merge_covers}
use Rattle.intervals.proofs.Backward.{backwards_canonical}
use Rattle.intervals.proofs.Theorems.{merge_mirror, merge_alone}

-- ---- Without marks.
insert_ranges : (m : Marked) (others' : List Marked → List Marked) (others : List Interval → List Interval)
    → ((ps : List Marked) → ranges (others' ps) ≡ others (ranges ps)) → (ps : List Marked) → ranges (insert_marked m others' ps) ≡ insert (range m) others (ranges ps)
unfolding insert insert_marked
insert_ranges m others' others h [] = ap (λ (is : List Interval). range m ∷ is) (h [])
insert_ranges m others' others h (p ∷ ps) =
    ⊎_elim
    (λ lt. rw (marked_here m others' p ps lt, insert_here (range m) others (range p) (ranges ps) lt) (ap (λ (is : List Interval). range m ∷ is) (h (p ∷ ps))))
    (λ ge. rw (marked_later m others' p ps ge, insert_later (range m) others (range p) (ranges ps) ge) (ap (λ (is : List Interval). range p ∷ is) (insert_ranges m others' others h ps)))
    (lt_or_le m.start p.start)

interleave_ranges : (ms ps : List Marked) → ranges (interleave_marked ms ps) ≡ interleave (ranges ms) (ranges ps)
unfolding interleave interleave_marked
interleave_ranges [] ps = refl
interleave_ranges (m ∷ ms) ps = insert_ranges m (interleave_marked ms) (interleave (ranges ms)) (interleave_ranges ms) ps

nonempty_ranges : (m : Marked) → ranges (nonempty_marked m) ≡ nonempty m.start m.end
nonempty_ranges m =
    ⊎_elim (λ lt. rw (marked_some m lt, nonempty_some m.start m.end lt)) (λ ge. rw (marked_none m ge, nonempty_none m.start m.end ge)) (lt_or_le m.start m.end)

join_ranges : (m : Marked) (ps : List Marked) → ranges (join_marked m ps) ≡ join m.start m.end (ranges ps)
unfolding join join_marked
join_ranges m [] = nonempty_ranges m
join_ranges m (p ∷ ps) =
    ⊎_elim
    (λ gt. rw (marked_gap m p ps gt, join_gap m.start m.end (range p) (ranges ps) gt)
    (map-append range (nonempty_marked m) (join_marked p ps) ∙ ap₂ (λ (is js : List Interval). is ++ js) (nonempty_ranges m) (join_ranges p ps)))
    (λ le. rw (marked_touch m p ps le, join_touch m.start m.end (range p) (ranges ps) le) (join_ranges (grown m p) ps))
    (lt_or_le m.end p.start)

pub forward_ranges : (is : List Interval) → ranges (map from_forward is) ≡ is
forward_ranges [] = refl
forward_ranges (i ∷ is) = ap (λ (js : List Interval). i ∷ js) (forward_ranges is)

reverse_ranges : (is : List Interval) → ranges (map from_reverse is) ≡ is
reverse_ranges [] = refl
reverse_ranges (i ∷ is) = ap (λ (js : List Interval). i ∷ js) (reverse_ranges is)

-- Both lists' intervals by their starts.
abbrev parts : List Interval → List Interval → List Marked
parts is js = interleave_marked (map from_forward is) (map from_reverse js)

parts_ranges : (is js : List Interval) → ranges (parts is js) ≡ interleave is js
parts_ranges is js =
    interleave_ranges (map from_forward is) (map from_reverse js) ∙ ap₂ (λ (fs rs : List Interval). interleave fs rs) (forward_ranges is) (reverse_ranges js)

pub merged_ranges : (is js : List Interval) → ranges (merge_marked is js) ≡ merge is js
unfolding merge merge_marked
merged_ranges is js = join_ranges (marked (interval 0 0) false false) (parts is js) ∙ ap (λ (z : List Interval). join 0 0 z) (parts_ranges is js)

-- ---- Some and every.
some_map : {P Q : Interval → Type 0} → ((i : Interval) → P i → Q i) → (is : List Interval) → Some P is → Some Q is
some_map f [] h = h
some_map f (i ∷ is) h = ⊎_elim (λ c. inl (f i c)) (λ c. inr (some_map f is c)) h

pub every_map : {P Q : Marked → Type 0} → ((m : Marked) → P m → Q m) → (ms : List Marked) → Every P ms → Every Q ms
every_map f [] h = tt
every_map f (m ∷ ms) h = (f m h.0, every_map f ms h.1)

every_both : (P Q : Marked → Type 0) (ms : List Marked) → Every P ms → Every Q ms → Every (λ m. P m × Q m) ms
every_both P Q [] h g = tt
every_both P Q (m ∷ ms) h g = ((h.0, g.0), every_both P Q ms h.1 g.1)

or_split : (a b : Bool) → T (a || b) → T a ⊎ T b
or_split true b t = inl t
or_split false b t = inr t

or_left : (a b : Bool) → T a → T (a || b)
or_left true b t = t
or_left false b t = absurd t

or_right : (a b : Bool) → T b → T (a || b)
or_right true b t = tt
or_right false b t = t

-- ---- What one of the two marks says: `bit` is either.
module _ (bit : Marked → Bool) where
  -- A part with the mark has the property.
  abbrev AnyBy : (Interval → Type 0) → List Marked → Type 0
  AnyBy P [] = ⊥
  AnyBy P (p ∷ ps) = (T (bit p) × P (range p)) ⊎ AnyBy P ps

  record Tells (ps : List Marked) (r : Marked) : Type 0 where
    set : T (bit r) → AnyBy (LiesIn (range r)) ps
    met : AnyBy (Shares (range r)) ps → T (bit r)

  module _ (P : Interval → Type 0) where
    any_insert : (m : Marked) (others : List Marked → List Marked) (ms : List Marked)
        → ((ps : List Marked) → AnyBy P (others ps) ↔ (AnyBy P ms ⊎ AnyBy P ps))
        → (ps : List Marked) → AnyBy P (insert_marked m others ps) ↔ (AnyBy P (m ∷ ms) ⊎ AnyBy P ps)
    unfolding insert_marked
    any_insert m others ms hf [] = first_apart (hf [])
    any_insert m others ms hf (p ∷ ps) =
        ⊎_elim
        (λ lt. rw (marked_here m others p ps lt) (first_apart (hf (p ∷ ps))))
        (λ ge. rw (marked_later m others p ps ge)
        (let ih = any_insert m others ms hf ps in (
          (λ h. ⊎_elim (λ c. inr (inl c)) (λ c. ⊎_elim (λ d. inl d) (λ d. inr (inr d)) (ih.0 c)) h),
          (λ h. ⊎_elim (λ c. inr (ih.1 (inl c))) (λ c. ⊎_elim (λ d. inl d) (λ d. inr (ih.1 (inr d))) c) h),
        )))
        (lt_or_le m.start p.start)

    any_interleave : (ms ps : List Marked) → AnyBy P (interleave_marked ms ps) ↔ (AnyBy P ms ⊎ AnyBy P ps)
    unfolding interleave_marked
    any_interleave [] ps = ((λ h. inr h), (λ h. ⊎_elim (λ c. absurd c) (λ c. c) h))
    any_interleave (m ∷ ms) ps = any_insert m (interleave_marked ms) ms (any_interleave ms) ps

    -- Parts that all have the mark, and parts that all have not.
    any_with : (f : Interval → Marked) → ((i : Interval) → T (bit (f i))) → ((i : Interval) → range (f i) ≡ i) → (is : List Interval) → AnyBy P (map f is) ↔ Some P is
    any_with f h q [] = ((λ x. x), (λ x. x))
    any_with f h q (i ∷ is) =
        let ih = any_with f h q is in (
          (λ x. ⊎_elim (λ c. inl (subst (λ (j : Interval). P j) (q i) c.1)) (λ c. inr (ih.0 c)) x),
          (λ x. ⊎_elim (λ c. inl (h i, subst (λ (j : Interval). P j) (sym (q i)) c)) (λ c. inr (ih.1 c)) x),
        )

    any_without : (f : Interval → Marked) → ((i : Interval) → T (bit (f i)) → ⊥) → (is : List Interval) → AnyBy P (map f is) → ⊥
    any_without f h [] x = x
    any_without f h (i ∷ is) x = ⊎_elim (λ c. h i c.0) (λ c. any_without f h is c) x

  module _ (grows : (m p : Marked) → bit (grown m p) ≡ bit m || bit p) (n k : ℕ) (some : 0 < k) where
    tells_touch : (m p : Marked) (ps : List Marked) (r : Marked) → m.start ≤ p.start → p.start < p.end → m.start < m.end ⊎ (T (bit m) → ⊥)
        → Tells (grown m p ∷ ps) r → Tells (m ∷ p ∷ ps) r
    tells_touch m p ps r l e full h =
        record {
          set = λ t.
              ⊎_elim
              (λ c.
              ⊎_elim (λ a. inl (a, ⊎_elim (λ (f : m.start < m.end). (omega (arith, c.1), f, omega (arith, c.1))) (λ unset. absurd (unset a)) full))
              (λ b. inr (inl (b, (omega (arith, c.1), e, omega (arith, c.1)))))
              (or_split (bit m) (bit p) (subst (λ (z : Bool). T z) (grows m p) c.0)))
              (λ c. inr (inr c)) (h.set t);
          met = λ x.
              h.met
              (⊎_elim (λ c. inl (subst (λ (z : Bool). T z) (sym (grows m p)) (or_left (bit m) (bit p) c.0), omega (arith, c.1)))
              (λ d. ⊎_elim (λ c. inl (subst (λ (z : Bool). T z) (sym (grows m p)) (or_right (bit m) (bit p) c.0), omega (arith, c.1))) (λ c. inr c) d) x);
        }

    none_shares : (r : Interval) (lo : ℕ) (ps : List Marked) → r.end ≤ lo → Rising n k lo (ranges ps) → AnyBy (Shares r) ps → ⊥
    none_shares r lo [] l h x = x
    none_shares r lo (p ∷ ps) l h x =
        ⊎_elim (λ c. omega (arith, c.1, h.0)) (λ c. none_shares r p.start ps (omega (arith, h.0)) h.3 c) x

    join_from : (m : Marked) (ps : List Marked) → m.start < m.end → Rising n k m.start (ranges ps) → Every (λ r. m.start ≤ r.start) (join_marked m ps)
    unfolding join_marked
    join_from m [] l h = rw (marked_some m l) (omega arith, tt)
    join_from m (p ∷ ps) l h =
        ⊎_elim
        (λ gt. rw (marked_gap m p ps gt, marked_some m l)
        (omega arith, every_map (λ r a. omega (arith, h.0)) (join_marked p ps) (join_from p ps (omega (arith, h.1)) h.3)))
        (λ le. rw (marked_touch m p ps le)
        (join_from (grown m p) ps (omega arith) (rising_lower n k p.start m.start (ranges ps) h.0 h.3)))
        (lt_or_le m.end p.start)

    join_tells : (m : Marked) (ps : List Marked) → m.start < m.end → Rising n k m.start (ranges ps) → Every (Tells (m ∷ ps)) (join_marked m ps)
    unfolding join_marked
    join_tells m [] l h =
        rw (marked_some m l) (record { set = λ t. inl (t, (omega arith, l, omega arith)); met = λ x. ⊎_elim (λ c. c.0) (λ c. absurd c) x }, tt)
    join_tells m (p ∷ ps) l h =
        ⊎_elim
        (λ gt. rw (marked_gap m p ps gt, marked_some m l) (
          record {
            set = λ t. inl (t, (omega arith, l, omega arith));
            met = λ x. ⊎_elim (λ c. c.0) (λ c. absurd (none_shares (range m) p.start (p ∷ ps) (omega arith) (omega arith, h.1, h.2, h.3) c)) x;
          },
          every_map
              (λ r a.
              record { set = λ t. inr (a.0.set t); met = λ x. ⊎_elim (λ c. absurd (omega (arith, c.1, a.1))) (λ c. a.0.met c) x })
              (join_marked p ps)
              (every_both (Tells (p ∷ ps)) (λ r. p.start ≤ r.start) (join_marked p ps) (join_tells p ps (omega (arith, h.1)) h.3) (join_from p ps (omega (arith, h.1)) h.3)),
        ))
        (λ le. rw (marked_touch m p ps le)
        (every_map (λ r a. tells_touch m p ps r h.0 (omega (arith, h.1)) (inl l) a) (join_marked (grown m p) ps)
        (join_tells (grown m p) ps (omega arith) (rising_lower n k p.start m.start (ranges ps) h.0 h.3))))
        (lt_or_le m.end p.start)

    abbrev unmarked : Marked
    unmarked = marked (interval 0 0) false false

    merge_tells : (ps : List Marked) → (T (bit unmarked) → ⊥) → Rising n k 0 (ranges ps) → Every (Tells ps) (join_marked unmarked ps)
    unfolding join_marked
    merge_tells [] unset h = rw (marked_none unmarked (omega arith)) tt
    merge_tells (p ∷ ps) unset h =
        ⊎_elim
        (λ gt. rw (marked_gap unmarked p ps gt, marked_none unmarked (omega arith)) (join_tells p ps (omega (arith, h.1)) h.3))
        (λ le. rw (marked_touch unmarked p ps le)
        (every_map
        (λ r a.
        let b = tells_touch unmarked p ps r (omega arith) (omega (arith, h.1)) (inr unset) a in
        record { set = λ t. ⊎_elim (λ c. absurd (unset c.0)) (λ c. c) (b.set t); met = λ x. b.met (inr x) })
        (join_marked (grown unmarked p) ps)
        (join_tells (grown unmarked p) ps (omega (arith, h.1)) (rising_lower n k p.start 0 (ranges ps) (omega arith) h.3))))
        (lt_or_le 0 p.start)

-- ---- Both marks.
module _ (n k : ℕ) (is js : List Interval) (some : 0 < k) (a : Canonical n k is) (b : Canonical n k js) where
  rising : Rising n k 0 (ranges (parts is js))
  rising = subst (λ (z : List Interval). Rising n k 0 z) (sym (parts_ranges is js)) (both_rising n k is js a b)

  forward_any : (P : Interval → Type 0) → AnyBy (λ m. m.forward) P (parts is js) ↔ Some P is
  forward_any P =
      let i = any_interleave (λ m. m.forward) P (map from_forward is) (map from_reverse js) in
      let w = any_with (λ m. m.forward) P from_forward (λ i. tt) (λ i. refl) is in (
        (λ x. ⊎_elim (λ c. w.0 c) (λ c. absurd (any_without (λ m. m.forward) P from_reverse (λ i t. t) js c)) (i.0 x)),
        (λ x. i.1 (inl (w.1 x))),
      )

  reverse_any : (P : Interval → Type 0) → AnyBy (λ m. m.reverse) P (parts is js) ↔ Some P js
  reverse_any P =
      let i = any_interleave (λ m. m.reverse) P (map from_forward is) (map from_reverse js) in
      let w = any_with (λ m. m.reverse) P from_reverse (λ i. tt) (λ i. refl) js in (
        (λ x. ⊎_elim (λ c. absurd (any_without (λ m. m.reverse) P from_forward (λ i t. t) is c)) (λ c. w.0 c) (i.0 x)),
        (λ x. i.1 (inr (w.1 x))),
      )

  -- A mark of a merge is set exactly when an interval of its list lies in the joined one, and whenever one shares a letter with it.
  pub merge_told : Every (Told is js) (merge_marked is js)
  unfolding merge_marked
  merge_told =
      let all = join_marked (marked (interval 0 0) false false) (parts is js) in
      every_map
      (λ m h.
      record {
        forward = λ t. (forward_any (LiesIn (range m))).0 (h.0.set t);
        forward_met = λ x. h.0.met ((forward_any (Shares (range m))).1 x);
        reverse = λ t. (reverse_any (LiesIn (range m))).0 (h.1.set t);
        reverse_met = λ x. h.1.met ((reverse_any (Shares (range m))).1 x);
      })
      all
      (every_both (Tells (λ m. m.forward) (parts is js)) (Tells (λ m. m.reverse) (parts is js)) all (merge_tells (λ m. m.forward) (λ m p. refl) n k some (parts is js) (λ t. t) rising)
      (merge_tells (λ m. m.reverse) (λ m p. refl) n k some (parts is js) (λ t. t) rising))

-- An interval of a list that holds the letter x of r shares a letter with r.
covers_shares : (r : Interval) (x : ℕ) → Holds r x → (is : List Interval) → Covers is x → Some (Shares r) is
covers_shares r x h [] c = c
covers_shares r x h (i ∷ is) c = ⊎_elim (λ d. inl (omega (arith, h, d))) (λ d. inr (covers_shares r x h is d)) c

-- The letters of a marked interval are letters of the whole list.
letters_of_lem : (n k lo : ℕ) (ms : List Marked) (all : List Interval) → ((x : ℕ) → Covers (ranges ms) x → Covers all x) → 0 < k → Ascending n k lo (ranges ms)
    → Every (λ m. (m.start < m.end) × ((x : ℕ) → Holds (range m) x → Covers all x)) ms
letters_of_lem n k lo [] all f p a = tt
letters_of_lem n k lo (m ∷ ms) all f p a = ((omega (arith, a.1), (λ x h. f x (inl h))), letters_of_lem n k (m.end + 1) ms all (λ x c. f x (inr c)) p a.3)

pub merge_letters : (n k : ℕ) (is js : List Interval) → 0 < k → Canonical n k is → Canonical n k js → Every (ToldLetters is js) (merge_marked is js)
merge_letters n k is js p a b =
    let ms = merge_marked is js in
    let all = merge is js in
    let told = merge_told n k is js p a b in
    let mine = letters_of_lem n k 0 ms all (λ x c. subst (λ (z : List Interval). Covers z x) (merged_ranges is js) c) p
    (subst (λ (z : List Interval). Canonical n k z) (sym (merged_ranges is js)) (merge_canonical n k is js p a b)) in
    every_map
    (λ m h.
    let first = (merge_covers n k is js m.start a b).0 (h.1.1 m.start (omega arith, h.1.0)) in
    record {
      covered = λ x l. (merge_covers n k is js x a b).0 (h.1.1 x l);
      forward = λ x l c. h.0.forward_met (covers_shares (range m) x l is c);
      reverse = λ x l c. h.0.reverse_met (covers_shares (range m) x l js c);
      some = ⊎_elim (λ c. inl (h.0.forward_met (covers_shares (range m) m.start (omega arith, h.1.0) is c)))
          (λ c. inr (h.0.reverse_met (covers_shares (range m) m.start (omega arith, h.1.0) js c))) first;
    })
    ms (every_both (Told is js) (λ m. (m.start < m.end) × ((x : ℕ) → Holds (range m) x → Covers all x)) ms told mine)

-- ---- Marked lists with the same intervals whose marks say the same are equal.
lies_shares : (r i : Interval) → LiesIn r i → Shares r i
lies_shares r i h = omega (arith, h)

same_bit : (a b : Bool) → (T a → T b) → (T b → T a) → a ≡ b
same_bit true true f g = refl
same_bit true false f g = absurd (f tt)
same_bit false true f g = absurd (g tt)
same_bit false false f g = refl

abbrev headed : List Interval → Interval
headed [] = interval 0 0
headed (i ∷ is) = i

abbrev tailed : List Interval → List Interval
tailed [] = []
tailed (i ∷ is) = is

some_as : {r r' : Interval} → r ≡ r' → (is : List Interval) → Some (LiesIn r) is → Some (Shares r') is
some_as {r} {r'} e is h = subst (λ (z : Interval). Some (Shares z) is) e (some_map (λ i c. lies_shares r i c) is h)

pub told_unique : (is js : List Interval) (ms ms' : List Marked) → ranges ms ≡ ranges ms' → Every (Told is js) ms → Every (Told is js) ms' → ms ≡ ms'
told_unique is js [] [] e h g = refl
told_unique is js [] (m' ∷ ms') e h g = let l : 0 ≡ suc (length (ranges ms')) = ap (λ (z : List Interval). length z) e in absurd (omega (arith, l))
told_unique is js (m ∷ ms) [] e h g = let l : suc (length (ranges ms)) ≡ 0 = ap (λ (z : List Interval). length z) e in absurd (omega (arith, l))
told_unique is js (m ∷ ms) (m' ∷ ms') e h g =
    let q : range m ≡ range m' = ap headed e in
    let f : m.forward ≡ m'.forward =
    same_bit m.forward m'.forward (λ t. g.0.forward_met (some_as q is (h.0.forward t))) (λ t. h.0.forward_met (some_as (sym q) is (g.0.forward t))) in
    let r : m.reverse ≡ m'.reverse =
    same_bit m.reverse m'.reverse (λ t. g.0.reverse_met (some_as q js (h.0.reverse t))) (λ t. h.0.reverse_met (some_as (sym q) js (g.0.reverse t))) in
    let one : m ≡ m' = ap₂ (λ (i : Interval) (x : Bool). marked i x m.reverse) q f ∙ ap (λ (x : Bool). marked (range m') m'.forward x) r in
    ap₂ (λ (x : Marked) (xs : List Marked). x ∷ xs) one (told_unique is js ms ms' (ap tailed e) h.1 g.1)

-- ---- The forward list alone: each interval has the forward mark, and no other.
own_told : (n k lo : ℕ) (is all : List Interval) → ((P : Interval → Type 0) → Some P is → Some P all) → 0 < k → Ascending n k lo is → Every (Told all []) (map from_forward is)
own_told n k lo [] all f p a = tt
own_told n k lo (i ∷ is) all f p a = (
  record {
    forward = λ t. f (LiesIn i) (inl (omega arith, omega (arith, a.1), omega arith));
    forward_met = λ x. tt;
    reverse = λ t. absurd t;
    reverse_met = λ x. absurd x;
  },
  own_told n k (i.end + 1) is all (λ P x. f P (inr x)) p a.3,
)

pub marked_alone : (n k : ℕ) (is : List Interval) → 0 < k → Canonical n k is → merge_marked is [] ≡ map from_forward is
marked_alone n k is p a =
    told_unique is [] (merge_marked is []) (map from_forward is) (merged_ranges is [] ∙ merge_alone n k is p a ∙ sym (forward_ranges is))
    (merge_told n k is [] p a tt) (own_told n k 0 is is (λ P x. x) p a)

-- ---- Mirror.
some_append : (P : Interval → Type 0) (is js : List Interval) → Some P (is ++ js) ↔ (Some P is ⊎ Some P js)
some_append P [] js = ((λ h. inr h), (λ h. ⊎_elim (λ c. absurd c) (λ c. c) h))
some_append P (i ∷ is) js = first_apart (some_append P is js)

some_backwards : (P : Interval → Type 0) (n : ℕ) (is : List Interval) → Some P (backwards n is) ↔ Some (λ i. P (flip n i)) is
unfolding backwards
some_backwards P n [] = ((λ h. h), (λ h. h))
some_backwards P n (i ∷ is) =
    let ih = some_backwards P n is in
    let a = some_append P (backwards n is) (flip n i ∷ []) in (
      (λ h. ⊎_elim (λ c. inr (ih.0 c)) (λ c. ⊎_elim (λ d. inl d) (λ d. absurd d) c) (a.0 h)),
      (λ h. a.1 (⊎_elim (λ c. inr (inl c)) (λ c. inl (ih.1 c)) h)),
    )

some_inside : {P Q : Interval → Type 0} (n : ℕ) → ((i : Interval) → i.start ≤ n → i.end ≤ n → P i → Q i) → (is : List Interval) → Inside n is → Some P is → Some Q is
some_inside n f [] w h = h
some_inside n f (i ∷ is) w h = ⊎_elim (λ c. inl (f i w.0 w.1 c)) (λ c. inr (some_inside n f is w.2 c)) h

every_append : (P : Marked → Type 0) (ms ps : List Marked) → Every P ms → Every P ps → Every P (ms ++ ps)
every_append P [] ps h g = g
every_append P (m ∷ ms) ps h g = (h.0, every_append P ms ps h.1 g)

backwards_ranges : (n : ℕ) (ms : List Marked) → ranges (backwards_marked n ms) ≡ backwards n (ranges ms)
unfolding backwards backwards_marked
backwards_ranges n [] = refl
backwards_ranges n (m ∷ ms) =
    map-append range (backwards_marked n ms) (flip_marked n m ∷ []) ∙ ap (λ (is : List Interval). is ++ flip n (range m) ∷ []) (backwards_ranges n ms)

module _ (n : ℕ) (a b : List Interval) (ia : Inside n a) (ib : Inside n b) where
  told_flipped : (m : Marked) → m.start < m.end → m.end ≤ n → Told a (backwards n b) m → Told b (backwards n a) (flip_marked n m)
  told_flipped m full in_n h =
      let r = range m in
      let f = flip n r in
      record {
        forward = λ t. some_inside n (λ i s e c. omega (arith, c)) b ib ((some_backwards (LiesIn r) n b).0 (h.reverse t));
        forward_met = λ x. h.reverse_met ((some_backwards (Shares r) n b).1 (some_inside n (λ i s e c. omega (arith, c)) b ib x));
        reverse = λ t. (some_backwards (LiesIn f) n a).1 (some_inside n (λ i s e c. omega (arith, c)) a ia (h.forward t));
        reverse_met = λ x. h.forward_met (some_inside n (λ i s e c. omega (arith, c)) a ia ((some_backwards (Shares f) n a).0 x));
      }

  told_backwards : (k lo : ℕ) (ms : List Marked) → 0 < k → Ascending n k lo (ranges ms) → Every (Told a (backwards n b)) ms → Every (Told b (backwards n a)) (backwards_marked n ms)
  unfolding backwards_marked
  told_backwards k lo [] p w h = tt
  told_backwards k lo (m ∷ ms) p w h =
      every_append (Told b (backwards n a)) (backwards_marked n ms) (flip_marked n m ∷ []) (told_backwards k (m.end + 1) ms p w.3 h.1)
      (told_flipped m (omega (arith, w.1)) w.2 h.0, tt)

-- b merged with a read backwards is a merged with b read backwards, read backwards, with the marks exchanged.
pub marked_mirror : (n k : ℕ) (a b : List Interval) → 0 < k → Canonical n k a → Canonical n k b
    → merge_marked b (backwards n a) ≡ backwards_marked n (merge_marked a (backwards n b))
marked_mirror n k a b p ca cb =
    let cba = backwards_canonical n k a p ca in
    let cbb = backwards_canonical n k b p cb in
    let ms = merge_marked a (backwards n b) in
    told_unique b (backwards n a) (merge_marked b (backwards n a)) (backwards_marked n ms)
    (merged_ranges b (backwards n a)
    ∙ merge_mirror n k a b p ca cb
    ∙ ap (λ (is : List Interval). backwards n is) (sym (merged_ranges a (backwards n b)))
    ∙ sym (backwards_ranges n ms))
    (merge_told n k b (backwards n a) p cb cba)
    (told_backwards n a b (ascending_inside n k 0 a ca) (ascending_inside n k 0 b cb) k 0 ms p
    (subst (λ (z : List Interval). Canonical n k z) (sym (merged_ranges a (backwards n b))) (merge_canonical n k a (backwards n b) p ca cbb))
    (merge_told n k a (backwards n b) p ca cbb))

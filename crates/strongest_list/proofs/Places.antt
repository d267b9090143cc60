-- The letters of the entries, in order of place, are a list of the usual kind.
use Rattle.std.proofs.Common.{◌≡◌, ℕ, ◌+◌, ◌<◌, ◌≤◌, Bool, true, false, cond, ltb, ◌||◌, List, [], ◌∷◌, map, length, refl, sym, arith, ◌⊎◌, inl, inr, ⊎_elim, true≢false, ltb-true, ltb-false}
use Rattle.intervals.specs.declared.Interval.{Interval}
use Rattle.intervals.specs.Interval.{Ascending, Canonical}
use Rattle.strongest_list.specs.Stretches.{Asked, Stretch, letters, apart, strongest}
use Rattle.strongest_list.proofs.Laws.{Each, InOrder, each_as, Worthy, Parted, each_worthy, parted}

-- In order of their starts.
abbrev pub placed : Interval → List Interval → List Interval
placed i [] = i ∷ []
placed i (j ∷ js) = cond (ltb i.start j.start) (i ∷ j ∷ js) (j ∷ placed i js)

abbrev pub by_place : List Interval → List Interval
by_place [] = []
by_place (i ∷ is) = placed i (by_place is)

each_placed : (P : Interval → Type 0) (i : Interval) (js : List Interval) → P i → Each P js → Each P (placed i js)
each_placed P i [] p h = (p, tt)
each_placed P i (j ∷ js) p h = go (ltb i.start j.start) (each_placed P i js p h.1)
  where
    go : (b : Bool) → Each P (placed i js) → Each P (cond b (i ∷ j ∷ js) (j ∷ placed i js))
    go true r = (p, h)
    go false r = (h.0, r)

each_by_place : (P : Interval → Type 0) (is : List Interval) → Each P is → Each P (by_place is)
each_by_place P [] h = tt
each_by_place P (i ∷ is) h = each_placed P i (by_place is) h.0 (each_by_place P is h.1)

-- A letter or more between.
abbrev Apart : Interval → Interval → Type 0
Apart i j = (i.end < j.start) ⊎ (j.end < i.start)

placed_ascends : (n lo : ℕ) (i : Interval) (js : List Interval) → lo ≤ i.start → i.start + 1 ≤ i.end → i.end ≤ n → Each (Apart i) js → Ascending n 1 lo js → Ascending n 1 lo (placed i js)
placed_ascends n lo i [] h k l a s = (h, k, l, tt)
placed_ascends n lo i (j ∷ js) h k l a s = go (ltb i.start j.start) refl (λ m. placed_ascends n (j.end + 1) i js m k l a.1 s.3)
  where
    go : (b : Bool) → ltb i.start j.start ≡ b → (j.end + 1 ≤ i.start → Ascending n 1 (j.end + 1) (placed i js)) → Ascending n 1 lo (cond b (i ∷ j ∷ js) (j ∷ placed i js))
    go true e r =
        let f = ltb-true i.start j.start e in
        let m : i.end + 1 ≤ j.start = ⊎_elim (λ (x : i.end < j.start). omega arith) (λ (x : j.end < i.start). let y = s.1 in absurd (let z : ⊥ = omega arith in z)) a.0 in
        (h, k, l, (m, s.1, s.2, s.3))
    go false e r =
        let f = ltb-false i.start j.start e in
        let m : j.end + 1 ≤ i.start = ⊎_elim (λ (x : i.end < j.start). absurd (let z : ⊥ = omega arith in z)) (λ (x : j.end < i.start). omega arith) a.0 in
        (s.0, s.1, s.2, r m)

-- An interval of a letter or more within n letters.
abbrev Lies : ℕ → Interval → Type 0
Lies n i = (i.start + 1 ≤ i.end) × (i.end ≤ n)

sorted : (n : ℕ) (is : List Interval) → Each (Lies n) is → InOrder Apart is → Canonical n 1 (by_place is)
sorted n [] h k = tt
sorted n (i ∷ is) h k = placed_ascends n 0 i (by_place is) (omega arith) h.0.0 h.0.1 (each_by_place (Apart i) is k.0) (sorted n is h.1 k.1)

-- ---- Of stretches.
each_map : (f : Stretch → Interval) (P : Interval → Type 0) (ss : List Stretch) → Each (λ s. P (f s)) ss → Each P (map f ss)
each_map f P [] h = tt
each_map f P (s ∷ ss) h = (h.0, each_map f P ss h.1)

order_map : (f : Stretch → Interval) (ss : List Stretch) → InOrder (λ s t. Apart (f s) (f t)) ss → InOrder Apart (map f ss)
order_map f [] h = tt
order_map f (s ∷ ss) h = (each_map f (Apart (f s)) ss h.0, order_map f ss h.1)

order_as : (R S : Stretch → Stretch → Type 0) (ss : List Stretch) → ((s t : Stretch) → R s t → S s t) → InOrder R ss → InOrder S ss
order_as R S [] f h = tt
order_as R S (s ∷ ss) f h = (each_as (R s) (S s) ss (f s) h.0, order_as R S ss f h.1)

apart_is : (i j : Interval) → apart i j ≡ true → Apart j i
apart_is i j e = go (ltb i.end j.start) (ltb j.end i.start) refl refl e
  where
    go : (a b : Bool) → ltb i.end j.start ≡ a → ltb j.end i.start ≡ b → a || b ≡ true → Apart j i
    go true b p q e = inr (ltb-true i.end j.start p)
    go false true p q e = inl (ltb-true j.end i.start q)
    go false false p q e = absurd (true≢false (sym e))

pub usual_kind : (A : Asked) (n : ℕ) → 0 < A.kmer → Canonical (length A.sequence) 1 (by_place (map (letters A.kmer) (strongest A n)))
usual_kind A n some =
    let L : List Stretch = strongest A n in
    let k : ℕ = A.kmer in
    sorted (length A.sequence) (map (letters k) L)
    (each_map (letters k) (Lies (length A.sequence)) L (each_as (Worthy A) (λ s. Lies (length A.sequence) (letters k s)) L (λ s w. let a = w.some in let b = w.within in (omega arith, omega arith)) (each_worthy A n)))
    (order_map (letters k) L (order_as (Parted A) (λ t s. Apart (letters k t) (letters k s)) L (λ t s e. apart_is (letters k s) (letters k t) e) (parted A n)))

-- Laws of the list by its definition alone, for every request, also one that the checks refuse.
use Rattle.std.proofs.Common.{◌≡◌, ℕ, zero, suc, ◌+◌, ◌<◌, ◌≤◌, Bool, true, false, ◌&&◌, List, [], ◌∷◌, ◌++◌, length, take, Option, None, Some, pos, refl, sym, ap, ◌∙◌, subst, arith, ◌⊎◌, inl, inr, ⊎_elim, true≢false, append-nil, ◌≤ℤ◌, ◌<ℤ◌, length-append}
use lib.Signed.{lt_z}
use Rattle.std.proofs.lemmas.List.{take-append-le}
use Rattle.std.proofs.lemmas.Option.{none-some}
use Rattle.floats.proofs.Whole.{is_le}
use Rattle.intervals.specs.declared.Interval.{Interval}
use Rattle.intervals.proofs.Order.{lt_or_le}
use Rattle.strongest.proofs.Order.{up, down, parts, is_lt}
use Rattle.strongest_list.specs.Stretches.{Asked, Stretch, letters, score, inside, apart, apart_from, allowed, best, as_list, strongest}
use Rattle.strongest_list.specs.Terms.Best.{Chosen}
use Rattle.strongest_list.proofs.Ranking.{Below, below}
use Rattle.strongest_list.proofs.Choosing.{Candid, definition_is}
use Rattle.strongest_list.proofs.Listing.{none_yet, next}

-- ---- Of each element; of one.
abbrev pub Each : {X : Type 0} → (X → Type 0) → List X → Type 0
Each P [] = Unit {0}
Each P (x ∷ xs) = P x × Each P xs

abbrev pub Any : {X : Type 0} → (X → Type 0) → List X → Type 0
Any P [] = ⊥
Any P (x ∷ xs) = P x ⊎ Any P xs

pub each_snoc : {X : Type 0} (P : X → Type 0) (xs : List X) (x : X) → Each P xs → P x → Each P (xs ++ (x ∷ []))
each_snoc P [] x h p = (p, tt)
each_snoc P (y ∷ xs) x h p = (h.0, each_snoc P xs x h.1 p)

pub each_as : {X : Type 0} (P Q : X → Type 0) (xs : List X) → ((x : X) → P x → Q x) → Each P xs → Each Q xs
each_as P Q [] f h = tt
each_as P Q (x ∷ xs) f h = (f x h.0, each_as P Q xs f h.1)

any_more : {X : Type 0} (P : X → Type 0) (xs ys : List X) → Any P xs → Any P (xs ++ ys)
any_more P [] ys h = absurd h
any_more P (x ∷ xs) ys h = ⊎_elim (λ p. inl p) (λ p. inr (any_more P xs ys p)) h

any_last : {X : Type 0} (P : X → Type 0) (xs : List X) (x : X) → P x → Any P (xs ++ (x ∷ []))
any_last P [] x p = inl p
any_last P (y ∷ xs) x p = inr (any_last P xs x p)

-- In order: each later element stands so to each earlier one.
abbrev pub InOrder : {X : Type 0} → (X → X → Type 0) → List X → Type 0
InOrder R [] = Unit {0}
InOrder R (x ∷ xs) = Each (R x) xs × InOrder R xs

pub order_snoc : {X : Type 0} (R : X → X → Type 0) (xs : List X) (y : X) → InOrder R xs → Each (λ x. R x y) xs → InOrder R (xs ++ (y ∷ []))
order_snoc R [] y h k = (tt, tt)
order_snoc R (x ∷ xs) y h k = (each_snoc (R x) xs y h.0 k.0, order_snoc R xs y h.1 k.1)

and_both : (a b : Bool) → a && b ≡ true → (a ≡ true) × (b ≡ true)
and_both true b e = (refl, e)
and_both false b e = absurd (true≢false (sym e))

and_true : (a : Bool) → a && true ≡ a
and_true true = refl
and_true false = refl

apart_snoc : (k : ℕ) (i : Interval) (ss : List Stretch) (t : Stretch) → apart_from k i (ss ++ (t ∷ [])) ≡ apart_from k i ss && apart i (letters k t)
unfolding apart_from
apart_snoc k i [] t = and_true (apart i (letters k t))
apart_snoc k i (s ∷ ss) t = ap (λ (b : Bool). apart i (letters k s) && b) (apart_snoc k i ss t) ∙ assoc (apart i (letters k s))
  where
    assoc : (a : Bool) → a && (apart_from k i ss && apart i (letters k t)) ≡ (a && apart_from k i ss) && apart i (letters k t)
    assoc true = refl
    assoc false = refl

apart_none : (k : ℕ) (i : Interval) → apart_from k i [] ≡ true
unfolding apart_from
apart_none k i = refl

take_all : {X : Type 0} (n : ℕ) (xs : List X) → length xs ≤ n → take n xs ≡ xs
take_all zero [] h = refl
take_all (suc n) [] h = refl
take_all zero (x ∷ xs) h = absurd (let z : ⊥ = omega arith in z)
take_all (suc n) (x ∷ xs) h = ap (λ (l : List _). x ∷ l) (take_all n xs (omega arith))

apart_each : (k : ℕ) (i : Interval) (ss : List Stretch) → apart_from k i ss ≡ true → Each (λ t. apart i (letters k t) ≡ true) ss
unfolding apart_from
apart_each k i [] h = tt
apart_each k i (s ∷ ss) h = let p = and_both (apart i (letters k s)) (apart_from k i ss) h in (p.0, apart_each k i ss p.1)

-- ---- A stretch of 1 to w places of the sequence, inside the regions and above the floor.
pub record Worthy (A : Asked) (s : Stretch) : Type 0 where
  pub some : 0 < s.size
  pub short : s.size ≤ A.window_size
  pub within : s.first + s.size ≤ length A.sequence
  pub inside_regions : inside A.regions (letters A.kmer s) ≡ true
  pub high : lt_z (pos A.floor) (score A s) ≡ true

module _ (A : Asked) where
  abbrev pub L : ℕ → List Stretch
  L n = strongest A n

  abbrev pub k : ℕ
  k = A.kmer

  abbrev pub C : List Stretch → Stretch → Type 0
  C found = Candid (score A) (allowed A found) A.window_size (length A.sequence) 0

  pub chosen : (found : List Stretch) → Chosen (score A) (C found) (best A found)
  chosen found = definition_is (score A) (allowed A found) A.window_size (length A.sequence)

  pub worthy : (found : List Stretch) (s : Stretch) → C found s → Worthy A s × (apart_from k (letters k s) found ≡ true)
  worthy found s c =
      let p = and_both (inside A.regions (letters k s)) _ c.allowed in
      let q = and_both (apart_from k (letters k s) found) _ p.1 in (
        record {
          some = c.some;
          short = c.short;
          within = ⊎_elim (λ h. h) (λ h. absurd (let l = h.1 in let m = c.some in let z : ⊥ = omega arith in z)) c.ends;
          inside_regions = p.0;
          high = q.1;
        },
        q.0,
      )

  pub candid : (found : List Stretch) (s : Stretch) → Worthy A s → apart_from k (letters k s) found ≡ true → C found s
  candid found s w h = record { some = w.some; short = w.short; allowed = rw (w.inside_regions, h, w.high) refl; ends = inl w.within }

  -- A next entry x, or none.
  pub by_best : (R : Type 0) (found : List Stretch) → ((x : Stretch) → best A found ≡ Some x → R) → (best A found ≡ None → R) → R
  by_best R found f g = go (best A found) refl
    where
      go : (o : Option Stretch) → best A found ≡ o → R
      go None e = g e
      go (Some x) e = f x e

  pub grown : (n : ℕ) (x : Stretch) → best A (L n) ≡ Some x → L (suc n) ≡ L n ++ (x ∷ [])
  grown n x e = next A n ∙ ap (λ (o : Option Stretch). L n ++ as_list o) e

  pub ended : (n : ℕ) → best A (L n) ≡ None → L (suc n) ≡ L n
  ended n e = next A n ∙ ap (λ (o : Option Stretch). L n ++ as_list o) e ∙ append-nil (L n)

  pub is_candid : (found : List Stretch) (x : Stretch) → best A found ≡ Some x → C found x
  is_candid found x e = (subst (λ (o : Option Stretch). Chosen (score A) (C found) o) e (chosen found)).0

  pub is_best : (found : List Stretch) (x s : Stretch) → best A found ≡ Some x → C found s → Below (score A) s x
  is_best found x s e c = below (score A) s x ((subst (λ (o : Option Stretch). Chosen (score A) (C found) o) e (chosen found)).1 s c)

  pub none_left : (found : List Stretch) (s : Stretch) → best A found ≡ None → C found s → ⊥
  none_left found s e c = subst (λ (o : Option Stretch). Chosen (score A) (C found) o) e (chosen found) s c

  -- ---- What each entry is.
  pub each_worthy : (n : ℕ) → Each (Worthy A) (L n)
  each_worthy zero = rw (none_yet A) tt
  each_worthy (suc n) =
      by_best (Each (Worthy A) (L (suc n))) (L n)
      (λ x e. subst (Each (Worthy A)) (sym (grown n x e)) (each_snoc (Worthy A) (L n) x (each_worthy n) (worthy (L n) x (is_candid (L n) x e)).0))
      (λ e. subst (Each (Worthy A)) (sym (ended n e)) (each_worthy n))

  -- A letter or more lies between any two.
  abbrev pub Parted : Stretch → Stretch → Type 0
  Parted t s = apart (letters k s) (letters k t) ≡ true

  pub parted : (n : ℕ) → InOrder Parted (L n)
  parted zero = rw (none_yet A) tt
  parted (suc n) =
      by_best (InOrder Parted (L (suc n))) (L n)
      (λ x e. subst (InOrder Parted) (sym (grown n x e)) (order_snoc Parted (L n) x (parted n) (apart_each k (letters k x) (L n) (worthy (L n) x (is_candid (L n) x e)).1)))
      (λ e. subst (InOrder Parted) (sym (ended n e)) (parted n))

  -- ---- Those left stand below each entry.
  fewer : (found : List Stretch) (x s : Stretch) → C (found ++ (x ∷ [])) s → C found s
  fewer found x s c =
      let w = worthy (found ++ (x ∷ [])) s c in
      candid found s w.0 (and_both (apart_from k (letters k s) found) (apart (letters k s) (letters k x)) (sym (apart_snoc k (letters k s) found x) ∙ w.1)).0

  pub below_each : (n : ℕ) (s : Stretch) → C (L n) s → Each (λ t. Below (score A) s t) (L n)
  below_each zero s c = rw (none_yet A) tt
  below_each (suc n) s c =
      by_best (Each (λ t. Below (score A) s t) (L (suc n))) (L n)
      (λ x e.
      let d = fewer (L n) x s (subst (λ (l : List Stretch). C l s) (grown n x e) c) in
      subst (Each (λ t. Below (score A) s t)) (sym (grown n x e)) (each_snoc (λ t. Below (score A) s t) (L n) x (below_each n s d) (is_best (L n) x s e d)))
      (λ e. subst (Each (λ t. Below (score A) s t)) (sym (ended n e)) (below_each n s (subst (λ (l : List Stretch). C l s) (ended n e) c)))

  -- ---- Scores do not rise.
  abbrev pub Falls : Stretch → Stretch → Type 0
  Falls t s = score A s ≤ℤ score A t

  pub score_below : (s t : Stretch) → Below (score A) s t → score A s ≤ℤ score A t
  score_below s t h = let x = score A s in let y = score A t in (is_le x y (up x) (down x) (up y) (down y) (parts x) (parts y)).1 h.le

  pub scores_fall : (n : ℕ) → InOrder Falls (L n)
  scores_fall zero = rw (none_yet A) tt
  scores_fall (suc n) =
      by_best (InOrder Falls (L (suc n))) (L n)
      (λ x e. subst (InOrder Falls) (sym (grown n x e))
      (order_snoc Falls (L n) x (scores_fall n) (each_as (λ t. Below (score A) x t) (λ t. Falls t x) (L n) (λ t h. score_below x t h) (below_each n x (is_candid (L n) x e)))))
      (λ e. subst (InOrder Falls) (sym (ended n e)) (scores_fall n))

  -- ---- Nothing is missed.
  -- An entry whose letters those of s share or touch, and which scores at least as much.
  abbrev pub Meets : Stretch → Stretch → Type 0
  Meets s t = (apart (letters k s) (letters k t) ≡ false) × (score A s ≤ℤ score A t)

  pub left_or_met : (n : ℕ) (s : Stretch) → Worthy A s → C (L n) s ⊎ Any (Meets s) (L n)
  left_or_met zero s w = inl (rw (none_yet A) (candid [] s w (apart_none k (letters k s))))
  left_or_met (suc n) s w =
      ⊎_elim
      (λ c.
      by_best (C (L (suc n)) s ⊎ Any (Meets s) (L (suc n))) (L n)
      (λ x e. by n x e c (apart (letters k s) (letters k x)) refl)
      (λ e. absurd (none_left (L n) s e c)))
      (λ a. inr (subst (Any (Meets s)) (sym (next A n)) (any_more (Meets s) (L n) (as_list (best A (L n))) a)))
      (left_or_met n s w)
    where
      by : (n : ℕ) (x : Stretch) → best A (L n) ≡ Some x → C (L n) s → (b : Bool) → apart (letters k s) (letters k x) ≡ b → C (L (suc n)) s ⊎ Any (Meets s) (L (suc n))
      by n x e c true p =
          inl (subst (λ (l : List Stretch). C l s) (sym (grown n x e))
          (candid (L n ++ (x ∷ [])) s w (apart_snoc k (letters k s) (L n) x ∙ rw ((worthy (L n) s c).1, p) refl)))
      by n x e c false p = inr (subst (Any (Meets s)) (sym (grown n x e)) (any_last (Meets s) (L n) x (p, score_below s x (is_best (L n) x s e c))))

  -- ---- The length, and the end.
  pub at_most : (n : ℕ) → length (L n) ≤ n
  at_most zero = rw (none_yet A) (omega arith)
  at_most (suc n) =
      by_best (length (L (suc n)) ≤ suc n) (L n)
      (λ x e. omega (arith, ap (λ (l : List Stretch). length l) (grown n x e), length-append (L n) (x ∷ []), at_most n))
      (λ e. omega (arith, ap (λ (l : List Stretch). length l) (ended n e), at_most n))

  pub short_ends : (n : ℕ) → length (L n) < n → best A (L n) ≡ None
  short_ends zero h = absurd (let z : ⊥ = omega arith in z)
  short_ends (suc n) h =
      by_best (best A (L (suc n)) ≡ None) (L n)
      (λ x e.
      let i : length (L n) < n = omega (arith, ap (λ (l : List Stretch). length l) (grown n x e), length-append (L n) (x ∷ [])) in
      absurd (none-some x (sym (short_ends n i) ∙ e)))
      (λ e. ap (best A) (ended n e) ∙ e)

  -- Where fewer than N were found, no stretch is left out that is not met.
  pub nothing_missed_short : (n : ℕ) (s : Stretch) → length (L n) < n → Worthy A s → Any (Meets s) (L n)
  nothing_missed_short n s h w = ⊎_elim (λ c. absurd (none_left (L n) s (short_ends n h) c)) (λ a. a) (left_or_met n s w)

  -- One that scores more than an entry, as the last one, is met.
  clash : (s : Stretch) (l : List Stretch) → Each (λ t. Below (score A) s t) l → Any (λ t. score A t <ℤ score A s) l → ⊥
  clash s [] e a = a
  clash s (t ∷ l) e a =
      ⊎_elim
      (λ h.
      let x = score A t in
      let y = score A s in
      let p = (is_lt x y (up x) (down x) (up y) (down y) (parts x) (parts y)).0 h in
      let q = e.0.le in
      let z : ⊥ = omega arith in
      z)
      (λ h. clash s l e.1 h) a

  pub nothing_missed : (n : ℕ) (s : Stretch) → Worthy A s → Any (λ t. score A t <ℤ score A s) (L n) → Any (Meets s) (L n)
  nothing_missed n s w h = ⊎_elim (λ c. absurd (clash s (L n) (below_each n s c) h)) (λ a. a) (left_or_met n s w)

  -- So the first entry is the best of all.
  pub first_is_best : (s : Stretch) → Worthy A s → Any (λ t. score A s ≤ℤ score A t) (L 1)
  first_is_best s w =
      let c : C (L 0) s = ⊎_elim (λ d. d) (λ a. absurd (subst (Any (Meets s)) (none_yet A) a)) (left_or_met 0 s w) in
      by_best (Any (λ t. score A s ≤ℤ score A t) (L 1)) (L 0)
      (λ x e. subst (Any (λ t. score A s ≤ℤ score A t)) (sym (grown 0 x e)) (any_last (λ t. score A s ≤ℤ score A t) (L 0) x (score_below s x (is_best (L 0) x s e c))))
      (λ e. absurd (none_left (L 0) s e c))

  -- ---- The list for N is the front of any longer one.
  pub front : (n d : ℕ) → take n (L (n + d)) ≡ L n
  front n zero = ap (λ (m : ℕ). take n (L m)) (let z : n + 0 ≡ n = omega arith in z) ∙ take_all n (L n) (at_most n)
  front n (suc d) =
      ap (λ (m : ℕ). take n (L m)) (let z : n + suc d ≡ suc (n + d) = omega arith in z)
      ∙ by_best (take n (L (suc (n + d))) ≡ L n) (L (n + d))
      (λ x e.
      ap (take n) (grown (n + d) x e)
      ∙ ⊎_elim
      (λ h. absurd (none-some x (sym (short_ends (n + d) (omega arith)) ∙ e)))
      (λ h. take-append-le n (L (n + d)) (x ∷ []) h ∙ front n d)
      (lt_or_le (length (L (n + d))) n))
      (λ e. ap (take n) (ended (n + d) e) ∙ front n d)

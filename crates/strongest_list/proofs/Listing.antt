-- The list grows by one entry at a time, and stays where nothing is left.
use Rattle.std.proofs.Common.{◌≡◌, ℕ, zero, suc, ◌+◌, ◌<◌, ◌≤◌, min, List, [], ◌∷◌, ◌++◌, map, length, set, Option, None, Some, ℤ, refl, sym, ap, ap₂, ◌∙◌, subst, arith, append-nil}
use lib.ListN.{length-map}
use Rattle.buffers.specs.Fill.{put}
use Rattle.buffers.proofs.Put.{put_more}
use Rattle.intervals.specs.declared.Interval.{Interval}
use Rattle.strongest_list.specs.Stretches.{Asked, Stretch, letters, score, best, as_list, strongest}
use Rattle.strongest_list.specs.Terms.Listed.{Lists, Answers}

map_snoc : {X Y : Type 0} (f : X → Y) (xs : List X) (x : X) → map f (xs ++ (x ∷ [])) ≡ map f xs ++ (f x ∷ [])
map_snoc f [] x = refl
map_snoc f (y ∷ xs) x = ap (λ (l : List _). f y ∷ l) (map_snoc f xs x)

module _ (A : Asked) where
  pub none_yet : strongest A 0 ≡ []
  unfolding strongest
  none_yet = refl

  pub next : (n : ℕ) → strongest A (suc n) ≡ strongest A n ++ as_list (best A (strongest A n))
  unfolding strongest
  next n = refl

  pub more : (n m : ℕ) (s : Stretch) → m ≡ n + 1 → best A (strongest A n) ≡ Some s → strongest A m ≡ strongest A n ++ (s ∷ [])
  more n m s h e = ap (strongest A) (let z : m ≡ suc n = omega arith in z) ∙ next n ∙ ap (λ (o : Option Stretch). strongest A n ++ as_list o) e

  pub stays : (i d n : ℕ) → best A (strongest A i) ≡ None → n ≡ i + d → strongest A n ≡ strongest A i
  stays i zero n e h = ap (strongest A) (let z : n ≡ i = omega arith in z)
  stays i (suc d) zero e h = absurd (let z : ⊥ = omega arith in z)
  stays i (suc d) (suc n) e h =
      next n
      ∙ ap (λ (l : List Stretch). l ++ as_list (best A l)) (stays i d n e (omega arith))
      ∙ ap (λ (o : Option Stretch). strongest A i ++ as_list o) e
      ∙ append-nil (strongest A i)

  pub lists_none : (out : List Interval) (scores : List ℤ) → Lists A (strongest A 0) out out scores scores
  lists_none out scores = rw none_yet (record { letters_are = refl; scores_are = refl })

  pub lists_more : (found more : List Stretch) (s : Stretch) (out out' : List Interval) (scores scores' : List ℤ) (i : ℕ) (v : Interval) (z : ℤ)
      → Lists A found out out' scores scores' → length found ≡ i → i < length out → i < length scores → more ≡ found ++ (s ∷ []) → v ≡ letters A.kmer s → z ≡ score A s
      → Lists A more out (set out' i v) scores (set scores' i z)
  lists_more found more s out out' scores scores' i v z L n h k e v_is z_is =
      let f : Stretch → Interval = letters A.kmer in
      let lf : length (map f found) ≡ i = length-map found f ∙ n in
      let ls : length (map (score A) found) ≡ i = length-map found (score A) ∙ n in
      record {
        letters_are = ap₂ (λ (l : List Interval) (x : Interval). set l i x) L.letters_are v_is
            ∙ ap (λ (j : ℕ). set (put (map f found) out) j (f s)) (sym lf)
            ∙ put_more (map f found) (f s) out (omega arith)
            ∙ ap (λ (l : List Interval). put l out) (sym (ap (map f) e ∙ map_snoc f found s));
        scores_are = ap₂ (λ (l : List ℤ) (x : ℤ). set l i x) L.scores_are z_is
            ∙ ap (λ (j : ℕ). set (put (map (score A) found) scores) j (score A s)) (sym ls)
            ∙ put_more (map (score A) found) (score A s) scores (omega arith)
            ∙ ap (λ (l : List ℤ). put l scores) (sym (ap (map (score A)) e ∙ map_snoc (score A) found s));
      }

  pub answers_at : (i n : ℕ) (out out' : List Interval) (scores scores' : List ℤ) → n ≡ min (length out) (length scores) → strongest A n ≡ strongest A i → length (strongest A i) ≡ i
      → Lists A (strongest A i) out out' scores scores' → Answers A out out' scores scores' i
  answers_at i n out out' scores scores' h e l L =
      let same : strongest A (min (length out) (length scores)) ≡ strongest A i = ap (strongest A) (sym h) ∙ e in
      record { listed = subst (λ (l : List Stretch). Lists A l out out' scores scores') (sym same) L; count_is = sym (ap (λ (l : List Stretch). length l) same ∙ l) }

  pub answers_end : (i n : ℕ) (out out' : List Interval) (scores scores' : List ℤ) → n ≡ min (length out) (length scores) → n ≤ i → i ≤ n → length (strongest A i) ≡ i
      → Lists A (strongest A i) out out' scores scores' → Answers A out out' scores scores' n
  answers_end i n out out' scores scores' h j k l L =
      let e : n ≡ i = omega arith in
      subst (λ (m : ℕ). Answers A out out' scores scores' m) (sym e) (answers_at i n out out' scores scores' h (ap (strongest A) e) l L)

-- The counts of a strand's k-mers: first all set to 0, then raised place by place, and the largest of them.
use Rattle.std.proofs.Common.{◌≡◌, refl, sym, ap, ◌∙◌, subst, List, [], ◌∷◌, ◌++◌, ⊎_elim, ℕ, zero, suc, ◌+◌, ◌/◌, ◌%◌, ◌^◌, ◌≤◌, ◌<◌, max, eq-or-lt_of_le, arith, length, get_or, set, take, take_all, length-set, length-take-le, get_or-set_same, get_or-set_other}
use Rattle.std.proofs.lemmas.List.{get_or_past}
use Rattle.std.proofs.Math.Seq.{take-add}
use Rattle.letters.specs.Place.{Place, ambiguous, plain, BelowAt, place_at, places}
use Rattle.letters.specs.Terms.Entry.{decode}
use Rattle.letters.proofs.Places.{place_below, places_drop, places_length}
use Rattle.letters.proofs.Entries.{decode_plain}
use Rattle.scans.specs.Counts.{hit, count, raise}
use Rattle.scans.proofs.Counting.{count_le, count_snoc, raise_length, raise_hit, hit_self, hit_other}
use Rattle.ranking.specs.Kmers.{largest_count}
use Rattle.ranking.specs.Terms.Counting.{front, Known, cleared_at, raised}

-- ---- An entry set to 0.
zero_same : (l : List ℕ) (i : ℕ) → ◌≡◌ {A = ℕ} (get_or (set l i 0) i 0) 0
zero_same l i = grind (arith, get_or-set_same {A = ℕ}, get_or_past {X = ℕ}, length-set {A = ℕ})

zero_kept : (l : List ℕ) (i j : ℕ) → get_or l j 0 ≡ 0 → get_or (set l i 0) j 0 ≡ 0
zero_kept l i j h = grind (arith, zero_same, get_or-set_other {A = ℕ})

cleared_length : (counts : List ℕ) (e : Place) → length (cleared_at counts e) ≡ length counts
cleared_length counts ambiguous = refl
cleared_length counts (plain x) = length-set counts x 0

cleared_kept : (counts : List ℕ) (e : Place) (x : ℕ) → get_or counts x 0 ≡ 0 → get_or (cleared_at counts e) x 0 ≡ 0
cleared_kept counts ambiguous x h = h
cleared_kept counts (plain y) x h = zero_kept counts y x h

-- ---- The largest count, with a place more.
largest_past : (b x : ℕ) (q : List Place) → b ≤ x → largest_count b (q ++ plain x ∷ []) ≡ largest_count b q
unfolding largest_count
largest_past zero x q h = refl
largest_past (suc b) x q h = omega (arith, largest_past b x q (omega arith), count_snoc b q (plain x), hit_other b x (λ e. let z : ⊥ = omega arith in z))

largest_plain : (b x : ℕ) (q : List Place) → x < b → largest_count b (q ++ plain x ∷ []) ≡ max (largest_count b q) (count x q + 1)
unfolding largest_count
largest_plain zero x q h = absurd (let z : ⊥ = omega arith in z)
largest_plain (suc b) x q h =
    ⊎_elim
    (λ (e : x ≡ b). subst (λ (y : ℕ). max (largest_count b (q ++ plain y ∷ [])) (count b (q ++ plain y ∷ [])) ≡ max (max (largest_count b q) (count b q)) (count y q + 1)) (sym e)
    (omega (arith, largest_past b b q (omega arith), count_snoc b q (plain b), hit_self b)))
    (λ (l : x < b). omega (arith, largest_plain b x q l, count_snoc b q (plain x), hit_other b x (λ e. let z : ⊥ = omega arith in z)))
    (eq-or-lt_of_le (let z : x ≤ b = omega arith in z))

largest_ambiguous : (b : ℕ) (q : List Place) → largest_count b (q ++ ambiguous ∷ []) ≡ largest_count b q
unfolding largest_count
largest_ambiguous zero q = refl
largest_ambiguous (suc b) q = omega (arith, largest_ambiguous b q, count_snoc b q ambiguous)

pub largest_none : (b : ℕ) → 0 ≡ largest_count b []
unfolding largest_count
largest_none zero = refl
largest_none (suc b) = omega (arith, largest_none b)

module _ (k : ℕ) (cs : List ℕ) where
  -- ---- The counts of the first i places are 0.
  pub record Cleared (i : ℕ) (counts : List ℕ) : Type 0 where
    pub long : length counts ≡ 4 ^ k
    pub cleared : (j : ℕ) → j < i → (x : ℕ) → place_at k cs j ≡ plain x → get_or counts x 0 ≡ 0

  pub cleared_none : (counts : List ℕ) → length counts ≡ 4 ^ k → Cleared 0 counts
  cleared_none counts h = record { long = h; cleared = λ j l. absurd (let z : ⊥ = omega arith in z) }

  pub cleared_more : (i : ℕ) (counts counts' : List ℕ) → Cleared i counts → counts' ≡ cleared_at counts (place_at k cs i) → Cleared (i + 1) counts'
  cleared_more i counts counts' c e =
      rw e
      (record {
        long = cleared_length counts (place_at k cs i) ∙ c.long;
        cleared = λ j l x q.
            ⊎_elim
            (λ (r : j ≡ i). ap (λ (z : Place). get_or (cleared_at counts z) x 0) (ap (λ (n : ℕ). place_at k cs n) (sym r) ∙ q) ∙ zero_same counts x)
            (λ (r : j < i). cleared_kept counts (place_at k cs i) x (c.cleared j r x q))
            (eq-or-lt_of_le (let h : j ≤ i = omega arith in h));
      })

  pub cleared_known : (i : ℕ) (counts : List ℕ) → Cleared i counts → length cs ≤ i → Known k cs 0 counts
  cleared_known i counts c h = record { long = c.long; known = λ j l x q. c.cleared j (omega arith) x q }

  -- ---- One place more is counted.
  module _ (i : ℕ) (h : i < length cs) where
    abbrev here : Place
    here = place_at k cs i

    front_more : front k cs (i + 1) ≡ front k cs i ++ here ∷ []
    front_more = take-add i 1 (places k cs) ∙ ap (λ (l : List Place). take i (places k cs) ++ take 1 l) (places_drop k cs i h)

    module _ (counts : List ℕ) (c : Known k cs i counts) where
      -- The count of its k-mer.
      met : (x : ℕ) → here ≡ plain x → (get_or counts x 0 ≡ count x (front k cs i)) × (get_or counts x 0 ≤ i)
      met x d = let e = c.known i h x d in (e, omega (arith, count_le x (front k cs i), length-take-le i (places k cs) (omega (arith, places_length k cs))))

      -- An entry of the place has room in its count.
      pub room : (e : ℕ) → length cs ≤ 2147483647 → decode e ≡ here → e % 2 ≡ 0 → get_or counts (e / 2) 0 < 4294967295
      room e few d even = omega (arith, met (e / 2) (sym d ∙ decode_plain e even))

      pub known_more : (counts' : List ℕ) → counts' ≡ raise counts here → Known k cs (i + 1) counts'
      known_more counts' e =
          rw e
          (record {
            long = raise_length counts here ∙ c.long;
            known = λ j l x q.
                raise_hit counts here x (rw c.long (place_below k cs i))
                ∙ ap (λ (n : ℕ). hit x here + n) (c.known j l x q)
                ∙ sym (ap (λ (r : List Place). count x r) front_more ∙ count_snoc x (front k cs i) here);
          })

      -- The largest count so far.
      pub largest_more : (most next : ℕ) → most ≡ largest_count (4 ^ k) (front k cs i) → next ≡ max most (raised counts here) → next ≡ largest_count (4 ^ k) (front k cs (i + 1))
      largest_more most next m n =
          n ∙ ap (λ (x : ℕ). max x (raised counts here)) m ∙ by here refl (place_below k cs i)
          ∙ sym (ap (λ (r : List Place). largest_count (4 ^ k) r) front_more)
        where
          by : (e : Place) → here ≡ e → BelowAt (4 ^ k) e → max (largest_count (4 ^ k) (front k cs i)) (raised counts e) ≡ largest_count (4 ^ k) (front k cs i ++ e ∷ [])
          by ambiguous d l = omega (arith, largest_ambiguous (4 ^ k) (front k cs i))
          by (plain x) d l = omega (arith, largest_plain (4 ^ k) x (front k cs i) l, met x d)

  pub largest_end : (i most : ℕ) → most ≡ largest_count (4 ^ k) (front k cs i) → length cs ≤ i → most ≡ largest_count (4 ^ k) (places k cs)
  largest_end i most m h = m ∙ ap (λ (r : List Place). largest_count (4 ^ k) r) (take_all i (places k cs) (omega (arith, places_length k cs)))

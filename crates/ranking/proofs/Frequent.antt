-- The k-mers of a stretch's letters are those of its plain places: the count of the most frequent one is the same by both.
use Rattle.std.proofs.Common.{◌≡◌, ℕ, zero, suc, ◌+◌, ◌-◌, ◌^◌, ◌<◌, ◌≤◌, max, List, ◌∷◌, length, take, drop, refl, sym, ap, ap₂, ◌∙◌, arith, take_all}
use Rattle.std.proofs.lemmas.List.{drop-take}
use Rattle.intervals.specs.declared.Interval.{Interval}
use Rattle.letters.specs.Code.{codes}
use Rattle.letters.specs.Place.{Place, ambiguous, plain, ReadAt, place_at, places}
use Rattle.letters.proofs.Codes.{codes_length}
use Rattle.letters.proofs.Places.{places_length, places_drop, place_read}
use Rattle.scans.specs.Counts.{count, hit}
use Rattle.scans.specs.Score.{stretch}
use Rattle.strongest.proofs.Backward.{part, place_part, part_length, codes_part}
use Rattle.strongest_list.specs.Stretches.{letters}
use Rattle.ranking.specs.Kmers.{largest_count, most_frequent}
use Rattle.ranking.specs.Ranking.{letters_in}

-- Counts over the places of a strand from p on, m of them.
next_places : (k : ℕ) (cs : List ℕ) (p m : ℕ) → p < length cs → take (suc m) (drop p (places k cs)) ≡ place_at k cs p ∷ take m (drop (p + 1) (places k cs))
next_places k cs p m h = ap (λ (l : List Place). take (suc m) l) (places_drop k cs p h)

-- A place with fewer than k letters up to it is ambiguous.
early : (k : ℕ) (cs : List ℕ) (p x : ℕ) → suc p < k → hit x (place_at k cs p) ≡ 0
early k cs p x h = by (place_at k cs p) (place_read k cs p)
  where
    by : (e : Place) → ReadAt k p e → hit x e ≡ 0
    by ambiguous r = refl
    by (plain y) r = absurd (let z : ⊥ = omega arith in z)

module _ (k x : ℕ) (s : List ℕ) (a m : ℕ) (fits : a + m ≤ length s) where
  abbrev cut : List ℕ
  cut = part s a m

  -- From place p of the part on, all of which have their letters in it, or stand at the front of the strand.
  same_counts : (n p : ℕ) → p + n ≡ m → (0 < a → k ≤ suc p) → count x (take n (drop p (places k cut))) ≡ count x (take n (drop (a + p) (places k s)))
  same_counts zero p e h = refl
  same_counts (suc n) p e h =
      let long = part_length s a m fits in
      let next : a + p + 1 ≡ a + (p + 1) = omega arith in
      ap (λ (l : List Place). count x l) (next_places k cut p n (omega (arith, long)))
      ∙ ap₂ (λ (y : Place) (c : ℕ). hit x y + c) (place_part s a m k p (a + p) refl (omega arith) h) (same_counts n (p + 1) (omega arith) (λ g. omega (arith, h g)))
      ∙ sym (ap (λ (l : List Place). count x l) (next_places k s (a + p) n (omega arith)) ∙ ap (λ (q : ℕ). hit x (place_at k s (a + p)) + count x (take n (drop q (places k s)))) next)

-- The first j places, with fewer than k letters each, count nothing.
skip_early : (k x : ℕ) (cs : List ℕ) (j p n : ℕ) → j + p < k → j + p + n ≤ length cs
    → count x (take (j + n) (drop p (places k cs))) ≡ count x (take n (drop (p + j) (places k cs)))
skip_early k x cs zero p n h l =
    ap₂ (λ (y q : ℕ). count x (take y (drop q (places k cs)))) (let e : 0 + n ≡ n = omega arith in e) (let e : p ≡ p + 0 = omega arith in e)
skip_early k x cs (suc j) p n h l =
    let q : suc j + n ≡ suc (j + n) = omega arith in
    ap (λ (y : ℕ). count x (take y (drop p (places k cs)))) q
    ∙ ap (λ (r : List Place). count x r) (next_places k cs p (j + n) (omega arith))
    ∙ ap (λ (y : ℕ). y + count x (take (j + n) (drop (p + 1) (places k cs)))) (early k cs p x (omega arith))
    ∙ (let z : 0 + count x (take (j + n) (drop (p + 1) (places k cs))) ≡ count x (take (j + n) (drop (p + 1) (places k cs))) = omega arith in z)
    ∙ skip_early k x cs j (p + 1) n (omega arith) (omega arith)
    ∙ ap (λ (y : ℕ). count x (take n (drop y (places k cs)))) (let e : p + 1 + j ≡ p + suc j = omega arith in e)

-- ---- The largest count goes by the counts alone.
same_largest : (b : ℕ) (q r : List Place) → ((x : ℕ) → count x q ≡ count x r) → largest_count b q ≡ largest_count b r
unfolding largest_count
same_largest zero q r h = refl
same_largest (suc b) q r h = ap₂ (λ (x y : ℕ). max x y) (same_largest b q r h) (h b)

module _ (k : ℕ) (sequence : List ℕ) (first size : ℕ) (some : 0 < k) (fits : first + size ≤ length sequence) where
  abbrev a : ℕ
  a = first + 1 - k

  abbrev m : ℕ
  m = first + size - a

  abbrev here : Interval
  here = letters k (record { first = first; size = size })

  cs_fit : a + m ≤ length (codes sequence)
  cs_fit = omega (arith, codes_length sequence)

  counts_are : (x : ℕ) → count x (places k (part (codes sequence) a m)) ≡ count x (stretch (places k (codes sequence)) first size)
  counts_are x =
      let cs : List ℕ = codes sequence in
      let j : ℕ = first - a in
      let long = part_length cs a m cs_fit in
      let all : j + size ≡ m = omega arith in
      let there : a + j ≡ first = omega arith in
      ap (λ (l : List Place). count x l) (sym (take_all (j + size) (places k (part cs a m)) (omega (arith, places_length k (part cs a m), long))))
      ∙ skip_early k x (part cs a m) j 0 size (omega arith) (omega (arith, long))
      ∙ same_counts k x cs a m cs_fit size (0 + j) (omega arith) (λ h. omega arith)
      ∙ ap (λ (p : ℕ). count x (take size (drop p (places k cs)))) (let e : a + (0 + j) ≡ first = omega arith in e)

  letters_are : codes (letters_in sequence here) ≡ part (codes sequence) a m
  letters_are =
      ap (λ (e : ℕ). codes (drop a (take e sequence))) (let e : first + size ≡ a + m = omega arith in e)
      ∙ ap codes (drop-take a m sequence)
      ∙ codes_part sequence a m

  -- The count that is written of a stretch is the largest among the k-mers of its places.
  pub frequent_in_stretch : most_frequent k (letters_in sequence here) ≡ largest_count (4 ^ k) (stretch (places k (codes sequence)) first size)
  frequent_in_stretch =
      ap (λ (cs : List ℕ). largest_count (4 ^ k) (places k cs)) letters_are
      ∙ same_largest (4 ^ k) (places k (part (codes sequence) a m)) (stretch (places k (codes sequence)) first size) counts_are

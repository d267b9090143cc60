-- The mirror law: where f does not fall on 1..w, the first score of a sequence is that of its reverse complement with the regions turned.
use Rattle.std.proofs.Common.{◌≡◌, ℕ, zero, suc, ◌+◌, ◌-◌, ◌*◌, ◌<◌, ◌≤◌, true, List, [], ◌∷◌, ◌++◌, map, length, get_or, None, Some, ℤ, pos, sym, ap, ◌∙◌, subst, arith, ⊎_elim, ◌≤ℤ◌, ltb-true, lt-ltb}
use lib.Signed.{lt_z}
use Rattle.floats.proofs.Whole.{Is, is_le}
use Rattle.intervals.specs.declared.Interval.{Interval}
use Rattle.intervals.specs.Interval.{interval, covered}
use Rattle.intervals.specs.Merge.{backwards}
use Rattle.intervals.proofs.Counted.{covered_agrees, same_test}
use Rattle.intervals.proofs.Backward.{backwards_covers}
use Rattle.intervals.proofs.Order.{lt_or_le}
use Rattle.letters.specs.Code.{codes, reverse_complement}
use Rattle.letters.specs.Place.{Place, places_from, places}
use Rattle.letters.proofs.Codes.{codes_length, reverse_complement_length}
use Rattle.scans.specs.Score.{stretch}
use Rattle.strongest.proofs.Order.{up, down, parts, is_pos, is_same, lt_is, le_trans, both_le}
use Rattle.strongest_list.specs.Stretches.{Asked, Stretch, letters, score, inside, best, strongest}
use Rattle.strongest_list.specs.Mirrored.{over, turned, Rises}
use Rattle.strongest_list.proofs.Orders.{worth, gain, score_is}
use Rattle.strongest_list.proofs.Turning.{Turned, is_turned, turned_back, place_long, stretch_from, from_length, gain_turned}
use Rattle.strongest_list.proofs.Taking.{covered_all, all_of_covered}
use Rattle.strongest_list.proofs.Listing.{none_yet}
use Rattle.strongest_list.proofs.Laws.{Any, Worthy, L, by_best, grown, ended, is_candid, worthy, first_is_best}

-- ---- A stretch's score, by its places from the first on.
module _ (A : Asked) where
  abbrev cs : List ℕ
  cs = codes A.sequence

  abbrev q : Stretch → List Place
  q s = places_from A.kmer cs s.first s.size

  score_from : (s : Stretch) → s.first + s.size ≤ length A.sequence → Is (score A s) (gain A.ln (q s)) (s.size * A.threshold + get_or A.f s.size 0)
  score_from s h =
      let e : stretch (places A.kmer cs) s.first s.size ≡ q s = stretch_from A.kmer cs s.first s.size (omega (arith, codes_length A.sequence)) in
      subst (λ (l : List Place). Is (score A s) (gain A.ln l) (s.size * A.threshold + get_or A.f s.size 0)) e
      (score_is A.kmer A.threshold A.ln A.f cs s (ap (λ (l : List Place). length l) e ∙ from_length A.kmer cs s.first s.size))

  -- ---- An ambiguous first place before letter k - 1 may go: where f does not fall the score does not.
  record AtLeast (s t : Stretch) : Type 0 where
    worth_it : Worthy A t
    full : A.kmer ≤ t.first + 1
    high : score A s ≤ℤ score A t

  module _ (R : Rises A.f A.window_size) where
    same_gain : (a l : ℕ) → a + 1 < A.kmer → gain A.ln (places_from A.kmer cs a (suc l)) ≡ gain A.ln (places_from A.kmer cs (suc a) l)
    unfolding places_from
    same_gain a l h =
        ap (λ (p : Place). worth A.ln (places_from A.kmer cs (suc a) l) p + gain A.ln (places_from A.kmer cs (suc a) l)) (place_long A.kmer cs a h)
        ∙ (let z : 0 + gain A.ln (places_from A.kmer cs (suc a) l) ≡ gain A.ln (places_from A.kmer cs (suc a) l) = omega arith in z)

    no_gain : (a : ℕ) → a + 1 < A.kmer → gain A.ln (places_from A.kmer cs a 1) ≡ 0
    unfolding places_from
    no_gain a h = same_gain a 0 h

    -- It has more places than that one.
    two : (s : Stretch) → Worthy A s → s.first + 1 < A.kmer → 1 < s.size
    two s w h =
        ⊎_elim (λ l. l)
        (λ l.
        let some = w.some in
        let one : s.size ≡ 1 = omega arith in
        let g : gain A.ln (q s) ≡ 0 = ap (λ (n : ℕ). gain A.ln (places_from A.kmer cs s.first n)) one ∙ no_gain s.first h in
        let i = ltb-true (A.floor + (s.size * A.threshold + get_or A.f s.size 0)) (gain A.ln (q s) + 0)
        (sym (lt_is (pos A.floor) (score A s) A.floor 0 (gain A.ln (q s)) (s.size * A.threshold + get_or A.f s.size 0) (is_pos A.floor) (score_from s w.within)) ∙ w.high) in
        absurd (let z : ⊥ = omega arith in z))
        (lt_or_le 1 s.size)

    no_less : (s : Stretch) → Worthy A s → s.first + 1 < A.kmer → score A s ≤ℤ score A (record { first = s.first + 1; size = s.size - 1 })
    no_less s w h =
        let t : Stretch = record { first = s.first + 1; size = s.size - 1 } in
        let more = two s w h in
        let in_w = w.within in
        let short = w.short in
        let l : ℕ = s.size - 1 in
        let e : s.size ≡ suc l = omega arith in
        let g : gain A.ln (q s) ≡ gain A.ln (q t) =
        ap (λ (n : ℕ). gain A.ln (places_from A.kmer cs s.first n)) e ∙ same_gain s.first l h
        ∙ ap (λ (n : ℕ). gain A.ln (places_from A.kmer cs n l)) (let z : suc s.first ≡ s.first + 1 = omega arith in z) in
        let step : get_or A.f l 0 ≤ get_or A.f s.size 0 = subst (λ (n : ℕ). get_or A.f l 0 ≤ get_or A.f n 0) (sym e) (R.step l (omega arith) (omega arith)) in
        let times : s.size * A.threshold ≡ l * A.threshold + A.threshold = ap (λ (n : ℕ). n * A.threshold) e ∙ (let z : suc l * A.threshold ≡ l * A.threshold + A.threshold = omega arith in z) in
        (is_le (score A s) (score A t) (gain A.ln (q s)) (s.size * A.threshold + get_or A.f s.size 0) (gain A.ln (q t)) (l * A.threshold + get_or A.f l 0) (score_from s in_w) (score_from t (omega arith))).1 (omega arith)

    -- From letter 0 on their letters are the same.
    cut : (s : Stretch) → Worthy A s → s.first + 1 < A.kmer → Worthy A (record { first = s.first + 1; size = s.size - 1 })
    cut s w h =
        let t : Stretch = record { first = s.first + 1; size = s.size - 1 } in
        let more = two s w h in
        let in_w = w.within in
        let short = w.short in
        let same : letters A.kmer s ≡ letters A.kmer t =
        ap (λ (n : ℕ). interval n (s.first + s.size)) (let z : s.first + 1 - A.kmer ≡ s.first + 1 + 1 - A.kmer = omega arith in z)
        ∙ ap (λ (n : ℕ). interval (s.first + 1 + 1 - A.kmer) n) (let z : s.first + s.size ≡ s.first + 1 + (s.size - 1) = omega arith in z) in
        let d = down (score A s) in
        let i = ltb-true (A.floor + down (score A s)) (up (score A s) + 0) (sym (lt_is (pos A.floor) (score A s) A.floor 0 (up (score A s)) (down (score A s)) (is_pos A.floor) (parts (score A s))) ∙ w.high) in
        let j = (is_le (score A s) (score A t) (up (score A s)) (down (score A s)) (up (score A t)) (down (score A t)) (parts (score A s)) (parts (score A t))).0 (no_less s w h) in
        record {
          some = omega arith;
          short = omega arith;
          within = omega arith;
          inside_regions = subst (λ (v : Interval). inside A.regions v ≡ true) same w.inside_regions;
          high = lt_is (pos A.floor) (score A t) A.floor 0 (up (score A t)) (down (score A t)) (is_pos A.floor) (parts (score A t)) ∙ lt-ltb (A.floor + down (score A t)) (up (score A t) + 0) (omega arith);
        }

    same_le : (z : ℤ) → z ≤ℤ z
    same_le z = (is_le z z (up z) (down z) (up z) (down z) (parts z) (parts z)).1 (omega arith)

    itself : (s : Stretch) → A.kmer ≤ s.first + 1 → Worthy A s → AtLeast s s
    itself s h w = record { worth_it = w; full = h; high = same_le (score A s) }

    full_one : (R : Type 0) (d : ℕ) (s : Stretch) → A.kmer ≤ s.first + 1 + d → Worthy A s → ((t : Stretch) → AtLeast s t → R) → R
    full_one R zero s h w f = f s (itself s (omega arith) w)
    full_one R (suc d) s h w f =
        ⊎_elim
        (λ l. full_one R d (record { first = s.first + 1; size = s.size - 1 }) (omega arith) (cut s w l)
        (λ t a. f t (record { worth_it = a.worth_it; full = a.full; high = le_trans (score A s) (score A (record { first = s.first + 1; size = s.size - 1 })) (score A t) (no_less s w l) a.high })))
        (λ l. f s (itself s l w))
        (lt_or_le (s.first + 1) A.kmer)

-- ---- What mirrors a request.
record Mirrors (A : Asked) (sequence : List ℕ) (regions : List Interval) : Type 0 where
  long : length sequence ≡ length A.sequence
  strands : Turned (length A.sequence) (codes A.sequence) (codes sequence)
  covers : (x y : ℕ) → x + y + 1 ≡ length A.sequence → covered regions y ≡ covered A.regions x

mirrors_back : (A : Asked) (sequence : List ℕ) (regions : List Interval) → Mirrors A sequence regions → Mirrors (over A sequence regions) A.sequence A.regions
mirrors_back A sequence regions M =
    record {
      long = sym M.long;
      strands = subst (λ (n : ℕ). Turned n (codes sequence) (codes A.sequence)) (sym M.long) (turned_back (length A.sequence) (codes A.sequence) (codes sequence) M.strands);
      covers = λ x y e. sym (M.covers y x (omega (arith, M.long)));
    }

module _ (A : Asked) (sequence : List ℕ) (regions : List Interval) (M : Mirrors A sequence regions) (some : 0 < A.kmer) where
  abbrev B : Asked
  B = over A sequence regions

  -- The mirror of a stretch whose first place has k letters up to it.
  module _ (s : Stretch) (w : Worthy A s) (full : A.kmer ≤ s.first + 1) where
    abbrev t : Stretch
    t = record { first = length A.sequence + A.kmer - 1 - (s.first + s.size); size = s.size }

    mirror_within : t.first + t.size ≤ length sequence
    mirror_within = let i = w.within in omega (arith, M.long)

    mirror_score : score B t ≡ score A s
    mirror_score =
        let i = w.within in
        let n : ℕ = length A.sequence in
        let g : gain A.ln (q A s) ≡ gain A.ln (q B t) = gain_turned n A.kmer (codes A.sequence) (codes sequence) M.strands A.ln s.first s.size t.first (omega arith) (omega arith) full in
        is_same (score B t) (score A s) (gain A.ln (q B t)) (s.size * A.threshold + get_or A.f s.size 0) (score_from B t mirror_within)
        (subst (λ (x : ℕ). Is (score A s) x (s.size * A.threshold + get_or A.f s.size 0)) g (score_from A s i))

    mirror_inside : inside regions (letters A.kmer t) ≡ true
    mirror_inside =
        let i = w.within in
        let z = w.some in
        let a : ℕ = s.first + 1 - A.kmer in
        all_of_covered regions (t.first + t.size - (t.first + 1 - A.kmer)) (t.first + 1 - A.kmer)
        (λ y h k.
        let x : ℕ = length A.sequence - 1 - y in
        M.covers x y (omega arith)
        ∙ covered_all A.regions (s.first + s.size - a) a x w.inside_regions (omega arith) (omega arith))

    mirror_worthy : Worthy B t
    mirror_worthy =
        record {
          some = w.some;
          short = w.short;
          within = mirror_within;
          inside_regions = mirror_inside;
          high = ap (λ (z : ℤ). lt_z (pos A.floor) z) mirror_score ∙ w.high;
        }

  -- So each worthy stretch has one of the mirror that scores at least as much.
  mirrored : (R : Type 0) (s : Stretch) → Rises A.f A.window_size → Worthy A s → ((t : Stretch) → Worthy B t → score A s ≤ℤ score B t → R) → R
  mirrored R s F w f =
      full_one A F R A.kmer s (omega arith) w
      (λ u a. f (t u a.worth_it a.full) (mirror_worthy u a.worth_it a.full) (subst (λ (z : ℤ). score A s ≤ℤ z) (sym (mirror_score u a.worth_it a.full)) a.high))

-- ---- The first scores.
first_scores : Asked → List ℤ
first_scores A = map (score A) (strongest A 1)

one_entry : (A : Asked) (x : Stretch) → best A (L A 0) ≡ Some x → strongest A 1 ≡ x ∷ []
one_entry A x e = grown A 0 x e ∙ ap (λ (l : List Stretch). l ++ (x ∷ [])) (none_yet A)

no_entry : (A : Asked) → best A (L A 0) ≡ None → strongest A 1 ≡ []
no_entry A e = ended A 0 e ∙ none_yet A

first_high : (A : Asked) (x s : Stretch) → best A (L A 0) ≡ Some x → Worthy A s → score A s ≤ℤ score A x
first_high A x s e w = ⊎_elim (λ h. h) (λ h. absurd h) (subst (Any (λ t. score A s ≤ℤ score A t)) (one_entry A x e) (first_is_best A s w))

first_none : (A : Asked) (s : Stretch) → best A (L A 0) ≡ None → Worthy A s → ⊥
first_none A s e w = subst (Any (λ t. score A s ≤ℤ score A t)) (no_entry A e) (first_is_best A s w)

entry_worthy : (A : Asked) (x : Stretch) → best A (L A 0) ≡ Some x → Worthy A x
entry_worthy A x e = (worthy A (L A 0) x (is_candid A (L A 0) x e)).0

module _ (A : Asked) (sequence : List ℕ) (regions : List Interval) (M : Mirrors A sequence regions) (some : 0 < A.kmer) (F : Rises A.f A.window_size) where
  abbrev N : Mirrors (over A sequence regions) A.sequence A.regions
  N = mirrors_back A sequence regions M

  same_first : map (score (over A sequence regions)) (strongest (over A sequence regions) 1) ≡ map (score A) (strongest A 1)
  same_first =
      let B : Asked = over A sequence regions in
      let Same : Type 0 = map (score B) (strongest B 1) ≡ map (score A) (strongest A 1) in
      by_best A Same (L A 0)
      (λ x e. by_best B Same (L B 0)
      (λ y d.
      let low : score A x ≤ℤ score B y = mirrored A sequence regions M some (score A x ≤ℤ score B y) x F (entry_worthy A x e) (λ t w h. le_trans (score A x) (score B t) (score B y) h (first_high B y t d w)) in
      let high : score B y ≤ℤ score A x = mirrored B A.sequence A.regions N some (score B y ≤ℤ score A x) y F (entry_worthy B y d) (λ t w h. le_trans (score B y) (score A t) (score A x) h (first_high A x t e w)) in
      ap (map (score B)) (one_entry B y d) ∙ ap (λ (z : ℤ). z ∷ []) (both_le (score B y) (score A x) high low) ∙ sym (ap (map (score A)) (one_entry A x e)))
      (λ d. absurd (mirrored A sequence regions M some ⊥ x F (entry_worthy A x e) (λ t w h. first_none B t d w))))
      (λ e. by_best B Same (L B 0)
      (λ y d. absurd (mirrored B A.sequence A.regions N some ⊥ y F (entry_worthy B y d) (λ t w h. first_none A t e w)))
      (λ d. ap (map (score B)) (no_entry B d) ∙ sym (ap (map (score A)) (no_entry A e))))

-- The reverse complement of the sequence, in any letters.
pub same_first_score : (A : Asked) (sequence : List ℕ) → 0 < A.kmer → Rises A.f A.window_size → codes sequence ≡ reverse_complement (codes A.sequence)
    → map (score (turned A sequence)) (strongest (turned A sequence) 1) ≡ map (score A) (strongest A 1)
same_first_score A sequence some F e =
    let n : ℕ = length A.sequence in
    let l : length (codes A.sequence) ≡ n = codes_length A.sequence in
    same_first A sequence (backwards n A.regions)
    (record {
      long = sym (codes_length sequence) ∙ ap (λ (c : List ℕ). length c) e ∙ reverse_complement_length (codes A.sequence) ∙ l;
      strands = subst (λ (c : List ℕ). Turned n (codes A.sequence) c) (sym e) (subst (λ (m : ℕ). Turned m (codes A.sequence) (reverse_complement (codes A.sequence))) l (is_turned (codes A.sequence)));
      covers = λ x y h.
          let c = backwards_covers n y x A.regions (omega arith) in
          let a = covered_agrees (backwards n A.regions) y in
          let b = covered_agrees A.regions x in
          same_test (covered (backwards n A.regions) y) (covered A.regions x) (λ i. b.1 (c.0 (a.0 i))) (λ i. a.1 (c.1 (b.0 i)));
    })
    some F

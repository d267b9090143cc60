-- The places of a part of a strand, and the places read backward from its last letter, as a stretch of the whole strand's places.
use Rattle.std.proofs.Common.{◌≡◌, refl, sym, ap, ap₂, ◌∙◌, Bool, cond, ◌&&◌, List, [], ◌∷◌, map, ℕ, zero, suc, ◌+◌, ◌-◌, ◌*◌, ◌/◌, ◌^◌, ◌≤◌, ◌<◌, min, arith, ltb, length, get_or, set, take, drop, length-set, get_or-set_same, get_or-set_other, length-drop, get_or-take, get_or-drop, length-take-le, ◌⊎◌, inl, inr, ⊎_elim, subst, eq-or-lt_of_le, true, false, true≢false, eqb, eqb-true, eq-eqb}
use Rattle.letters.specs.Code.{code, codes}
use Rattle.letters.specs.declared.Kmer.{Kmer}
use Rattle.letters.specs.Terms.Entry.{decode}
use Rattle.letters.specs.Terms.Rolling.{kmer_after, entry_of}
use Rattle.letters.proofs.Rolling.{entry_place, entry_below}
use Rattle.letters.specs.Place.{Place, ambiguous, plain, packed, all_plain, place_at, places}
use Rattle.letters.proofs.Places.{places_drop}
use Rattle.scans.specs.Score.{stretch}
use Rattle.strongest.specs.Terms.Reading.{back, back_to}
use Rattle.letters.specs.Terms.Rolling.{no_letter, rolled_on}
use Rattle.letters.proofs.Rolling.{kmer_none, kmer_next, run_few, value_small}

-- ---- The m letters of s from letter a on.
module _ (s : List ℕ) (a m : ℕ) where
  abbrev pub part : List ℕ
  part = take m (drop a s)

  part_at : (e : ℕ) → e < m → get_or part e 4 ≡ get_or s (a + e) 4
  part_at e h = get_or-take m (drop a s) e 4 h ∙ get_or-drop a s e 4

  -- The first e letters of the part, which end at letter i of s; enough of them, unless the part is a front of s.
  packed_part : (e i j : ℕ) → i ≡ a + e → e ≤ m → (0 < a → j ≤ e) → packed part e j ≡ packed s i j
  unfolding packed
  packed_part zero zero zero h l k = refl
  packed_part zero (suc i) zero h l k = refl
  packed_part (suc e) zero zero h l k = refl
  packed_part (suc e) (suc i) zero h l k = refl
  packed_part zero zero (suc j) h l k = refl
  packed_part zero (suc i) (suc j) h l k = absurd (let z : ⊥ = omega (arith, k (omega arith)) in z)
  packed_part (suc e) zero (suc j) h l k = absurd (let z : ⊥ = omega arith in z)
  packed_part (suc e) (suc i) (suc j) h l k =
      let n : i ≡ a + e = omega arith in
      ap₂ (λ (x y : ℕ). x * 4 + y) (packed_part e i j n (omega arith) (λ p. omega (arith, k p))) (part_at e (omega arith) ∙ ap (λ (x : ℕ). get_or s x 4) (sym n))

  plain_part : (e i j : ℕ) → i ≡ a + e → e ≤ m → (0 < a → j ≤ e) → all_plain part e j ≡ all_plain s i j
  unfolding all_plain
  plain_part zero zero zero h l k = refl
  plain_part zero (suc i) zero h l k = refl
  plain_part (suc e) zero zero h l k = refl
  plain_part (suc e) (suc i) zero h l k = refl
  plain_part zero zero (suc j) h l k = refl
  plain_part zero (suc i) (suc j) h l k = absurd (let z : ⊥ = omega (arith, k (omega arith)) in z)
  plain_part (suc e) zero (suc j) h l k = absurd (let z : ⊥ = omega arith in z)
  plain_part (suc e) (suc i) (suc j) h l k =
      let n : i ≡ a + e = omega arith in
      ap₂ (λ (x : ℕ) (y : Bool). ltb x 4 && y) (part_at e (omega arith) ∙ ap (λ (x : ℕ). get_or s x 4) (sym n)) (plain_part e i j n (omega arith) (λ p. omega (arith, k p)))

  -- Place p of the part is place i of s.
  pub place_part : (k p i : ℕ) → i ≡ a + p → p < m → (0 < a → k ≤ suc p) → place_at k part p ≡ place_at k s i
  unfolding place_at
  place_part k p i h l enough =
      ap₂ (λ (b : Bool) (v : ℕ). cond b (plain v) ambiguous)
      (plain_part (suc p) (suc i) k (omega arith) l enough) (packed_part (suc p) (suc i) k (omega arith) l enough)

  pub part_length : a + m ≤ length s → length part ≡ m
  part_length h = length-take-le m (drop a s) (omega (arith, length-drop a s))

-- ---- Codes of a part.
map_take : (m : ℕ) (s : List ℕ) → map code (take m s) ≡ take m (map code s)
map_take zero s = refl
map_take (suc m) [] = refl
map_take (suc m) (x ∷ s) = ap (λ (l : List ℕ). code x ∷ l) (map_take m s)

map_drop : (a : ℕ) (s : List ℕ) → map code (drop a s) ≡ drop a (map code s)
map_drop zero s = refl
map_drop (suc a) [] = refl
map_drop (suc a) (x ∷ s) = map_drop a s

pub codes_part : (s : List ℕ) (a m : ℕ) → codes (part s a m) ≡ part (codes s) a m
unfolding codes
codes_part s a m = map_take m (drop a s) ∙ ap (λ (l : List ℕ). take m l) (map_drop a s)

-- ---- Read backward.
pub back_length : (k : ℕ) (cs : List ℕ) (l : ℕ) → length (back_to k cs l) ≡ l
unfolding back_to
back_length k cs zero = refl
back_length k cs (suc l) = ap suc (back_length k cs l)

-- The entry of the state after all letters is the last place.
pub last_place : (k : ℕ) (cs : List ℕ) (i : ℕ) (q : Kmer) → i ≤ length cs → length cs ≤ i → 0 < i → q ≡ kmer_after k cs i
    → (decode (entry_of k q) ≡ place_at k cs (length cs - 1)) × (entry_of k q / 2 < 4 ^ k)
last_place k cs i q h l some e =
    let same : i ≡ length cs - 1 + 1 = omega arith in
    (entry_place k cs (length cs - 1) q (e ∙ ap (kmer_after k cs) same), entry_below k cs i q e)

-- Place i, counted back from the last letter, from the c last letters up to it: k of them, or all.
pub back_part : (k : ℕ) (cs : List ℕ) (i from c : ℕ) → i + from + c ≡ length cs → 0 < c → (0 < from → k ≤ c)
    → place_at k (part cs from c) (length (part cs from c) - 1) ≡ back k cs i
back_part k cs i from c h some enough =
    let long = part_length cs from c (omega arith) in
    ap (λ (p : ℕ). place_at k (part cs from c) (p - 1)) long
    ∙ place_part cs from c k (c - 1) (length cs - 1 - i) (omega arith) (omega arith) (λ p. omega (arith, enough p))

module _ (k : ℕ) (cs : List ℕ) (i size : ℕ) (some : 0 < k) (h : i < length cs) (is : size ≡ min k (length cs - i)) where
  abbrev end : ℕ
  end = length cs - i

  same : end - (end - size) ≡ size
  same = omega arith

  pub slice_length : length (part cs (end - size) (end - (end - size))) ≡ size
  slice_length = rw same (part_length cs (end - size) size (omega arith))

  pub slice_place : place_at k (part cs (end - size) (end - (end - size))) (length (part cs (end - size) (end - (end - size))) - 1) ≡ back k cs i
  slice_place = rw same (back_part k cs i (end - size) size (omega arith) (omega arith) (λ p. omega arith))

-- After y letters of those that are needed the state is q, and the entries of the places whose letters were read are written: m of them, place i, counted back, the first.
pub record Written (k : ℕ) (cs : List ℕ) (i m : ℕ) (letters : List ℕ) (y : ℕ) (q : Kmer) (entries : List ℕ) : Type 0 where
  pub long : length entries ≡ m
  pub state_is : q ≡ kmer_after k letters y
  pub place : (j : ℕ) → j < m → length letters ≤ j + y → decode (get_or entries j 0) ≡ back k cs (i + j)
  pub below : (j : ℕ) → j < m → length letters ≤ j + y → get_or entries j 0 / 2 < 4 ^ k

-- The letters needed: those of the m places, and k - 1 more at their old side or as many as there are.
module _ (k : ℕ) (cs : List ℕ) (i m from : ℕ) (some : 0 < k) (fits : i + m ≤ length cs) (from_is : from ≡ length cs - i - m - min (k - 1) (length cs - i - m)) where
  abbrev needed : List ℕ
  needed = part cs from (length cs - i - from)

  needed_long : length needed ≡ length cs - i - from
  needed_long = part_length cs from (length cs - i - from) (omega arith)

  needed_place : (y j : ℕ) (q : Kmer) → j < m → y + j + 1 ≡ length cs - i - from → q ≡ kmer_after k needed (y + 1)
      → (decode (entry_of k q) ≡ back k cs (i + j)) × (entry_of k q / 2 < 4 ^ k)
  needed_place y j q h e r = (
    entry_place k needed y q r ∙ place_part cs from (length cs - i - from) k y (length cs - 1 - (i + j)) (omega arith) (omega arith) (λ p. omega arith),
    entry_below k needed (y + 1) q r,
  )

  pub written_none : (q : Kmer) (entries : List ℕ) → length entries ≡ m → q ≡ no_letter → Written k cs i m needed 0 q entries
  written_none q entries l e =
      record {
        long = l;
        state_is = e ∙ kmer_none k needed;
        place = λ j h n. absurd (let z : ⊥ = omega (arith, needed_long) in z);
        below = λ j h n. absurd (let z : ⊥ = omega (arith, needed_long) in z);
      }

  module _ (y : ℕ) (q r : Kmer) (entries : List ℕ) (W : Written k cs i m needed y q entries) (h : y < length needed) (next : r ≡ rolled_on k q (get_or needed y 0)) where
    abbrev at : ℕ
    at = length needed - 1 - y

    state_next : r ≡ kmer_after k needed (y + 1)
    state_next = kmer_next k needed y q W.state_is r h next

    pub written_one : at < m → Written k cs i m needed (y + 1) r (set entries at (entry_of k r))
    written_one in_m =
        let long = W.long in
        let own = needed_place y at r in_m (omega (arith, needed_long)) state_next in
        let here : get_or (set entries at (entry_of k r)) at 0 ≡ entry_of k r = get_or-set_same entries at (entry_of k r) 0 (omega arith) in
        record {
          long = length-set entries at (entry_of k r) ∙ W.long;
          state_is = state_next;
          place = λ j l n.
              ⊎_elim
              (λ (e : j ≡ at). subst (λ (x : ℕ). decode (get_or (set entries at (entry_of k r)) x 0) ≡ back k cs (i + x)) (sym e) (ap decode here ∙ own.0))
              (λ (e : j ≡ at → ⊥). ap decode (get_or-set_other entries at j (entry_of k r) 0 e) ∙ W.place j l (let z : length needed ≤ j + y = apart_from j e n in z))
              (same_or j at);
          below = λ j l n.
              ⊎_elim
              (λ (e : j ≡ at). subst (λ (x : ℕ). get_or (set entries at (entry_of k r)) x 0 / 2 < 4 ^ k) (sym e) (subst (λ (x : ℕ). x / 2 < 4 ^ k) (sym here) own.1))
              (λ (e : j ≡ at → ⊥). subst (λ (x : ℕ). x / 2 < 4 ^ k) (sym (get_or-set_other entries at j (entry_of k r) 0 e)) (W.below j l (apart_from j e n)))
              (same_or j at);
        }
      where
        same_or : (a b : ℕ) → (a ≡ b) ⊎ (a ≡ b → ⊥)
        same_or a b = by (eqb a b) refl
          where
            by : (t : Bool) → eqb a b ≡ t → (a ≡ b) ⊎ (a ≡ b → ⊥)
            by true e = inl (eqb-true a b e)
            by false e = inr (λ p. true≢false (sym (eq-eqb a b p) ∙ e))

        apart_from : (j : ℕ) → (j ≡ at → ⊥) → length needed ≤ j + (y + 1) → length needed ≤ j + y
        apart_from j e n = ⊎_elim (λ (p : length needed ≡ suc (j + y)). absurd (e (omega arith))) (λ (p : length needed < suc (j + y)). omega arith) (eq-or-lt_of_le (let z : length needed ≤ suc (j + y) = omega arith in z))

    pub written_other : m ≤ at → Written k cs i m needed (y + 1) r entries
    written_other past =
        record {
          long = W.long;
          state_is = state_next;
          place = λ j l n. W.place j l (omega arith);
          below = λ j l n. W.below j l (omega arith);
        }

-- The letters from `from` to place b hold the last `steps` places up to b.
module _ (k : ℕ) (s : List ℕ) (b steps m from : ℕ) (inside : b < length s) (some : 0 < k) (few : steps ≤ b + 1) (m_is : m ≡ min (steps + k - 1) (b + 1)) (from_is : from ≡ b + 1 - m) where
  back_at : (i : ℕ) → i < steps → back k (part s from m) i ≡ place_at k s (b - i)
  back_at i h =
      let long = part_length s from m (omega arith) in
      ap (λ (n : ℕ). place_at k (part s from m) (n - 1 - i)) long
      ∙ place_part s from m k (m - 1 - i) (b - i) (omega arith) (omega arith) (λ p. omega arith)

  pub back_stretch : (l : ℕ) → l ≤ steps → back_to k (part s from m) l ≡ stretch (places k s) (b + 1 - l) l
  unfolding back_to
  back_stretch zero h = refl
  back_stretch (suc l) h =
      let p : ℕ = b - l in
      let same : b + 1 - suc l ≡ p = omega arith in
      let next : p + 1 ≡ b + 1 - l = omega arith in
      ap₂ (λ (x : Place) (q : List Place). x ∷ q) (back_at l (omega arith)) (back_stretch l (omega arith) ∙ ap (λ (n : ℕ). take l (drop n (places k s))) (sym next))
      ∙ sym (ap (λ (n : ℕ). take (suc l) (drop n (places k s))) same ∙ ap (λ (q : List Place). take (suc l) q) (places_drop k s p (omega arith)))

-- The laws by which `last_entry` is proved.
pub ruleset rolling = (kmer_none, kmer_next, run_few, value_small, last_place)

-- The laws by which `entry_back` is proved.
pub ruleset slices = (slice_length, slice_place)

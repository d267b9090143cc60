-- The copy, byte by byte and interval by interval.
use Rattle.std.proofs.Common.{◌≡◌, refl, sym, ap, ◌∙◌, Bool, true, false, ◌&&◌, ◌||◌, cond, ⊎_elim, List, [], ◌∷◌, ◌++◌, map, ℕ, ◌+◌, ◌-◌, ◌≤◌, ◌<◌, min, arith, ltb, leb, set, length, take, drop, get_or, length-append, length-drop, drop_of_length-le, ext_get_or, get_or-append-add, get_or-take, get_or-drop, length-take-le}
use borrow.Author.Tests.{lt-ltb, le-ltb, le-leb, lt-leb}
use lib.ListN.{length-map, get_or-map, get_or-append}
use Rattle.std.proofs.lemmas.List.Edits.{map_over_more}
use Rattle.std.proofs.lemmas.List.{get_or_default}
use borrow.Rule.Slice.PartMut.{put_mid}
use Rattle.buffers.proofs.At.{default_free}
use Rattle.buffers.proofs.Filling.{part, part_turn, part_end}
use Rattle.buffers.proofs.Tabulate.{tabulate_length, tabulate_at}
use Rattle.intervals.specs.declared.Interval.{Interval}
use Rattle.intervals.specs.Interval.{interval, covered}
use Rattle.intervals.proofs.Order.{lt_or_le}
use Rattle.intervals.proofs.Slice.{list_next}
use Rattle.masked_copy.specs.declared.Masking.{Masking}
use Rattle.masked_copy.specs.declared.Masking.TheVariants.{LowerCase, Replace}
use Rattle.masked_copy.specs.Copy.{lower, shown, byte_at, copy_of}

pub lower_letter : (b : ℕ) → 65 ≤ b → b ≤ 90 → lower b ≡ b + 32
unfolding lower
lower_letter b h k = rw (le-leb 65 b h, le-leb b 90 k)

pub lower_below : (b : ℕ) → b < 65 → lower b ≡ b
unfolding lower
lower_below b h = rw (lt-leb 65 b h)

pub lower_above : (b : ℕ) → 90 < b → lower b ≡ b
unfolding lower
lower_above b h = rw (le-leb 65 b (omega arith), lt-leb b 90 h)

-- A letter in lower case, one A to Z taken apart from the others.
pub lower_cases : (P : ℕ → ℕ → Type 0) (b : ℕ) → (b < 65 → P b b) → (90 < b → P b b) → (65 ≤ b → b ≤ 90 → P b (b + 32)) → P b (lower b)
lower_cases P b p q r =
    ⊎_elim
    (λ h. rw (lower_below b h) (p h))
    (λ h. ⊎_elim (λ k. rw (lower_above b k) (q k)) (λ k. rw (lower_letter b h k) (r h k)) (lt_or_le 90 b))
    (lt_or_le b 65)

lower_twice : (b : ℕ) → lower (lower b) ≡ lower b
lower_twice b =
    lower_cases (λ (x y : ℕ). lower y ≡ y) b (λ h. lower_below b h) (λ h. lower_above b h) (λ h k. lower_above (b + 32) (omega arith))

-- To mask a letter again changes nothing.
shown_twice : (m : Masking) (b : ℕ) → shown m (shown m b) ≡ shown m b
shown_twice LowerCase b = lower_twice b
shown_twice (Replace r) b = refl

module _ (m : Masking) where
  pub copy_length : (is : List Interval) (s : List ℕ) → length (copy_of m is s) ≡ length s
  unfolding copy_of
  copy_length is s = tabulate_length (byte_at m is s) (length s)

  pub copy_at : (is : List Interval) (s : List ℕ) (x : ℕ) → x < length s → get_or (copy_of m is s) x 0 ≡ byte_at m is s x
  unfolding copy_of
  copy_at is s x h = tabulate_at (byte_at m is s) (length s) x 0 h

  -- A list of as many bytes, each the one shown, is the copy.
  pub copy_is : (is : List Interval) (s l : List ℕ) → length l ≡ length s → ((x : ℕ) → x < length s → get_or l x 0 ≡ byte_at m is s x) → l ≡ copy_of m is s
  copy_is is s l e p =
      ext_get_or 0 l (copy_of m is s) (e ∙ sym (copy_length is s)) (λ x h. p x (omega arith) ∙ sym (copy_at is s x (omega arith)))

  pub copy_none : (s : List ℕ) → s ≡ copy_of m [] s
  unfolding covered
  copy_none s = copy_is [] s s refl (λ x h. refl)

  either : (p q : Bool) (b : ℕ) → let c : ℕ = cond (p || false) (shown m b) b in cond (p || q) (shown m b) b ≡ cond q (shown m c) c
  either true true b = sym (shown_twice m b)
  either true false b = refl
  either false q b = refl

  -- A list is masked interval by interval.
  pub copy_first : (i : Interval) (is : List Interval) (s : List ℕ) → copy_of m (i ∷ is) s ≡ copy_of m is (copy_of m (i ∷ []) s)
  unfolding covered
  copy_first i is s =
      let one : List ℕ = copy_of m (i ∷ []) s in
      copy_is is one (copy_of m (i ∷ is) s) (copy_length (i ∷ is) s ∙ sym (copy_length (i ∷ []) s))
      (λ x h.
      let k : x < length s = omega (arith, copy_length (i ∷ []) s) in
      copy_at (i ∷ is) s x k
      ∙ either (leb i.start x && ltb x i.end) (covered is x) (get_or s x 0)
      ∙ ap (λ (b : ℕ). cond (covered is x) (shown m b) b) (sym (copy_at (i ∷ []) s x k)))

-- One interval [a, e) of the list alone.
module _ (m : Masking) (a e : ℕ) (s : List ℕ) where
  held : (x : ℕ) → a ≤ x → x < e → shown m (get_or s x 0) ≡ byte_at m (interval a e ∷ []) s x
  unfolding covered
  held x h k = rw (le-leb a x h, lt-ltb x e k)

  before : (x : ℕ) → x < a → get_or s x 0 ≡ byte_at m (interval a e ∷ []) s x
  unfolding covered
  before x h = rw (lt-leb a x h)

  after : (x : ℕ) → e ≤ x → get_or s x 0 ≡ byte_at m (interval a e ∷ []) s x
  unfolding covered
  after x h = rw (le-ltb x e h) (go (leb a x))
    where
      go : (p : Bool) → get_or s x 0 ≡ cond ((p && false) || false) (shown m (get_or s x 0)) (get_or s x 0)
      go true = refl
      go false = refl

  -- It holds none of the letters.
  pub copy_outside : min e (length s) ≤ a → s ≡ copy_of m (interval a e ∷ []) s
  copy_outside h =
      copy_is m (interval a e ∷ []) s s refl
      (λ x k. ⊎_elim (λ l. before x l) (λ l. after x (omega arith)) (lt_or_le x a))

  -- The part from a to the end of the interval, or of the letters, is masked.
  pub copy_part : (to : ℕ) → to ≡ min e (length s) → a < to → (part : List ℕ) → part ≡ map (shown m) (take (to - a) (drop a s))
      → take a s ++ (part ++ drop (to - a) (drop a s)) ≡ copy_of m (interval a e ∷ []) s
  copy_part to t h part q =
      let front : length (take a s) ≡ a = length-take-le a s (omega arith) in
      let rest : length (drop a s) ≡ length s - a = length-drop a s in
      let middle : length (take (to - a) (drop a s)) ≡ to - a = length-take-le (to - a) (drop a s) (omega arith) in
      let long : length part ≡ to - a = ap length q ∙ length-map (take (to - a) (drop a s)) (shown m) ∙ middle in
      let past : List ℕ = drop (to - a) (drop a s) in
      let size : length past ≡ length s - to = length-drop (to - a) (drop a s) ∙ omega arith in
      copy_is m (interval a e ∷ []) s (take a s ++ (part ++ past))
      (length-append (take a s) (part ++ past) ∙ omega (arith, length-append part past))
      (λ x k. ⊎_elim
      (λ l. get_or-append (take a s) (part ++ past) 0 x (omega arith) ∙ get_or-take a s x 0 l ∙ before x l)
      (λ l.
      let y : ℕ = x - a in
      let xy : x ≡ length (take a s) + y = omega arith in
      ap (λ (z : ℕ). get_or (take a s ++ (part ++ past)) z 0) xy
      ∙ get_or-append-add (take a s) (part ++ past) y 0
      ∙ ⊎_elim
      (λ j.
      get_or-append part past 0 y (omega arith)
      ∙ default_free part y 0 (shown m 0) (omega arith)
      ∙ ap (λ (z : List ℕ). get_or z y (shown m 0)) q
      ∙ get_or-map (shown m) (take (to - a) (drop a s)) y 0
      ∙ ap (shown m) (get_or-take (to - a) (drop a s) y 0 j ∙ get_or-drop a s y 0 ∙ ap (λ (z : ℕ). get_or s z 0) (let e : a + y ≡ x = omega arith in e))
      ∙ held x l (omega arith))
      (λ j.
      let w : ℕ = y - (to - a) in
      let yw : y ≡ length part + w = omega arith in
      ap (λ (z : ℕ). get_or (part ++ past) z 0) yw
      ∙ get_or-append-add part past w 0
      ∙ get_or-drop (to - a) (drop a s) w 0
      ∙ get_or-drop a s (to - a + w) 0
      ∙ ap (λ (z : ℕ). get_or s z 0) (let e : a + (to - a + w) ≡ x = omega arith in e)
      ∙ after x (omega arith))
      (lt_or_le y (to - a)))
      (lt_or_le x a))

-- A loop over a list, which masks interval i in its turn.
module _ (m : Masking) (is : List Interval) (i : ℕ) where
  pub copy_turn : (s s' : List ℕ) → i < length is → s' ≡ copy_of m (get_or is i (interval 0 0) ∷ []) s
      → copy_of m (drop i is) s ≡ copy_of m (drop (i + 1) is) s'
  copy_turn s s' h e =
      ap (λ (js : List Interval). copy_of m js s) (list_next is i h)
      ∙ copy_first m (get_or is i (interval 0 0)) (drop (i + 1) is) s
      ∙ ap (λ (l : List ℕ). copy_of m (drop (i + 1) is) l) (sym e)

  pub copy_end : (s : List ℕ) → length is ≤ i → copy_of m (drop i is) s ≡ s
  copy_end s h = ap (λ (js : List Interval). copy_of m js s) (drop_of_length-le is h) ∙ sym (copy_none m s)

-- The same for an interval in one, as the code lends its part.
pub part_masked : (m : Masking) (i : Interval) (s part : List ℕ) (to : ℕ) → to ≡ min i.end (length s) → i.start < to
    → part ≡ map (shown m) (take (to - i.start) (drop i.start s)) → put_mid i.start (to - i.start) s part ≡ copy_of m (i ∷ []) s
part_masked m i s part to e h q = copy_part m i.start i.end s to e h part q

pub none_masked : (m : Masking) (i : Interval) (s : List ℕ) → min i.end (length s) ≤ i.start → s ≡ copy_of m (i ∷ []) s
none_masked m i s h = copy_outside m i.start i.end s h

-- A loop that masks the letters s of a part, which it left as l.
pub letter_masked : (m : Masking) (s l : List ℕ) (i v : ℕ) → i < length s → l ≡ map (shown m) (take i s) ++ drop i s → v ≡ shown m (get_or l i 0)
    → set l i v ≡ map (shown m) (take (i + 1) s) ++ drop (i + 1) s
letter_masked m s l i v h e q = let k : length l ≡ length s = ap length e ∙ omega (arith, length-append (map (shown m) (take i s)) (drop i s), length-map (take i s) (shown m), length-take-le i s, length-drop i s) in
    rw q (map_over_more (shown m) s l i (get_or l i 0) h e (get_or_default l i 0 (get_or l i 0) (omega arith)))

-- A loop that copies the letters s over the front of d, which is then l.
pub letter_copied : (s d l : List ℕ) (i v : ℕ) → i < length s → length s ≤ length d → l ≡ part s d i → v ≡ get_or s i 0 → set l i v ≡ part s d (i + 1)
letter_copied s d l i v h fits e q = part_turn s d l i 0 v e h fits q

pub ruleset of_letters = (letter_copied, part_end)

pub ruleset of_part = (letter_masked)

pub ruleset of_interval = (part_masked, none_masked)

pub ruleset of_list = (copy_turn, copy_end)

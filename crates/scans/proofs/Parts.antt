-- The straight parts of a ring: entries `from` to `to - 1` of the queue stand in one part before the ring's end and one past it, and the window's places are theirs, one part after the other.
use Rattle.std.proofs.Common.{◌≡◌, refl, sym, ap, ◌∙◌, subst, Bool, true, false, cond, List, [], ◌∷◌, ◌++◌, ◌⊎◌, inl, inr, ⊎_elim, ℕ, zero, suc, ◌+◌, ◌-◌, ◌/◌, ◌<◌, ◌≤◌, arith, length, get_or, take, drop, length-append, length-drop, length-take, ext_get_or, get_or-take, get_or-drop, get_or-append-add, ltb}
use lib.ListN.{get_or-append}
use borrow.Author.Tests.{ltb-true, ltb-false}
use Rattle.letters.specs.Place.{Place, ambiguous}
use Rattle.letters.specs.Terms.Entry.{decode, decoded}
use Rattle.letters.proofs.Entries.{decoded_length, decoded_at}
use Rattle.scans.specs.Terms.Window.{queue, ring_end, At, window}
use Rattle.scans.specs.Terms.Parts.{Queued, Coded}
use Rattle.scans.specs.Terms.Run.{entries_of, InParts, PartTo}
use Rattle.scans.specs.declared.run.Ring.{Ring}
use Rattle.scans.proofs.Rings.{queue_length, queue_at, window_length}

-- The places es stand in the window q from index `at` on.
pub record Stands (q es : List Place) (at : ℕ) : Type 0 where
  pub inside : at + length es ≤ length q
  pub is : drop at q ≡ es ++ drop (at + length es) q

module _ (q es : List Place) (at : ℕ) where
  stands_by : at + length es ≤ length q → ((j : ℕ) → j < length es → get_or q (at + j) ambiguous ≡ get_or es j ambiguous) → Stands q es at
  stands_by l same = record { inside = l; is = ext_get_or ambiguous (drop at q) (es ++ after) long (λ j k. go j (ltb j (length es)) refl) }
    where
      after : List Place
      after = drop (at + length es) q

      long : length (drop at q) ≡ length (es ++ after)
      long = omega (arith, length-drop at q, length-append es after, length-drop (at + length es) q)

      go : (j : ℕ) (b : Bool) → ltb j (length es) ≡ b → get_or (drop at q) j ambiguous ≡ get_or (es ++ after) j ambiguous
      go j true t = let h : j < length es = ltb-true j (length es) t in get_or-drop at q j ambiguous ∙ same j h ∙ sym (get_or-append es after ambiguous j h)
      go j false t =
          let h : length es ≤ j = ltb-false j (length es) t in
          let n : j ≡ length es + (j - length es) = omega arith in
          let m : at + length es + (j - length es) ≡ at + j = omega arith in
          get_or-drop at q j ambiguous
          ∙ sym (ap (λ (k : ℕ). get_or (es ++ after) k ambiguous) n ∙ get_or-append-add es after (j - length es) ambiguous ∙ get_or-drop (at + length es) q (j - length es) ambiguous
          ∙ ap (λ (k : ℕ). get_or q k ambiguous) m)

  pub stands_at : Stands q es at → (j : ℕ) → j < length es → get_or q (at + j) ambiguous ≡ get_or es j ambiguous
  stands_at s j h =
      sym (get_or-drop at q j ambiguous) ∙ ap (λ (z : List Place). get_or z j ambiguous) s.is ∙ get_or-append es (drop (at + length es) q) ambiguous j h

-- The newest of a part's numbers are the newest of its places, and stand where they stood.
pub decoded_drop : (u : ℕ) (part : List ℕ) → decoded (drop u part) ≡ drop u (decoded part)
unfolding decoded
decoded_drop zero part = refl
decoded_drop (suc u) [] = refl
decoded_drop (suc u) (e ∷ part) = decoded_drop u part

pub newest_stands : (q es : List Place) (at u : ℕ) → Stands q es at → u ≤ length es → Stands q (drop u es) (at + u)
newest_stands q es at u s l =
    stands_by q (drop u es) (at + u) (omega (arith, length-drop u es, s.inside))
    (λ j h.
    let n : at + u + j ≡ at + (u + j) = omega arith in
    ap (λ (z : ℕ). get_or q z ambiguous) n ∙ stands_at q es at s (u + j) (omega (arith, length-drop u es)) ∙ sym (get_or-drop u es j ambiguous))

-- ---- n numbers of the ring from index k on, as entries from `at` on.
module _ (ring : List ℕ) (head len k n at : ℕ) (h : head < length ring) (l : len ≤ length ring) (in_ring : k + n ≤ length ring) (in_queue : at + n ≤ len)
    (here : 0 < n → (k ≡ head + at) ⊎ (k + length ring ≡ head + at)) where
  abbrev part : List ℕ
  part = take n (drop k ring)

  pub part_length : length part ≡ n
  part_length = simp (length-take, length-drop) (omega arith)

  stood : (j : ℕ) → j < n → (k ≡ head + at) ⊎ (k + length ring ≡ head + at) → At (length ring) head (at + j) (k + j)
  stood j m (inl e) = (omega arith, inl (omega arith))
  stood j m (inr e) = (omega arith, inr (omega arith))

  entry_at : (j : ℕ) → j < n → get_or (queue ring head len) (at + j) 0 ≡ get_or part j 0
  entry_at j m =
      queue_at ring head len (at + j) (k + j) h l (omega arith) (stood j m (here (omega arith)))
      ∙ sym (get_or-take n (drop k ring) j 0 m ∙ get_or-drop k ring j 0)

  pub part_stands : Stands (window ring head len) (decoded part) at
  part_stands =
      let d : length (decoded part) ≡ n = decoded_length part ∙ part_length in
      let w : length (queue ring head len) ≡ len = queue_length ring head len h l in
      stands_by (window ring head len) (decoded part) at (omega (arith, window_length ring head len h l))
      (λ j m. decoded_at (queue ring head len) (at + j) (omega arith) ∙ ap decode (entry_at j (omega arith)) ∙ sym (decoded_at part j (omega (arith, part_length))))

  pub part_coded : {m : ℕ} → Queued ring head len m → Coded part m
  part_coded {m} r = record { below = λ j b. subst (λ (z : ℕ). z / 2 < m) (entry_at j (omega (arith, part_length))) (r.below (at + j) (omega (arith, part_length))) }

-- ---- The two parts of entries `from` to `to - 1`: indices a to b - 1 of the ring, and c to d - 1.
abbrev End : ℕ → ℕ → ℕ → Type 0
End w i e = (e ≤ w) × (e ≤ i) × ((e ≡ i) ⊎ (e ≡ w))

ring_end_is : (w head j : ℕ) → End w (head + j) (ring_end w head j)
ring_end_is w head j = go (ltb (head + j) w) refl
  where
    go : (b : Bool) → ltb (head + j) w ≡ b → End w (head + j) (cond b (head + j) w)
    go true e = let g : head + j < w = ltb-true (head + j) w e in (omega arith, omega arith, inl refl)
    go false e = (omega arith, ltb-false (head + j) w e, inr refl)

pub record Split (ring : List ℕ) (head len from to a b : ℕ) : Type 0 where
  pub head_in : head < length ring
  pub len_in : len ≤ length ring
  pub up : from ≤ to
  pub in_len : to ≤ len
  pub a_is : a ≡ ring_end (length ring) head from
  pub b_is : b ≡ ring_end (length ring) head to

module _ {ring : List ℕ} {head len from to a b : ℕ} (s : Split ring head len from to a b) where
  h : head < length ring
  h = s.head_in

  l : len ≤ length ring
  l = s.len_in

  abbrev w : ℕ
  w = length ring

  a_end : End w (head + from) a
  a_end = subst (λ (z : ℕ). End w (head + from) z) (sym s.a_is) (ring_end_is w head from)

  b_end : End w (head + to) b
  b_end = subst (λ (z : ℕ). End w (head + to) z) (sym s.b_is) (ring_end_is w head to)

  ends_ordered : (a ≤ b) × (b ≤ w) × (a ≤ head + from) × (b ≤ head + to)
  ends_ordered = go a_end.2 b_end.2
    where
      go : (a ≡ head + from) ⊎ (a ≡ w) → (b ≡ head + to) ⊎ (b ≡ w) → (a ≤ b) × (b ≤ w) × (a ≤ head + from) × (b ≤ head + to)
      go x y = (⊎_elim (λ p. ⊎_elim (λ q. omega (arith, s.head_in, s.len_in, s.up, s.in_len, a_end.0, a_end.1, b_end.0, b_end.1)) (λ q. omega (arith, s.head_in, s.len_in, s.up, s.in_len, a_end.0, a_end.1, b_end.0, b_end.1)) y) (λ p. ⊎_elim (λ q. omega (arith, s.head_in, s.len_in, s.up, s.in_len, a_end.0, a_end.1, b_end.0, b_end.1)) (λ q. omega (arith, s.head_in, s.len_in, s.up, s.in_len, a_end.0, a_end.1, b_end.0, b_end.1)) y) x, b_end.0, a_end.1, b_end.1)

  abbrev c : ℕ
  c = head + from - a

  abbrev d : ℕ
  d = head + to - b

  rest_ordered : (c ≤ d) × (d ≤ w) × (from + (b - a) + (d - c) ≡ to)
  rest_ordered = go a_end.2 b_end.2
    where
      go : (a ≡ head + from) ⊎ (a ≡ w) → (b ≡ head + to) ⊎ (b ≡ w) → (c ≤ d) × (d ≤ w) × (from + (b - a) + (d - c) ≡ to)
      go (inl p) (inl q) = (omega (arith, s.head_in, s.len_in, s.up, s.in_len, a_end.0, a_end.1, b_end.0, b_end.1), omega (arith, s.head_in, s.len_in, s.up, s.in_len, a_end.0, a_end.1, b_end.0, b_end.1), omega (arith, s.head_in, s.len_in, s.up, s.in_len, a_end.0, a_end.1, b_end.0, b_end.1))
      go (inl p) (inr q) = (omega (arith, s.head_in, s.len_in, s.up, s.in_len, a_end.0, a_end.1, b_end.0, b_end.1), omega (arith, s.head_in, s.len_in, s.up, s.in_len, a_end.0, a_end.1, b_end.0, b_end.1), omega (arith, s.head_in, s.len_in, s.up, s.in_len, a_end.0, a_end.1, b_end.0, b_end.1))
      go (inr p) (inl q) = (omega (arith, s.head_in, s.len_in, s.up, s.in_len, a_end.0, a_end.1, b_end.0, b_end.1), omega (arith, s.head_in, s.len_in, s.up, s.in_len, a_end.0, a_end.1, b_end.0, b_end.1), omega (arith, s.head_in, s.len_in, s.up, s.in_len, a_end.0, a_end.1, b_end.0, b_end.1))
      go (inr p) (inr q) = (omega (arith, s.head_in, s.len_in, s.up, s.in_len, a_end.0, a_end.1, b_end.0, b_end.1), omega (arith, s.head_in, s.len_in, s.up, s.in_len, a_end.0, a_end.1, b_end.0, b_end.1), omega (arith, s.head_in, s.len_in, s.up, s.in_len, a_end.0, a_end.1, b_end.0, b_end.1))

  pub ordered : (a ≤ b) × (b ≤ w) × (a ≤ head + from) × (b ≤ head + to) × (c ≤ d) × (d ≤ w) × (from + (b - a) + (d - c) ≡ to)
  ordered = (ends_ordered.0, ends_ordered.1, ends_ordered.2, ends_ordered.3, rest_ordered.0, rest_ordered.1, rest_ordered.2)

  older_here : 0 < b - a → (a ≡ head + from) ⊎ (a + w ≡ head + from)
  older_here some = go a_end.2
    where
      go : (a ≡ head + from) ⊎ (a ≡ w) → (a ≡ head + from) ⊎ (a + w ≡ head + from)
      go (inl p) = inl p
      go (inr p) = absurd (let z : ⊥ = omega (arith, s.head_in, s.len_in, s.up, s.in_len, a_end.0, a_end.1, b_end.0, b_end.1) in z)

  newer_here : 0 < d - c → (c ≡ head + (from + (b - a))) ⊎ (c + w ≡ head + (from + (b - a)))
  newer_here some = go a_end.2 b_end.2
    where
      go : (a ≡ head + from) ⊎ (a ≡ w) → (b ≡ head + to) ⊎ (b ≡ w) → (c ≡ head + (from + (b - a))) ⊎ (c + w ≡ head + (from + (b - a)))
      go x (inl q) = absurd (let z : ⊥ = omega (arith, s.head_in, s.len_in, s.up, s.in_len, a_end.0, a_end.1, b_end.0, b_end.1) in z)
      go (inl p) (inr q) = inr (omega (arith, s.head_in, s.len_in, s.up, s.in_len, a_end.0, a_end.1, b_end.0, b_end.1))
      go (inr p) (inr q) = inr (omega (arith, s.head_in, s.len_in, s.up, s.in_len, a_end.0, a_end.1, b_end.0, b_end.1))

  older_fits : (a + (b - a) ≤ w) × (from + (b - a) ≤ len)
  older_fits = (omega (arith, ends_ordered), omega (arith, rest_ordered, s.in_len))

  newer_fits : (c + (d - c) ≤ w) × (from + (b - a) + (d - c) ≤ len)
  newer_fits = (omega (arith, rest_ordered), omega (arith, rest_ordered, s.in_len))

  abbrev pub older : List ℕ
  older = take (b - a) (drop a ring)

  abbrev pub newer : List ℕ
  newer = take (d - c) (drop c ring)

  pub older_length : length older ≡ b - a
  older_length = part_length ring head len a (b - a) from h l older_fits.0 older_fits.1 older_here

  pub newer_length : length newer ≡ d - c
  newer_length = part_length ring head len c (d - c) (from + (b - a)) h l newer_fits.0 newer_fits.1 newer_here

  pub older_stands : Stands (window ring head len) (decoded older) from
  older_stands = part_stands ring head len a (b - a) from h l older_fits.0 older_fits.1 older_here

  pub newer_stands : Stands (window ring head len) (decoded newer) (from + (b - a))
  newer_stands = part_stands ring head len c (d - c) (from + (b - a)) h l newer_fits.0 newer_fits.1 newer_here

  pub older_coded : {m : ℕ} → Queued ring head len m → Coded older m
  older_coded r = part_coded ring head len a (b - a) from h l older_fits.0 older_fits.1 older_here r

  pub newer_coded : {m : ℕ} → Queued ring head len m → Coded newer m
  newer_coded r = part_coded ring head len c (d - c) (from + (b - a)) h l newer_fits.0 newer_fits.1 newer_here r

  -- One part after the other.
  pub both_parts : drop from (window ring head len) ≡ decoded older ++ (decoded newer ++ drop to (window ring head len))
  both_parts =
      let q : List Place = window ring head len in
      let n : from + length (decoded older) ≡ from + (b - a) = ap (λ (z : ℕ). from + z) (decoded_length older ∙ older_length) in
      let m : from + (b - a) + length (decoded newer) ≡ to = ap (λ (z : ℕ). from + (b - a) + z) (decoded_length newer ∙ newer_length) ∙ rest_ordered.2 in
      older_stands.is ∙ ap (λ (z : ℕ). decoded older ++ drop z q) n ∙ ap (λ (z : List Place). decoded older ++ z) (newer_stands.is ∙ ap (λ (z : ℕ). decoded newer ++ drop z q) m)

pub in_parts : (r : Ring) (from to a b : ℕ) → from ≤ to → to ≤ r.len → a ≡ ring_end (length r.queue.now) r.head from → b ≡ ring_end (length r.queue.now) r.head to
    → InParts r from to (take (b - a) (drop a r.queue.now)) (take (r.head + to - b - (r.head + from - a)) (drop (r.head + from - a) r.queue.now))
in_parts r from to a b up in_len a_is b_is =
    let s : Split r.queue.now r.head r.len from to a b = record { head_in = r.head_in; len_in = r.len_in; up = up; in_len = in_len; a_is = a_is; b_is = b_is } in
    record { both = both_parts s; long = omega (arith, older_length s, newer_length s, ordered s); older_coded = older_coded s; newer_coded = newer_coded s }

-- The n entries before `low` stand from index k on.
pub part_to : (r : Ring) (low k n : ℕ) → 0 < n → n ≤ low → low ≤ r.len → k + n ≤ length r.queue.now → (k ≡ r.head + (low - n)) ⊎ (k + length r.queue.now ≡ r.head + (low - n)) → PartTo r low (take n (drop k r.queue.now))
part_to r low k n some inside in_len in_ring here =
    let ring : List ℕ = r.queue.now in
    let to : low - n + n ≤ r.len = omega arith in
    let long : length (take n (drop k ring)) ≡ n = part_length ring r.head r.len k n (low - n) r.head_in r.len_in in_ring to (λ _. here) in
    let s : Stands (entries_of r) (decoded (take n (drop k ring))) (low - n) = part_stands ring r.head r.len k n (low - n) r.head_in r.len_in in_ring to (λ _. here) in
    let end : low - n + length (decoded (take n (drop k ring))) ≡ low = omega (arith, decoded_length (take n (drop k ring)), long) in
    let from : low - length (take n (drop k ring)) ≡ low - n = omega (arith, long) in
    record {
      some = omega (arith, long);
      inside = omega (arith, long);
      stands = ap (λ (z : ℕ). drop z (entries_of r)) from ∙ s.is ∙ ap (λ (z : ℕ). decoded (take n (drop k ring)) ++ drop z (entries_of r)) end;
      coded = part_coded ring r.head r.len k n (low - n) r.head_in r.len_in in_ring to (λ _. here);
    }

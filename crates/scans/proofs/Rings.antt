-- The queue in a ring: the index of its j-th entry, its length, the entry that joins and the one that leaves; and the same of the window's places.
use Rattle.std.proofs.Common.{◌≡◌, refl, sym, ap, ◌∙◌, subst, Bool, true, false, cond, List, [], ◌∷◌, ◌++◌, ◌⊎◌, inl, inr, ⊎_elim, ℕ, zero, suc, ◌+◌, ◌-◌, ◌<◌, ◌≤◌, arith, eq-or-lt_of_le, add-one, length, get_or, set, take, drop, length-append, length-drop, length-take, length-set, ext_get_or, get_or-take, get_or-drop, get_or-append-add, get_or-set_same, get_or-set_other, ltb}
use mathlib.Core.List.{map-append}
use lib.ListN.{get_or-append}
use lib.Seq.{get_or_at, set-get_or}
use borrow.Author.Tests.{ltb-true, ltb-false}
use Rattle.letters.specs.Place.{ambiguous}
use Rattle.letters.specs.Terms.Entry.{decode, decoded}
use Rattle.letters.proofs.Entries.{decoded_length, decoded_at}
use Rattle.scans.specs.declared.run.Ring.{Ring}
use Rattle.scans.specs.Terms.Window.{queue, ring_index, At, window, newest_in}
use Rattle.scans.specs.Terms.Run.{entries_of}

at_by : (w head j : ℕ) (b : Bool) → ltb (head + j) w ≡ b → head < w → j ≤ w → At w head j (cond b (head + j) (head + j - w))
at_by w head j true e h k = (ltb-true _ _ e, inl refl)
at_by w head j false e h k = let g : w ≤ head + j = ltb-false _ _ e in (omega arith, inr (omega arith))

pub ring_index_at : (w head j : ℕ) → head < w → j ≤ w → At w head j (ring_index w head j)
ring_index_at w head j = at_by w head j (ltb (head + j) w) refl

-- The index that the code finds for the j-th entry.
pub index_at : (w head j i : ℕ) → head < w → j ≤ w → i ≡ ring_index w head j → At w head j i
index_at w head j i h l e = subst (λ (z : ℕ). At w head j z) (sym e) (ring_index_at w head j h l)

-- Two entries stand apart.
apart : (w head i j a b : ℕ) → i < j → j < w → At w head i a → At w head j b → a ≡ b → ⊥
apart w head i j a b h k x y e =
    ⊎_elim (λ p. ⊎_elim (λ q. omega arith) (λ q. omega arith) y.1) (λ p. ⊎_elim (λ q. omega arith) (λ q. omega arith) y.1) x.1

-- An entry after the first, counted from the next head.
after_first : (w head j n a b : ℕ) → At w head 1 n → At w n j a → At w head (suc j) b → a ≡ b
after_first w head j n a b x y z =
    ⊎_elim
    (λ p. ⊎_elim (λ q. ⊎_elim (λ r. omega arith) (λ r. omega arith) z.1) (λ q. ⊎_elim (λ r. omega arith) (λ r. omega arith) z.1) y.1)
    (λ p. ⊎_elim (λ q. ⊎_elim (λ r. omega arith) (λ r. omega arith) z.1) (λ q. ⊎_elim (λ r. omega arith) (λ r. omega arith) z.1) y.1)
    x.1

pub queue_length : (ring : List ℕ) (head len : ℕ) → head < length ring → len ≤ length ring → length (queue ring head len) ≡ len
unfolding queue
queue_length ring head len h l = simp (length-take, length-append, length-drop) (omega arith)

pub queue_at : (ring : List ℕ) (head len j i : ℕ) → head < length ring → len ≤ length ring → j < len → At (length ring) head j i → get_or (queue ring head len) j 0 ≡ get_or ring i 0
unfolding queue
queue_at ring head len j i h l k (p, inl e) =
    let n : j < length (drop head ring) = simp length-drop (omega arith) in
    rw (get_or-take, get_or-append, get_or-drop, e)
queue_at ring head len j i h l k (p, inr e) =
    let n : j ≡ length (drop head ring) + i = simp length-drop (omega arith) in
    get_or-take len (drop head ring ++ take head ring) j 0 k
    ∙ ap (λ (x : ℕ). get_or (drop head ring ++ take head ring) x 0) n
    ∙ get_or-append-add (drop head ring) (take head ring) i 0
    ∙ get_or-take head ring i 0 (omega arith)

module _ (ring : List ℕ) (head len e : ℕ) (h : head < length ring) (l : len < length ring) where
  abbrev next : ℕ
  next = ring_index (length ring) head len

  next_at : At (length ring) head len next
  next_at = ring_index_at (length ring) head len h (omega arith)

  stored : (j : ℕ) → j ≤ len → get_or (queue (set ring next e) head (len + 1)) j 0 ≡ get_or (set ring next e) (ring_index (length ring) head j) 0
  stored j k =
      let n : length (set ring next e) ≡ length ring = length-set ring next e in
      queue_at (set ring next e) head (len + 1) j (ring_index (length ring) head j) (omega arith) (omega arith) (omega arith)
      (rw n (ring_index_at (length ring) head j h (omega arith)))

  joined_at : (j : ℕ) → (j ≡ len) ⊎ (j < len) → get_or (queue (set ring next e) head (len + 1)) j 0 ≡ get_or (queue ring head len ++ e ∷ []) j 0
  joined_at j (inl q) =
      stored j (omega arith) ∙ ap (λ (x : ℕ). get_or (set ring next e) (ring_index (length ring) head x) 0) q
      ∙ get_or-set_same ring next e 0 next_at.0
      ∙ sym (get_or_at (queue ring head len) e [] 0 j (queue_length ring head len h (omega arith) ∙ sym q))
  joined_at j (inr k) =
      let n : length (queue ring head len) ≡ len = queue_length ring head len h (omega arith) in
      let at : At (length ring) head j (ring_index (length ring) head j) = ring_index_at (length ring) head j h (omega arith) in
      stored j (omega arith)
      ∙ get_or-set_other ring next (ring_index (length ring) head j) e 0 (apart (length ring) head j len _ _ k l at next_at)
      ∙ sym (queue_at ring head len j (ring_index (length ring) head j) h (omega arith) k at)
      ∙ sym (get_or-append (queue ring head len) (e ∷ []) 0 j (omega arith))

  -- An entry that is stored past the last one joins the queue.
  pub queue_join : queue (set ring (ring_index (length ring) head len) e) head (len + 1) ≡ queue ring head len ++ e ∷ []
  queue_join =
      let n : length (set ring next e) ≡ length ring = length-set ring next e in
      let a : length (queue (set ring next e) head (len + 1)) ≡ len + 1 = queue_length (set ring next e) head (len + 1) (omega arith) (omega arith) in
      let b : length (queue ring head len) ≡ len = queue_length ring head len h (omega arith) in
      ext_get_or 0 _ _ (a ∙ sym (length-append (queue ring head len) (e ∷ []) ∙ ap (λ (x : ℕ). x + 1) b))
      (λ i k. joined_at i (eq-or-lt_of_le (omega arith)))

  pub window_join : window (set ring (ring_index (length ring) head len) e) head (len + 1) ≡ window ring head len ++ decode e ∷ []
  unfolding decoded
  window_join = ap decoded queue_join ∙ map-append decode (queue ring head len) (e ∷ [])

module _ (ring : List ℕ) (head len : ℕ) (h : head < length ring) (l : len < length ring) where
  abbrev second : ℕ
  second = ring_index (length ring) head 1

  second_at : At (length ring) head 1 second
  second_at = ring_index_at (length ring) head 1 h (omega arith)

  left_at : (j : ℕ) → j < len + 1 → get_or (queue ring head (len + 1)) j 0 ≡ get_or (get_or ring head 0 ∷ queue ring second len) j 0
  left_at zero k = queue_at ring head (len + 1) 0 head h (omega arith) k (h, inl (omega arith))
  left_at (suc j) k =
      let from : At (length ring) head (suc j) (ring_index (length ring) head (suc j)) = ring_index_at (length ring) head (suc j) h (omega arith) in
      let to : At (length ring) second j (ring_index (length ring) second j) = ring_index_at (length ring) second j second_at.0 (omega arith) in
      queue_at ring head (len + 1) (suc j) _ h (omega arith) k from
      ∙ ap (λ (x : ℕ). get_or ring x 0) (sym (after_first (length ring) head j second _ _ second_at to from))
      ∙ sym (queue_at ring second len j _ second_at.0 (omega arith) (omega arith) to)

  -- The oldest entry stands at the head, and the others are the queue from the next index on.
  pub queue_leave : queue ring head (len + 1) ≡ get_or ring head 0 ∷ queue ring (ring_index (length ring) head 1) len
  queue_leave =
      let a : length (queue ring head (len + 1)) ≡ len + 1 = queue_length ring head (len + 1) h (omega arith) in
      let b : length (queue ring second len) ≡ len = queue_length ring second len second_at.0 (omega arith) in
      ext_get_or 0 _ _ (a ∙ add-one len ∙ ap suc (sym b)) (λ i k. left_at i (omega arith))

  pub window_leave : window ring head (len + 1) ≡ decode (get_or ring head 0) ∷ window ring (ring_index (length ring) head 1) len
  unfolding decoded
  window_leave = ap decoded queue_leave

pub window_length : (ring : List ℕ) (head len : ℕ) → head < length ring → len ≤ length ring → length (window ring head len) ≡ len
window_length ring head len h l = decoded_length (queue ring head len) ∙ queue_length ring head len h l

pub window_at : (ring : List ℕ) (head len j i : ℕ) → head < length ring → len ≤ length ring → j < len → At (length ring) head j i
    → get_or (window ring head len) j ambiguous ≡ decode (get_or ring i 0)
window_at ring head len j i h l k at =
    let n : length (queue ring head len) ≡ len = queue_length ring head len h l in
    decoded_at (queue ring head len) j (omega arith) ∙ ap decode (queue_at ring head len j i h l k at)

-- The newest entry of a window.
pub window_newest : (ring : List ℕ) (head len : ℕ) → head < length ring → 0 < len → len ≤ length ring
    → window ring head len ≡ window ring head (len - 1) ++ decode (get_or ring (ring_index (length ring) head (len - 1)) 0) ∷ []
window_newest ring head len h some l =
    let i : ℕ = ring_index (length ring) head (len - 1) in
    let n : len ≡ len - 1 + 1 = omega arith in
    ap (λ (m : ℕ). window ring head m) n
    ∙ ap (λ (z : List ℕ). window z head (len - 1 + 1)) (sym (set-get_or ring i 0))
    ∙ window_join ring head (len - 1) (get_or ring i 0) h (omega arith)

-- A ring holds as many entries as it says.
pub entries_long : (r : Ring) → length (entries_of r) ≡ r.len
entries_long r = window_length r.queue.now r.head r.len r.head_in r.len_in

-- The newest entry of a queue.
pub newest_at : (ring : List ℕ) (head len i : ℕ) → head < length ring → 0 < len → len ≤ length ring → i ≡ ring_index (length ring) head (len - 1) → get_or ring i 0 ≡ newest_in ring head len
newest_at ring head len i h some l e = sym (queue_at ring head len (len - 1) i h l (omega arith) (index_at (length ring) head (len - 1) i h (omega arith) e))

pub ruleset of_newest = (newest_at)

-- Entries of a ring are counted one after the other, from place `from` on.
use Rattle.std.proofs.Common.{◌≡◌, refl, sym, ap, ◌∙◌, subst, ℕ, suc, ◌+◌, ◌-◌, ◌/◌, ◌≤◌, ◌<◌, arith, List, [], ◌∷◌, ◌++◌, length, get_or, take, drop, length-take, length-drop, take-suc, get_or-drop}
use Rattle.letters.specs.Place.{Place, ambiguous, plain, BelowAt}
use Rattle.letters.specs.Terms.Entry.{decode}
use Rattle.letters.proofs.Entries.{decode_plain, plain_even, decoded_at}
use Rattle.scans.specs.Counts.{raise}
use Rattle.scans.specs.Terms.Counted.{Counted}
use Rattle.scans.specs.Terms.Window.{queue, window, ring_index}
use Rattle.scans.specs.Terms.Parts.{Queued}
use Rattle.scans.proofs.Counting.{count_le, raise_counted}
use Rattle.scans.proofs.Rings.{ring_index_at, queue_at, queue_length, window_length}

module _ (ring : List ℕ) (head len m : ℕ) (Q : Queued ring head len m) (from i : ℕ) (from_in : from ≤ i) (inside : i < len) (entry : ℕ) (is : entry ≡ get_or ring (ring_index (length ring) head i) 0) where
  abbrev q : List Place
  q = window ring head len

  at : get_or (queue ring head len) i 0 ≡ entry
  at = queue_at ring head len i (ring_index (length ring) head i) Q.head_in Q.len_in inside (ring_index_at (length ring) head i Q.head_in (omega (arith, Q.len_in))) ∙ sym is

  pub entry_below : entry / 2 < m
  entry_below = subst (λ (x : ℕ). x / 2 < m) at (Q.below i inside)

  place_is : get_or q i ambiguous ≡ decode entry
  place_is = decoded_at (queue ring head len) i (omega (arith, queue_length ring head len Q.head_in Q.len_in)) ∙ ap decode at

  grows : take (suc i - from) (drop from q) ≡ take (i - from) (drop from q) ++ decode entry ∷ []
  grows =
      let l = window_length ring head len Q.head_in Q.len_in in
      let x : suc i - from ≡ suc (i - from) = omega arith in
      let y : from + (i - from) ≡ i = omega arith in
      ap (λ (k : ℕ). take k (drop from q)) x ∙ take-suc (drop from q) (i - from) ambiguous (omega (arith, length-drop from q, l))
      ∙ ap (λ (p : Place). take (i - from) (drop from q) ++ p ∷ []) (get_or-drop from q (i - from) ambiguous ∙ ap (λ (k : ℕ). get_or q k ambiguous) y ∙ place_is)

  module _ (counts : List ℕ) (C : Counted m counts (take (i - from) (drop from q))) where
    pub entry_room : (x : ℕ) → get_or counts x 0 < 65535
    entry_room x = omega (arith, C.counted x, count_le x (take (i - from) (drop from q)), length-take (i - from) (drop from q), Q.len_in, Q.small)

    pub entry_counted : Counted m (raise counts (decode entry)) (take (suc i - from) (drop from q))
    entry_counted = subst (λ (r : List Place). Counted m (raise counts (decode entry)) r) (sym grows) (raise_counted m counts (take (i - from) (drop from q)) (decode entry) (below_at (decode entry) refl) C)
      where
        below_at : (p : Place) → decode entry ≡ p → BelowAt m p
        below_at ambiguous d = tt
        below_at (plain x) d =
            let even = plain_even entry x d in
            let x_is : plain (entry / 2) ≡ plain x = sym (decode_plain entry even) ∙ d in
            subst (λ (p : Place). BelowAt m p) x_is entry_below

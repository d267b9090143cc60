-- The front of a window in its ring: one entry more, and its count.
use Rattle.std.proofs.Common.{◌≡◌, refl, sym, ap, ◌∙◌, subst, ℕ, ◌-◌, ◌/◌, ◌%◌, ◌≤◌, ◌<◌, arith, List, [], ◌∷◌, ◌++◌, length, get_or, take, take_at, Option}
use Rattle.std.specs.Option.{unwrap_or}
use Rattle.letters.specs.Place.{Place, ambiguous, plain, BelowAt}
use Rattle.letters.specs.Terms.Entry.{decode, decoded}
use Rattle.letters.proofs.Entries.{decode_plain, plain_even}
use Rattle.scans.specs.Counts.{count, raise}
use Rattle.scans.specs.Terms.Counted.{Counted}
use Rattle.scans.specs.Terms.Window.{queue, window, ring_index, newest_in, raised_count}
use Rattle.scans.specs.Terms.Parts.{Queued}
use Rattle.scans.proofs.Counting.{count_snoc, count_le, hit_self, raise_counted}
use Rattle.scans.proofs.Rings.{ring_index_at, queue_at, window_length, window_newest, newest_at}

pub front_none : (ring : List ℕ) (head : ℕ) → window ring head 0 ≡ []
unfolding queue decoded
front_none ring head = refl

module _ (ring : List ℕ) (head len whole m : ℕ) (Q : Queued ring head whole m) (some : 0 < len) (inside : len ≤ whole) where
  abbrev e : ℕ
  e = newest_in ring head len

  abbrev i : ℕ
  i = ring_index (length ring) head (len - 1)

  newest_is : get_or ring i 0 ≡ e
  newest_is = newest_at ring head len i Q.head_in some (omega (arith, Q.len_in)) refl

  pub grown : window ring head len ≡ window ring head (len - 1) ++ decode e ∷ []
  grown = window_newest ring head len Q.head_in some (omega (arith, Q.len_in)) ∙ ap (λ (x : ℕ). window ring head (len - 1) ++ decode x ∷ []) newest_is

  pub front : take (len - 1) (window ring head len) ≡ window ring head (len - 1)
  front =
      ap (take (len - 1)) grown
      ∙ take_at (window ring head (len - 1)) (decode e ∷ []) (len - 1) (omega (arith, window_length ring head (len - 1) Q.head_in (omega (arith, Q.len_in))))

  pub below : e / 2 < m
  below =
      let at = queue_at ring head whole (len - 1) i Q.head_in Q.len_in (omega arith) (ring_index_at (length ring) head (len - 1) Q.head_in (omega (arith, Q.len_in))) in
      subst (λ (x : ℕ). x / 2 < m) (at ∙ newest_is) (Q.below (len - 1) (omega arith))

  module _ (counts : List ℕ) (C : Counted m counts (window ring head (len - 1))) where
    pub count_room : (x : ℕ) → get_or counts x 0 < 65535
    count_room x = omega (arith, C.counted x, count_le x (window ring head (len - 1)), window_length ring head (len - 1) Q.head_in (omega (arith, Q.len_in)), Q.len_in, Q.small)

    pub counted_on : (entry : ℕ) → entry ≡ e → Counted m (raise counts (decode entry)) (window ring head len)
    counted_on entry is =
        subst (λ (q : List Place). Counted m (raise counts (decode entry)) q) (sym (grown ∙ ap (λ (x : ℕ). window ring head (len - 1) ++ decode x ∷ []) (sym is)))
        (raise_counted m counts (window ring head (len - 1)) (decode entry) (below_at (decode entry) refl) C)
      where
        below_at : (p : Place) → decode entry ≡ p → BelowAt m p
        below_at ambiguous d = tt
        below_at (plain x) d =
            let even = plain_even entry x d in
            let x_is : plain (entry / 2) ≡ plain x = sym (decode_plain entry even) ∙ d in
            subst (λ (p : Place). BelowAt m p) x_is (subst (λ (y : ℕ). y / 2 < m) (sym is) below)

    pub times_are : (entry : ℕ) → entry ≡ e → entry % 2 ≡ 0 → (o : Option ℕ) → o ≡ raised_count counts (decode entry) → unwrap_or o 0 ≡ count (entry / 2) (window ring head len)
    times_are entry is even o raised =
        ap (λ (x : Option ℕ). unwrap_or x 0) (raised ∙ ap (raised_count counts) (decode_plain entry even))
        ∙ omega (
          arith,
          C.counted (entry / 2),
          ap (count (entry / 2)) grown,
          count_snoc (entry / 2) (window ring head (len - 1)) (decode e),
          hit_self (entry / 2),
          ap (λ (p : Place). count (entry / 2) (p ∷ [])) (ap decode (sym is) ∙ decode_plain entry even),
        )

-- The walk over the newest entries of a ring, a turn at a time, and what it tells.
use Rattle.std.proofs.Common.{◌≡◌, sym, ap, ◌∙◌, subst, true, false, true≢false, List, ◌++◌, ℕ, ◌+◌, ◌-◌, ◌/◌, ◌^◌, ◌<◌, ◌≤◌, arith, length, get_or, take, drop, length-take, take-append-drop, T, Float}
use lib.Ieee.{lt}
use Rattle.floats.specs.Arithmetic.{◌⊕◌, ◌⊖◌}
use Rattle.floats.specs.Binary64.{zero64}
use Rattle.letters.specs.Place.{Place, ambiguous}
use Rattle.letters.specs.Terms.Entry.{decode}
use Rattle.scans.specs.declared.Params.{Params}
use Rattle.scans.specs.Setup.{Setup, f_at}
use Rattle.scans.specs.Counts.{count, lower}
use Rattle.scans.specs.Terms.Counted.{Counted, Touched}
use Rattle.scans.specs.Terms.Numbers.{setup_of}
use Rattle.scans.specs.Terms.Shape.{Usual}
use Rattle.scans.specs.Terms.Window.{At, ring_index, queue, window, counted_value}
use Rattle.scans.specs.Terms.Parts.{Queued}
use Rattle.search.specs.Terms.Fails.{FallsShort}
use Rattle.scans.proofs.Counting.{count_append, count_le}
use Rattle.scans.proofs.Rings.{ring_index_at, queue_at, window_at, window_length}
use Rattle.scans.proofs.Walk.{queued_below}
use Rattle.scans.proofs.Shape.{usual_range, usual_shape}
use Rattle.search.proofs.FallShort.{certain, without, Back, back_start, back_next, told_short, none_ends}

-- Only the places from a on have counts.
back_touched : (S : Setup) (q : List Place) (a z l : ℕ) (s : Float) (counts : List ℕ) → Back S q a z l s counts → Touched counts (drop a q)
back_touched S q a z l s counts c =
    record {
      at_most = λ x.
          let d : List Place = drop a q in
          let k : ℕ = length q - a - l in
          let e : count x (take k d ++ drop k d) ≡ count x d = ap (count x) (take-append-drop k d) in
          omega (arith, c.counted.counted x, count_append x (take k d) (drop k d), e);
    }

pub nothing_told : (S : Setup) (q : List Place) (a z l : ℕ) (s : Float) (counts : List ℕ) → Back S q a z l s counts → FallsShort S q a z false counts
nothing_told S q a z l s counts c = record { told = λ e. absurd (true≢false (sym e)); touched = back_touched S q a z l s counts c }

module _ (p : Params) (ring : List ℕ) (head len : ℕ) (ln f : List Float) (u : Usual (setup_of p ln f)) (r : Queued ring head len (4 ^ p.kmer)) (wide : len ≤ p.window_size) (a z : ℕ) (older : a ≤ z) (within : z < len) where
  abbrev S : Setup
  S = setup_of p ln f

  abbrev q : List Place
  q = window ring head len

  long : length q ≡ len
  long = window_length ring head len r.head_in r.len_in

  short : length q ≤ p.window_size
  short = omega (arith, long)

  pub walk_start : (counts : List ℕ) → Counted (4 ^ p.kmer) counts (drop a q) → Back S q a z 0 zero64 counts
  walk_start counts c = back_start S (usual_range u) (usual_shape u) q (queued_below r) short a z older (omega (arith, long)) counts c

  -- A turn reads the entry before index i, which stands at index `at` of the ring; v is its value.
  module _ (i : ℕ) (s : Float) (counts : List ℕ) (c : Back S q a z (len - i) s counts) (above : z + 1 < i) (inside : i ≤ len) (at : ℕ) (is : at ≡ ring_index (length ring) head (i - 1)) where
    abbrev entry : ℕ
    entry = get_or ring at 0

    abbrev l : ℕ
    l = len - i

    here : At (length ring) head (i - 1) at
    here = rw is (ring_index_at (length ring) head (i - 1) r.head_in (omega (arith, r.len_in)))

    pub entry_in : entry / 2 < length counts
    entry_in =
        let j : i - 1 < len = omega arith in
        let e : get_or (queue ring head len) (i - 1) 0 ≡ entry = queue_at ring head len (i - 1) at r.head_in r.len_in j here in
        subst (λ (y : ℕ). y / 2 < length counts) e (omega (arith, r.below (i - 1) j, c.counted.long))

    pub entry_count : (n : ℕ) → length ring < n → get_or counts (entry / 2) 0 < n
    entry_count n g =
        omega (arith, c.counted.counted (entry / 2), count_le (entry / 2) (without q a l), length-take (length q - a - l) (drop a q), long, r.len_in)

    newest_here : get_or q (length q - (l + 1)) ambiguous ≡ decode entry
    newest_here =
        let m : length q - (l + 1) ≡ i - 1 = omega (arith, long) in
        ap (λ (n : ℕ). get_or q n ambiguous) m ∙ window_at ring head len (i - 1) at r.head_in r.len_in (omega arith) here

    module _ (v : Float) (e : v ≡ counted_value ln counts (decode entry)) where
      abbrev s' : Float
      s' = s ⊕ (v ⊖ p.score_threshold)

      pub walk_next : (counts' : List ℕ) → counts' ≡ lower counts (decode entry) → Back S q a z (len - (i - 1)) s' counts'
      walk_next counts' lowered =
          let m : l + 1 ≡ len - (i - 1) = omega arith in
          subst (λ (n : ℕ). Back S q a z n s' counts') m
          (rw (lowered, e) (back_next S (usual_range u) (usual_shape u) q (queued_below r) short a z older l s counts c (omega (arith, long)) (decode entry) newest_here))

      pub walk_tells : lt s' (f_at S (len - z) ⊖ f_at S (i - 1 - z) ⊖ certain) ≡ true → FallsShort S q a z true counts
      walk_tells t =
          let x : Float = s ⊕ (counted_value ln counts (decode entry) ⊖ p.score_threshold) in
          let m : i - 1 - z ≡ len - z - (l + 1) = omega arith in
          let test : T (lt x (f_at S (len - z) ⊖ f_at S (i - 1 - z) ⊖ certain)) = rw (← e, t) tt in
          record {
            told = λ _.
                none_ends S (usual_range u) (usual_shape u) q (queued_below r) short a z older (l + 1) (omega arith) (omega (arith, long))
                (told_short S (usual_range u) (usual_shape u) q (queued_below r) short a z older l s counts c (omega (arith, long)) (decode entry) newest_here
                (subst (λ (n : ℕ). T (lt x (f_at S (n - z) ⊖ f_at S (n - z - (l + 1)) ⊖ certain))) (sym long) (subst (λ (n : ℕ). T (lt x (f_at S (len - z) ⊖ f_at S n ⊖ certain))) m test)));
            touched = back_touched S q a z l s counts c;
          }

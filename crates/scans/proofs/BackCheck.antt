-- The back check, a turn at a time: what is left of the check, from the present sum, is the whole check. A turn reads the entry before index i, which stands at index `at` of the ring; v is its value.
use Rattle.std.proofs.Common.{◌≡◌, sym, ap, ◌∙◌, true, false, cond, List, ℕ, suc, ◌-◌, ◌/◌, ◌<◌, ◌≤◌, arith, length, get_or, ℤ, pos, negsuc, Float}
use lib.Ieee.{lt}
use Rattle.floats.specs.Arithmetic.{◌⊕◌, ◌⊖◌}
use Rattle.floats.specs.Binary64.{zero64}
use Rattle.letters.specs.Place.{Place, ambiguous}
use Rattle.letters.specs.Terms.Entry.{decode}
use Rattle.scans.specs.declared.run.Setup.{Setup as RunSetup}
use Rattle.scans.specs.declared.run.Ring.{Ring}
use Rattle.scans.specs.Scans.{window_value, if_backward_from, if_backward, max_steps}
use Rattle.scans.specs.Terms.Window.{ring_index, counted_value}
use Rattle.scans.specs.Setup.{Setup}
use Rattle.scans.specs.Terms.Numbers.{setup_of}
use Rattle.scans.specs.Terms.Run.{entries_of, WindowCounted}
use Rattle.scans.proofs.Rings.{index_at, entries_long}
use Rattle.scans.proofs.Values.{window_value_lem}
use Rattle.scans.proofs.Windows.{entry_in, entry_place}

pub steps_le : (z : ℤ) (len : ℕ) → max_steps z len ≤ len
steps_le (pos m) len = omega arith
steps_le (negsuc m) len = omega arith

-- The setup with any f table: the check does not read it.
abbrev pub by : RunSetup → List Float → Setup
by s f = setup_of s.params s.ln.now f

pub checking_start : (s : RunSetup) (r : Ring) (steps : ℕ) → steps ≡ max_steps s.params.max_test r.len
    → (f : List Float) → if_backward (by s f) (entries_of r) ≡ if_backward_from (by s f) (entries_of r) (r.len - (r.len - steps)) r.len zero64
unfolding if_backward
checking_start s r steps e f =
    let l : length (entries_of r) ≡ r.len = entries_long r in
    let n : r.len - (r.len - steps) ≡ max_steps s.params.max_test r.len = omega (arith, steps_le s.params.max_test r.len) in
    rw (l, n)

-- The entry can be read, and has a count.
pub entry_counted : (s : RunSetup) (r : Ring) (counts : List ℕ) (low i at : ℕ) → WindowCounted s r counts → low < i → i ≤ r.len → at ≡ ring_index (length r.queue.now) r.head (i - 1) → get_or r.queue.now at 0 / 2 < length counts
entry_counted s r counts low i at w some inside is = entry_in w (i - 1) at (omega arith) (index_at _ _ _ _ r.head_in (omega (arith, r.len_in)) is)

module _ (s : RunSetup) (r : Ring) (counts : List ℕ) (w : WindowCounted s r counts) (low i : ℕ) (x : Float) (whole : (f : List Float) → if_backward (by s f) (entries_of r) ≡ if_backward_from (by s f) (entries_of r) (i - low) i x) (more : low < i) (inside : i ≤ r.len)
    (at : ℕ) (is : at ≡ ring_index (length r.queue.now) r.head (i - 1)) (v : Float) (pv : v ≡ counted_value s.ln.now counts (decode (get_or r.queue.now at 0))) where
  abbrev x' : Float
  x' = x ⊕ (v ⊖ s.params.score_threshold)

  turn : (f : List Float) → if_backward (by s f) (entries_of r) ≡ cond (lt x' zero64) false (if_backward_from (by s f) (entries_of r) (i - 1 - low) (i - 1) x')
  unfolding if_backward_from
  turn f =
      let m : i - low ≡ suc (i - 1 - low) = omega arith in
      let e : get_or (entries_of r) (i - 1) ambiguous ≡ decode (get_or r.queue.now at 0) = entry_place w (i - 1) at (omega arith) (index_at _ _ _ _ r.head_in (omega (arith, r.len_in)) is) in
      let y : v ≡ window_value (by s f) (entries_of r) (get_or (entries_of r) (i - 1) ambiguous) =
      pv ∙ ap (λ (z : Place). counted_value s.ln.now counts z) (sym e) ∙ window_value_lem (by s f) counts (entries_of r) (get_or (entries_of r) (i - 1) ambiguous) w.counted in
      whole f ∙ ap (λ (n : ℕ). if_backward_from (by s f) (entries_of r) n i x) m ∙ rw y

  pub checking_no : lt x' zero64 ≡ true → (f : List Float) → false ≡ if_backward (by s f) (entries_of r)
  checking_no t f = sym (turn f ∙ rw t)

  pub checking_turn : lt x' zero64 ≡ false → (f : List Float) → if_backward (by s f) (entries_of r) ≡ if_backward_from (by s f) (entries_of r) (i - 1 - low) (i - 1) x'
  checking_turn t f = turn f ∙ rw t

pub checking_yes : (s : RunSetup) (r : Ring) (low i : ℕ) (x : Float) → ((f : List Float) → if_backward (by s f) (entries_of r) ≡ if_backward_from (by s f) (entries_of r) (i - low) i x) → i ≤ low → (f : List Float) → true ≡ if_backward (by s f) (entries_of r)
unfolding if_backward_from
checking_yes s r low i x whole h f =
    let z : i - low ≡ 0 = omega arith in
    sym (whole f ∙ rw z)

pub ruleset of_checking = (checking_start, checking_no, checking_turn, checking_yes)

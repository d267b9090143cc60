-- What a queue entry is worth by its bits and its count: the tests of the code against the definitions' values.
use Rattle.std.proofs.Common.{◌≡◌, refl, sym, ap, Bool, true, false, cond, List, [], ◌∷◌, ℕ, suc, ◌+◌, ◌-◌, ◌/◌, ◌%◌, ◌<◌, arith, length, get_or, set, get_or-set_same, eqb, Float, Some}
use lib.Ieee.{nan}
use Rattle.std.proofs.lemmas.Option.{none-some, same_Some}
use Rattle.floats.specs.Arithmetic.{◌⊕◌, ◌⊖◌}
use Rattle.floats.specs.Binary64.{zero64}
use Rattle.letters.specs.Place.{Place, ambiguous, plain, BelowAt, Below}
use Rattle.letters.specs.Terms.Entry.{decode, decoded}
use Rattle.letters.proofs.Entries.{decode_plain, decode_ambiguous, plain_even}
use Rattle.scans.specs.declared.backward.BackwardState.{BackwardState}
use Rattle.scans.specs.Setup.{Setup}
use Rattle.scans.specs.Counts.{count, raise}
use Rattle.scans.specs.Scans.{window_value, value}
use Rattle.scans.specs.Terms.Window.{counted_value, raised_count, CountsEntry}
use Rattle.scans.specs.Terms.Parts.{with_sums, AddsEntry}

pub decode_below : (m e : ℕ) → e / 2 < m → BelowAt m (decode e)
unfolding decode
decode_below m e h = go (eqb (e % 2) 0)
  where
    go : (b : Bool) → BelowAt m (cond b (plain (e / 2)) ambiguous)
    go true = h
    go false = tt

pub decoded_below : (m : ℕ) (es : List ℕ) → ((j : ℕ) → j < length es → get_or es j 0 / 2 < m) → Below m (decoded es)
unfolding decoded
decoded_below m [] h = tt
decoded_below m (e ∷ es) h = (decode_below m e (h 0 (omega arith)), decoded_below m es (λ j l. h (suc j) (omega arith)))

-- Window counts that are the window's.
pub window_value_lem : (S : Setup) (counts : List ℕ) (q : List Place) (e : Place) → ((x : ℕ) → get_or counts x 0 ≡ count x q) → counted_value S.ln counts e ≡ window_value S q e
window_value_lem S counts q ambiguous h = refl
window_value_lem S counts q (plain x) h = ap (λ (c : ℕ). get_or S.ln c nan) (h x)

-- The raised count of a place.
pub raised_plain : (ln : List Float) (counts : List ℕ) (x : ℕ) → x < length counts → counted_value ln (raise counts (plain x)) (plain x) ≡ get_or ln (get_or counts x 0 + 1) nan
raised_plain ln counts x h = ap (λ (c : ℕ). get_or ln c nan) (get_or-set_same counts x (get_or counts x 0 + 1) 0 h)

pub raised_value : (S : Setup) (counts : List ℕ) (e : Place) → BelowAt (length counts) e → counted_value S.ln (raise counts e) e ≡ value S counts e
raised_value S counts ambiguous h = refl
raised_value S counts (plain x) h = raised_plain S.ln counts x h

-- An entry whose raised count is c.
module _ (counts : List ℕ) (e c : ℕ) (r : Some c ≡ raised_count counts (decode e)) where
  pub entry_plain : decode e ≡ plain (e / 2)
  unfolding decode
  entry_plain = go (eqb (e % 2) 0) r
    where
      go : (b : Bool) → Some c ≡ raised_count counts (cond b (plain (e / 2)) ambiguous) → cond b (plain (e / 2)) ambiguous ≡ plain (e / 2)
      go true h = refl
      go false h = absurd (none-some c (sym h))

  pub count_raised : c ≡ get_or counts (e / 2) 0 + 1
  count_raised = same_Some c (get_or counts (e / 2) 0 + 1) (rw entry_plain at r)

  pub counts_entry : (ln : List Float) → e / 2 < length counts → CountsEntry ln counts (decode e) (get_or ln c nan) (raise counts (decode e))
  counts_entry ln h = rw (entry_plain, count_raised) (record { counts_are = refl; value_is = sym (raised_plain ln counts (e / 2) h) })

-- Both values of an entry.
module _ (t : Float) (window_counts : List ℕ) (ln : List Float) (e : ℕ) (a : BackwardState) (counts : List ℕ) where
  pub adds_ambiguous : decode e ≡ ambiguous → AddsEntry t window_counts ln (decode e) a (with_sums a (a.s ⊕ (zero64 ⊖ t)) (a.sw ⊕ (zero64 ⊖ t))) counts counts
  adds_ambiguous h = rw h (record { counts_are = refl; sums_are = refl })

  module _ (x : ℕ) (h : decode e ≡ plain x) where
    abbrev c : ℕ
    c = get_or counts x 0 + 1

    pub adds_plain : x < length counts
        → AddsEntry t window_counts ln (decode e) a
        (with_sums a (a.s ⊕ (get_or ln c nan ⊖ t)) (a.sw ⊕ (get_or ln (get_or window_counts x 0 - c + 1) nan ⊖ t)))
        counts (set counts x c)
    adds_plain l = let same : get_or (set counts x c) x 0 ≡ c = get_or-set_same counts x c 0 l in rw h (record { counts_are = refl; sums_are = rw same })

-- The laws by which `add_entry` is proved.
pub ruleset adding = (plain_even, adds_ambiguous, adds_plain)

-- The laws by which `count_entry` is proved.
pub ruleset counting = (count_raised, counts_entry)

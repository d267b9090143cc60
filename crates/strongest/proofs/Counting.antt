-- Scan counts of which only those of the places read are known: first all set to 0, then raised place by place.
use Rattle.std.proofs.Common.{◌≡◌, refl, sym, ap, ◌∙◌, List, ⊎_elim, ℕ, suc, ◌+◌, ◌-◌, ◌/◌, ◌%◌, ◌^◌, ◌≤◌, ◌<◌, eq-or-lt_of_le, arith, length, get_or, set, replicate, length-set, get_or-set_same, get_or-set_other, ℤ, pos, ◌+ℤ◌, Option, None, Some}
use Rattle.std.proofs.lemmas.List.{get_or_past}
use Rattle.std.proofs.lemmas.Option.{none-some, same_Some}
use Rattle.letters.specs.Place.{Place, ambiguous, plain, BelowAt}
use Rattle.letters.specs.Terms.Entry.{decode}
use Rattle.letters.proofs.Places.{place_below}
use Rattle.letters.proofs.Entries.{decode_plain}
use Rattle.scans.specs.Counts.{hit, count, raise}
use Rattle.scans.specs.Score.{ln_sums}
use Rattle.scans.specs.Terms.Window.{raised_count}
use Rattle.scans.proofs.Counting.{count_le, cleared_counted, raise_length, raise_hit}
use Rattle.scans.proofs.Exact.{adds, sums_cons}
use Rattle.strongest.specs.Strongest.{entry, largest}
use Rattle.strongest.specs.declared.places.Places.{Places}
use Rattle.strongest.specs.Terms.Reading.{back, back_to, cleared_at}
use Rattle.strongest.specs.Terms.Places.{Known, Adds}
use Rattle.strongest.proofs.Largest.{largest_at}
use Rattle.strongest.proofs.Backward.{back_length}

-- ---- An entry set to 0.
zero_same : (l : List ℕ) (i : ℕ) → ◌≡◌ {A = ℕ} (get_or (set l i 0) i 0) 0
zero_same l i = grind (arith, get_or-set_same {A = ℕ}, get_or_past {X = ℕ}, length-set {A = ℕ})

zero_kept : (l : List ℕ) (i j : ℕ) → get_or l j 0 ≡ 0 → get_or (set l i 0) j 0 ≡ 0
zero_kept l i j h = grind (arith, zero_same, get_or-set_other {A = ℕ})

cleared_length : (counts : List ℕ) (e : Place) → length (cleared_at counts e) ≡ length counts
cleared_length counts ambiguous = refl
cleared_length counts (plain x) = length-set counts x 0

cleared_kept : (counts : List ℕ) (e : Place) (x : ℕ) → get_or counts x 0 ≡ 0 → get_or (cleared_at counts e) x 0 ≡ 0
cleared_kept counts ambiguous x h = h
cleared_kept counts (plain y) x h = zero_kept counts y x h

module _ (p : Places) where
  abbrev k : ℕ
  k = p.kmer

  abbrev cs : List ℕ
  cs = p.letters.now

  -- ---- The counts of the first i places read are 0.
  pub record Cleared (i : ℕ) (counts : List ℕ) : Type 0 where
    pub long : length counts ≡ 4 ^ k
    pub cleared : (j : ℕ) → j < i → (x : ℕ) → back k cs j ≡ plain x → get_or counts x 0 ≡ 0

  pub cleared_none : (counts : List ℕ) → length counts ≡ 4 ^ k → Cleared 0 counts
  cleared_none counts h = record { long = h; cleared = λ j l. absurd (let z : ⊥ = omega arith in z) }

  pub cleared_more : (i : ℕ) (counts counts' : List ℕ) → Cleared i counts → counts' ≡ cleared_at counts (back k cs i) → Cleared (i + 1) counts'
  cleared_more i counts counts' c e =
      rw e
      (record {
        long = cleared_length counts (back k cs i) ∙ c.long;
        cleared = λ j l x q.
            ⊎_elim
            (λ (r : j ≡ i). ap (λ (z : Place). get_or (cleared_at counts z) x 0) (ap (λ (n : ℕ). back k cs n) (sym r) ∙ q) ∙ zero_same counts x)
            (λ (r : j < i). cleared_kept counts (back k cs i) x (c.cleared j r x q))
            (eq-or-lt_of_le (let h : j ≤ i = omega arith in h));
      })

  pub cleared_known : (i : ℕ) (counts : List ℕ) → Cleared i counts → p.steps ≤ i → Known p 0 counts
  unfolding back_to
  cleared_known i counts c h = record { long = c.long; known = λ j l x q. c.cleared j (omega arith) x q }

  -- All counts were set to 0.
  pub filled_known : (counts counts' : List ℕ) → length counts ≡ 4 ^ k → counts' ≡ replicate (length counts) 0 → Known p 0 counts'
  unfolding back_to
  filled_known counts counts' h e =
      let C = cleared_counted (length counts) in
      rw e (record { long = C.long ∙ h; known = λ j l x q. C.counted x })

  -- ---- One place more is counted.
  module _ (l : ℕ) (counts : List ℕ) (c : Known p l counts) (h : l < p.steps) where
    abbrev here : Place
    here = back k cs l

    abbrev before : List Place
    before = back_to k cs l

    below : BelowAt (4 ^ k) here
    below = place_below k cs (length cs - 1 - l)

    -- The count of its k-mer.
    met : (x : ℕ) → here ≡ plain x → (get_or counts x 0 ≡ count x before) × (get_or counts x 0 ≤ l)
    met x d = let e = c.known l h x d in (e, omega (arith, count_le x before, back_length k cs l))

    -- An entry of the place has room in its count.
    pub room : (e : ℕ) → decode e ≡ here → e % 2 ≡ 0 → get_or counts (e / 2) 0 < 65535
    room e d even = omega (arith, met (e / 2) (sym d ∙ decode_plain e even))

    -- Its raised count is at most the number of places.
    pub raised_small : (e : Place) → e ≡ here → (n : ℕ) → Some n ≡ raised_count counts e → n ≤ p.steps
    raised_small ambiguous d n r = absurd (none-some n (sym r))
    raised_small (plain x) d n r = omega (arith, same_Some n (get_or counts x 0 + 1) r, met x (sym d))

    module _ (ln : List ℕ) where
      -- The ln entry of a raised count, 0 if there is none.
      abbrev worth : Option ℕ → ℕ
      worth None = 0
      worth (Some n) = get_or ln n 0

      value : (e : Place) → here ≡ e → (adds (entry ln) before e ≡ pos (worth (raised_count counts e))) × (worth (raised_count counts e) ≤ largest ln p.steps)
      value ambiguous d = (refl, omega arith)
      value (plain x) d =
          let m : get_or counts x 0 + 1 ≡ suc (count x before) = omega (arith, met x d) in
          (ap (λ (n : ℕ). pos (get_or ln n 0)) (sym m), largest_at ln p.steps (get_or counts x 0 + 1) (omega arith) (omega (arith, met x d)))

      pub counted : (e : Place) (o : Option ℕ) (counts' : List ℕ) → e ≡ here → counts' ≡ raise counts e → o ≡ raised_count counts e → Adds p l ln counts' (worth o)
      unfolding back_to
      counted e o counts' d f g =
          let at : BelowAt (length counts) here = rw c.long below in
          rw (f, g, d)
          (record {
            counts_are = record { long = raise_length counts here ∙ c.long; known = λ i j x q. raise_hit counts here x at ∙ ap (λ (n : ℕ). hit x here + n) (c.known i j x q) };
            value_is = sums_cons (entry ln) (4 ^ k) before here below ∙ ap (λ (z : ℤ). ln_sums (entry ln) (4 ^ k) before +ℤ z) (value here refl).0;
            value_small = (value here refl).1;
          })

-- The laws by which `clear_counts` is proved.
pub ruleset clearing = (cleared_none, cleared_more, cleared_known)

-- The laws by which `count_back` is proved.
pub ruleset counting = (room, raised_small, counted)

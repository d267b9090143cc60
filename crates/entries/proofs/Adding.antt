-- Sums: how they add up.
use Rattle.std.proofs.Common.{◌≡◌, ℕ, ◌+◌, ◌*◌, ◌≤◌, List, [], ◌∷◌, ◌++◌, refl, sym, ap, ◌∙◌, arith, add-one}
use Rattle.entries.specs.declared.sums.Sums.{Sums}
use Rattle.entries.specs.Sums.{plus, no_sums, add, sums_at, first_sums}
use Rattle.entries.specs.Entries.{Entry}
use Rattle.entries.specs.Outcome.{Report, sums_on}

-- The first sums of bytes, and one more.
pub first_none : (bs : List ℕ) (s : Sums) → s ≡ no_sums → s ≡ first_sums bs 0
unfolding first_sums
first_none bs s e = e

pub first_more : (bs : List ℕ) (k : ℕ) (a b c : Sums) → a ≡ first_sums bs k → b ≡ sums_at bs (80 * k) → c ≡ add a b → c ≡ first_sums bs (k + 1)
unfolding first_sums
first_more bs k a b c p q r = rw (add-one k, r, p, q) refl

-- ---- Adding is commutative and associative, and adding nothing changes nothing.
plus_comm : (a b : ℕ) → plus a b ≡ plus b a
plus_comm a b = omega arith

plus_assoc : (a b c : ℕ) → plus (plus a b) c ≡ plus a (plus b c)
plus_assoc a b c = omega arith

plus_none : (a : ℕ) → a ≤ 18446744073709551615 → plus a 0 ≡ a
plus_none a h = omega arith

plus_within : (a b : ℕ) → plus a b ≤ 18446744073709551615
plus_within a b = omega arith

pub same : (a b : Sums) → a.records ≡ b.records → a.refused ≡ b.refused → a.letters ≡ b.letters → a.intervals ≡ b.intervals → a.masked ≡ b.masked → a.n ≡ b.n → a.masked_n ≡ b.masked_n → a.gc ≡ b.gc → a.acgt ≡ b.acgt → a.uneven ≡ b.uneven → a ≡ b
same a b e0 e1 e2 e3 e4 e5 e6 e7 e8 e9 = rw (e0, e1, e2, e3, e4, e5, e6, e7, e8, e9) refl

pub add_comm : (a b : Sums) → add a b ≡ add b a
unfolding add
add_comm a b = same _ _ (plus_comm a.records b.records) (plus_comm a.refused b.refused) (plus_comm a.letters b.letters) (plus_comm a.intervals b.intervals) (plus_comm a.masked b.masked) (plus_comm a.n b.n) (plus_comm a.masked_n b.masked_n) (plus_comm a.gc b.gc) (plus_comm a.acgt b.acgt) (plus_comm a.uneven b.uneven)

pub add_assoc : (a b c : Sums) → add (add a b) c ≡ add a (add b c)
unfolding add
add_assoc a b c = same _ _ (plus_assoc a.records b.records c.records) (plus_assoc a.refused b.refused c.refused) (plus_assoc a.letters b.letters c.letters) (plus_assoc a.intervals b.intervals c.intervals) (plus_assoc a.masked b.masked c.masked) (plus_assoc a.n b.n c.n) (plus_assoc a.masked_n b.masked_n c.masked_n) (plus_assoc a.gc b.gc c.gc) (plus_assoc a.acgt b.acgt c.acgt) (plus_assoc a.uneven b.uneven c.uneven)

-- Each number is at most 2^64 - 1.
pub record Within (s : Sums) : Type 0 where
  pub records_in : s.records ≤ 18446744073709551615
  pub refused_in : s.refused ≤ 18446744073709551615
  pub letters_in : s.letters ≤ 18446744073709551615
  pub intervals_in : s.intervals ≤ 18446744073709551615
  pub masked_in : s.masked ≤ 18446744073709551615
  pub n_in : s.n ≤ 18446744073709551615
  pub masked_n_in : s.masked_n ≤ 18446744073709551615
  pub gc_in : s.gc ≤ 18446744073709551615
  pub acgt_in : s.acgt ≤ 18446744073709551615
  pub uneven_in : s.uneven ≤ 18446744073709551615

pub none_within : Within no_sums
none_within = record { records_in = omega arith; refused_in = omega arith; letters_in = omega arith; intervals_in = omega arith; masked_in = omega arith; n_in = omega arith; masked_n_in = omega arith; gc_in = omega arith; acgt_in = omega arith; uneven_in = omega arith }

pub add_within : (a b : Sums) → Within (add a b)
unfolding add
add_within a b = record { records_in = plus_within a.records b.records; refused_in = plus_within a.refused b.refused; letters_in = plus_within a.letters b.letters; intervals_in = plus_within a.intervals b.intervals; masked_in = plus_within a.masked b.masked; n_in = plus_within a.n b.n; masked_n_in = plus_within a.masked_n b.masked_n; gc_in = plus_within a.gc b.gc; acgt_in = plus_within a.acgt b.acgt; uneven_in = plus_within a.uneven b.uneven }

pub add_none : (s : Sums) → Within s → add s no_sums ≡ s
unfolding add
add_none s h = same _ _ (plus_none s.records h.records_in) (plus_none s.refused h.refused_in) (plus_none s.letters h.letters_in) (plus_none s.intervals h.intervals_in) (plus_none s.masked h.masked_in) (plus_none s.n h.n_in) (plus_none s.masked_n h.masked_n_in) (plus_none s.gc h.gc_in) (plus_none s.acgt h.acgt_in) (plus_none s.uneven h.uneven_in)

-- Adding nothing to the second of two changes nothing, however large it is.
add_clipped : (a b : Sums) → add a (add no_sums b) ≡ add a b
add_clipped a b = sym (add_assoc a no_sums b) ∙ ap (λ (s : Sums). add s b) (add_comm a no_sums) ∙ add_assoc no_sums a b ∙ add_comm no_sums (add a b) ∙ add_none (add a b) (add_within a b)

-- ---- Records.
module _ (f : Entry → Report) where
  pub sums_append : (m : Sums) (es qs : List Entry) → sums_on f m (es ++ qs) ≡ sums_on f (sums_on f m es) qs
  unfolding sums_on
  sums_append m [] qs = refl
  sums_append m (e ∷ es) qs = sums_append (add m (f e).sums) es qs

  pub sums_snoc : (m : Sums) (es : List Entry) (e : Entry) → sums_on f m (es ++ e ∷ []) ≡ add (sums_on f m es) (f e).sums
  unfolding sums_on
  sums_snoc m es e = sums_append m es (e ∷ [])

  pub sums_within : (m : Sums) (es : List Entry) → Within m → Within (sums_on f m es)
  unfolding sums_on
  sums_within m [] h = h
  sums_within m (e ∷ es) h = sums_within (add m (f e).sums) es (add_within m (f e).sums)

  -- What records add to sums is their own sums.
  pub sums_added : (m : Sums) (es : List Entry) → Within m → sums_on f m es ≡ add m (sums_on f no_sums es)
  unfolding sums_on
  sums_added m [] h = sym (add_none m h)
  sums_added m (e ∷ es) h =
      sums_added (add m (f e).sums) es (add_within m (f e).sums)
      ∙ add_assoc m (f e).sums (sums_on f no_sums es)
      ∙ ap (λ (s : Sums). add m s) (add_comm (f e).sums (sums_on f no_sums es) ∙ sym (add_clipped (sums_on f no_sums es) (f e).sums) ∙ add_comm (sums_on f no_sums es) (add no_sums (f e).sums))
      ∙ ap (λ (s : Sums). add m s) (sym (sums_added (add no_sums (f e).sums) es (add_within no_sums (f e).sums)))

  -- Those of records in two parts are the sums of the parts.
  pub sums_both : (es qs : List Entry) → sums_on f no_sums (es ++ qs) ≡ add (sums_on f no_sums es) (sums_on f no_sums qs)
  sums_both es qs = sums_append no_sums es qs ∙ sums_added (sums_on f no_sums es) qs (sums_within no_sums es none_within)

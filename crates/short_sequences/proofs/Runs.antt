-- What the call with work buffers of its own says of a run on a short sequence: buffers of exactly the paper's sizes, tables filled once.
use Rattle.std.proofs.Common.{ℕ, ◌≡◌, refl, sym, ap, ap₂, ◌∙◌, List, Option, None, Some, arith, length, take, take_all, Float}
use Rattle.checks.specs.declared.refusal.Refusal.{Refusal}
use Rattle.checks.specs.Refusal.{number}
use Rattle.checks.proofs.Refusing.{number_positive}
use borrow.Author.Tests.{ne_eqb}
use Rattle.buffers.specs.Fill.{put}
use Rattle.buffers.proofs.Filling.{put_all}
use Rattle.letters.specs.Code.{codes}
use Rattle.intervals.specs.declared.Interval.{Interval}
use Rattle.intervals.specs.Interval.{Wrote, covered_in}
use Rattle.intervals.proofs.Slice.{wrote_list}
use Rattle.tables.specs.Density.{uniform, density}
use Rattle.tables.specs.Tables.{ln_table, f_table}
use Rattle.tables.proofs.Tables.{ln_table_length, f_table_length}
use Rattle.longdust.specs.declared.LongdustOptions.{LongdustOptions}
use Rattle.longdust.specs.Options.{defaults}
use Rattle.longdust.specs.Checks.{refusal}
use Rattle.longdust.specs.Mask.{mask, mask_by}
use Rattle.longdust.specs.Buffers.{lent_sizes}
use Rattle.short_sequences.specs.Tallies.{short_options, refusal_of, mask_of, is_refused, masked_letters}
use Rattle.short_sequences.specs.Run.{Filled}
use Rattle.short_sequences.specs.Terms.Outcome.{outcome_of}

-- For uniform GC the tables do not go by the sequence.
same_density : (s : List ℕ) → density 1 short_options.gc s ≡ uniform 1
unfolding density short_options defaults
same_density s = refl

pub tables_filled : (ln f ln' f' : List Float) → length ln ≡ 9 → length f ≡ 10 → ln' ≡ put (ln_table 8) ln → f' ≡ put (f_table 1 8 (uniform 1)) f → Filled ln' f'
tables_filled ln f ln' f' a b p q =
    record {
      ln_is = p ∙ put_all (ln_table 8) ln (a ∙ sym (ln_table_length 8));
      f_is = q ∙ put_all (f_table 1 8 (uniform 1)) f (b ∙ sym (f_table_length 1 8 (uniform 1)));
    }

-- The mask by these tables.
mask_is : (s : List ℕ) (ln f : List Float) → ln ≡ ln_table 8 → f ≡ f_table 1 8 (uniform 1) → mask short_options s ln f ≡ mask_of s
unfolding mask_of
mask_is s ln f p q =
    ap₂ (λ (x y : List Float). mask short_options s x y) p (q ∙ ap (λ d. f_table 1 8 d) (sym (same_density (codes s))))

-- What the masking call says of the options o: its sizes are those of 8 letters, and its mask is that of the filling call.
module _ {o : LongdustOptions} (e : o ≡ short_options) {ln f : List Float} (t : Filled ln f) (s : List ℕ) where
  pub refusal_short : (xs : List Interval) → length xs ≡ 4 → refusal o s (lent_sizes 8 4 8 4 (length ln) (length f) (length xs)) ≡ refusal_of s
  unfolding refusal_of
  refusal_short xs room =
      let a : length ln ≡ 9 = ap length t.ln_is ∙ ln_table_length 8 in
      let b : length f ≡ 10 = ap length t.f_is ∙ f_table_length 1 8 (uniform 1) in
      rw (e, a, b, room) refl

  pub mask_short : mask_by o s ln f ≡ mask_of s
  unfolding short_options
  mask_short =
      ap (λ (z : LongdustOptions). mask_by z s ln f) e
      ∙ mask_is s _ _
      (ap (λ (l : List Float). take 9 l) t.ln_is ∙ take_all 9 (ln_table 8) (omega (arith, ln_table_length 8)))
      (ap (λ (l : List Float). take 10 l) t.f_is ∙ take_all 10 (f_table 1 8 (uniform 1)) (omega (arith, f_table_length 1 8 (uniform 1))))

  pub kmer_short : o.kmer ≡ 1
  unfolding short_options
  kmer_short = ap (λ (z : LongdustOptions). z.kmer) e

-- What a run comes to.
module _ (s : List ℕ) where
  pub outcome_masked : 0 ≡ refusal_of s → {xs xs' : List Interval} {count : ℕ} → Wrote (mask_of s) xs xs' count → {letters : ℕ}
      → letters ≡ covered_in (take count xs') 0 (length s) → Some letters ≡ outcome_of s
  unfolding is_refused masked_letters
  outcome_masked e wrote {letters} h =
      rw (sym e) (ap (λ (n : ℕ). Some n) (h ∙ ap (λ (is : List Interval). covered_in is 0 (length s)) (wrote_list wrote)))

  pub outcome_refused : (d : Refusal) → number d ≡ refusal_of s → ◌≡◌ {A = Option ℕ} None (outcome_of s)
  unfolding is_refused
  outcome_refused d e = rw (sym e, ne_eqb (number d) 0 (λ (z : number d ≡ 0). omega (arith, number_positive d)))

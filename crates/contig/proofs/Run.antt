-- What the contract of the call with work buffers of its own says of the program's run: the default options, and buffers of exactly the paper's sizes.
use Rattle.std.proofs.Common.{ℕ, ◌≡◌, refl, sym, ap, ap₂, ◌∙◌, List, length, take, Float}
use Rattle.letters.specs.Code.{codes}
use Rattle.intervals.specs.declared.Interval.{Interval}
use Rattle.tables.specs.declared.GcOption.TheVariants.{Uniform}
use Rattle.tables.specs.declared.Density.{Density}
use Rattle.tables.specs.Density.{uniform, density}
use Rattle.tables.specs.Tables.{ln_table, f_table}
use Rattle.longdust.specs.declared.LongdustOptions.{LongdustOptions}
use Rattle.longdust.specs.Options.{defaults}
use Rattle.longdust.specs.Checks.{refusal}
use Rattle.longdust.specs.Mask.{mask, mask_by}
use Rattle.longdust.specs.Buffers.{lent_sizes}
use Rattle.contig.specs.Run.{contig_refusal, contig_mask}

-- For uniform GC the tables do not go by the sequence.
same_density : (s : List ℕ) → density 7 Uniform s ≡ uniform 7
unfolding density
same_density s = refl

-- What the masking call says of the options o, by tables whose fronts are the formulas': the sizes are the program's, and so is the mask.
module _ {o : LongdustOptions} (e : o ≡ defaults) (s : List ℕ) where
  pub refusal_here : (ln f : List Float) (xs : List Interval) → length ln ≡ 5001 → length f ≡ 5002 → length xs ≡ 4096
      → refusal o s (lent_sizes 5000 16384 32768 4096 (length ln) (length f) (length xs)) ≡ contig_refusal s
  unfolding contig_refusal
  refusal_here ln f xs l m room = rw (e, l, m, room) refl

  pub mask_here : (ln f : List Float) → take 5001 ln ≡ ln_table 5000 → take 5002 f ≡ f_table 7 5000 (uniform 7) → mask_by o s ln f ≡ contig_mask s
  unfolding contig_mask defaults
  mask_here ln f a b =
      ap (λ (z : LongdustOptions). mask_by z s ln f) e
      ∙ ap₂ (λ (x y : List Float). mask defaults s x y) a (b ∙ ap (λ (d : Density). f_table 7 5000 d) (sym (same_density (codes s))))

  pub kmer_here : o.kmer ≡ 7
  unfolding defaults
  kmer_here = ap (λ (z : LongdustOptions). z.kmer) e

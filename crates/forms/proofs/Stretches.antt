-- The lines of a record's strongest stretches, by tables that are lent for it.
use Rattle.std.proofs.Common.{◌≡◌, ℕ, true, ◌||◌, List, [], ◌++◌, refl, ◌∙◌}
use lib.Ieee.{Float}
use Rattle.checks.specs.Tests.{kmer_outside, window_above}
use Rattle.intervals.specs.declared.Interval.{Interval}
use Rattle.longdust.specs.declared.LongdustOptions.{LongdustOptions}
use Rattle.masker.specs.Run.{ln_of, f_of}
use Rattle.ranking.specs.declared.ranker.Wanted.{Wanted}
use Rattle.ranking.specs.Ranking.{asked_for, listing, most}
use Rattle.ranking.proofs.Listing.{none_listed}
use Rattle.forms.specs.Strongest.{strongest_lines}

module _ (o : LongdustOptions) (w : Wanted) (name s : List ℕ) (mask : List Interval) where
  pub no_lines : (text : List ℕ) → text ≡ [] → (kmer_outside o.kmer || window_above o.window_size) ≡ true → text ≡ strongest_lines o w name s mask
  unfolding strongest_lines
  no_lines text e h = e ∙ none_listed name (asked_for w o.kmer o.window_size o.score_threshold (ln_of o) (f_of o s) s mask) (most w s) h

  pub lines_are : (before after n l : List ℕ) (ln f : List Float) → before ≡ [] → n ≡ name → l ≡ s → ln ≡ ln_of o → f ≡ f_of o l
      → after ≡ before ++ listing n (asked_for w o.kmer o.window_size o.score_threshold ln f l mask) (most w l) → after ≡ strongest_lines o w name s mask
  unfolding strongest_lines
  lines_are before after n l ln f b p q r t e = e ∙ (rw (b, p, r, t, q) refl)

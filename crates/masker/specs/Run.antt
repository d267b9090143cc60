-- A record's letters alone: its refusal, its mask and its marks, in buffers of exactly the listed sizes.
use Rattle.std.specs.Prelude.{ℕ, ◌+◌, ◌^◌, ◌≡◌, ◌≤◌, List, length, take, Result, Ok, Err, Bool, true, false, not, ◌&&◌, Float}
use Rattle.tables.specs.declared.GcOption.{GcOption}
use Rattle.tables.specs.declared.GcOption.TheVariants.{Uniform, Fixed, Auto}
use Rattle.checks.specs.declared.refusal.Refusal.{Refusal}
use Rattle.checks.specs.Refusal.{number}
use Rattle.checks.specs.Tests.{most_intervals, kmer_outside, window_above}
use Rattle.letters.specs.Code.{codes}
use Rattle.intervals.specs.declared.Interval.{Interval}
use Rattle.intervals.specs.Merge.{marks_of}
use Rattle.tables.specs.Density.{density}
use Rattle.tables.specs.Tables.{ln_table, f_table}
use Rattle.longdust.specs.declared.Lent.{Lent}
use Rattle.longdust.specs.declared.LongdustOptions.{LongdustOptions}
use Rattle.longdust.specs.Buffers.{lent_sizes}
use Rattle.longdust.specs.Checks.{refusal}
use Rattle.longdust.specs.Mask.{mask, marked_mask}

-- The listed sizes for n letters.
abbrev pub listed : LongdustOptions → ℕ → Lent
listed o n =
    let R : ℕ = most_intervals n o.kmer in
    lent_sizes o.window_size (4 ^ o.kmer) n R (o.window_size + 1) (o.window_size + 2) R

-- The refusal number of the letters s, 0 if they are accepted.
unfoldable pub record_refusal : LongdustOptions → List ℕ → ℕ
record_refusal o s = refusal o s (listed o (length s))

-- The tables that the formulas give.
abbrev pub ln_of : LongdustOptions → List Float
ln_of o = ln_table o.window_size

abbrev pub f_of : LongdustOptions → List ℕ → List Float
f_of o s = f_table o.kmer o.window_size (density o.kmer o.gc (codes s))

-- The mask by these tables, and the marks of its intervals.
unfoldable pub record_mask : LongdustOptions → List ℕ → List Interval
record_mask o s = mask o s (ln_of o) (f_of o s)

unfoldable pub record_marks : LongdustOptions → List ℕ → List ℕ
record_marks o s = marks_of (marked_mask o s (ln_of o) (f_of o s))

-- What becomes of a record's letters: the number of their refusal, 0 for none; their mask, and its marks.
pub record Making : Type 0 where
  pub refusal : List ℕ → ℕ
  pub mask : List ℕ → List Interval
  pub marks : List ℕ → List ℕ

abbrev pub by_options : LongdustOptions → Making
by_options o = record { refusal = record_refusal o; mask = record_mask o; marks = record_marks o }

-- The mask and the marks stand at the front of two lists.
pub record Made (m : Making) (s : List ℕ) (list : List Interval) (marks : List ℕ) (count : ℕ) : Type 0 where
  pub accepted : m.refusal s ≡ 0
  pub list_long : count ≤ length list
  pub marks_long : count ≤ length marks
  pub list_is : take count list ≡ m.mask s
  pub marks_are : take count marks ≡ m.marks s

-- What a masker answers, with the lists that it leaves.
abbrev pub Makes : Making → List ℕ → List Interval → List ℕ → Result ℕ Refusal → Type 0
Makes m s list marks (Ok count) = Made m s list marks count
Makes m s list marks (Err r) = m.refusal s ≡ number r

-- The same by options.
abbrev pub Held : LongdustOptions → List ℕ → List Interval → List ℕ → ℕ → Type 0
Held o s list marks count = Made (by_options o) s list marks count

abbrev pub Masks : LongdustOptions → List ℕ → List Interval → List ℕ → Result ℕ Refusal → Type 0
Masks o s list marks r = Makes (by_options o) s list marks r

-- ---- Tables that are filled once.
-- The GC choice goes by a record's letters.
abbrev pub by_letters : GcOption → Bool
by_letters Uniform = false
by_letters (Fixed x) = false
by_letters Auto = true

-- One filling of the tables serves all records.
abbrev pub serves_all : LongdustOptions → Bool
serves_all o = (not (by_letters o.gc) && not (kmer_outside o.kmer)) && not (window_above o.window_size)

abbrev pub TablesFor : LongdustOptions → List Float → List Float → Type 0
TablesFor o ln f = (s : List ℕ) → serves_all o ≡ true → (ln ≡ ln_of o) × (f ≡ f_of o s)

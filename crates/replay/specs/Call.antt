-- The call that a record asks for: the sizes of its slices, its tables, and what it answers.
use Rattle.std.specs.Prelude.{ℕ, ◌-◌, min, ◌≡◌, Bool, not, ◌&&◌, cond, List, eqb, leb, Float, Result}
use Rattle.buffers.specs.Fill.{put}
use Rattle.checks.specs.declared.refusal.Refusal.{Refusal}
use Rattle.intervals.specs.declared.Interval.{Interval}
use Rattle.letters.specs.Code.{codes}
use Rattle.tables.specs.Density.{density}
use Rattle.tables.specs.Tables.{ln_table, f_table}
use Rattle.longdust.specs.declared.LongdustOptions.{LongdustOptions}
use Rattle.longdust.specs.declared.Answer.{Answer}
use Rattle.longdust.specs.Buffers.{Buffers}
use Rattle.longdust.specs.Call.{Answered, Kept}

-- Slice `number` has as many entries as listed, one less if it is the short one, none if all are empty (13); at most `room`.
unfoldable pub size : ℕ → ℕ → ℕ → ℕ → ℕ
size number short listed room = min (cond (eqb short 13) 0 (cond (eqb short number) (listed - 1) listed)) room

-- The tables are filled by their formulas where the record lends none and k and w leave room for them.
unfoldable pub filling : Bool → ℕ → ℕ → Bool
filling lent k w = (not lent && leb k 12) && leb w 64

abbrev pub f_of : LongdustOptions → List ℕ → List Float
f_of o s = f_table o.kmer o.window_size (density o.kmer o.gc (codes s))

pub record Formulas (lent : Bool) (o : LongdustOptions) (s : List ℕ) (ln f ln' f' : List Float) : Type 0 where
  pub ln_is : ln' ≡ cond (filling lent o.kmer o.window_size) (put (ln_table o.window_size) ln) ln
  pub f_is : f' ≡ cond (filling lent o.kmer o.window_size) (put (f_of o s) f) f

-- What the call on lent tables answers, on some buffers with these tables, this list and these marks.
pub record Replayed (o : LongdustOptions) (s : List ℕ) (ln f : List Float) (xs xs' : List Interval) (ys ys' : List ℕ) (r : Result Answer Refusal) : Type 0 where
  pub before : Buffers
  pub after : Buffers
  pub answered : Answered Kept o s before after r
  pub ln_is : before.ln ≡ ln
  pub f_is : before.f ≡ f
  pub list_before : before.list ≡ xs
  pub list_after : after.list ≡ xs'
  pub marks_before : before.marks ≡ ys
  pub marks_after : after.marks ≡ ys'

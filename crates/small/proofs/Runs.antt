-- What the filling call says of its mask, and what is written of the list that a run leaves.
use Rattle.std.proofs.Common.{ℕ, ◌+◌, ◌*◌, ◌≤◌, ◌≡◌, ap, ap₂, ◌∙◌, List, Ok, arith, length, take, length-take, take_at, Float}
use Rattle.checks.specs.Tests.{most_intervals}
use Rattle.letters.specs.Code.{codes}
use Rattle.intervals.specs.declared.Interval.{Interval}
use Rattle.intervals.proofs.Slice.{wrote_list}
use Rattle.intervals.proofs.Shape.{canonical_room}
use Rattle.tables.specs.declared.Density.{Density}
use Rattle.tables.specs.Density.{density}
use Rattle.tables.specs.Tables.{ln_table, f_table}
use Rattle.tables.proofs.Tables.{ln_table_length, f_table_length}
use Rattle.longdust.specs.declared.LongdustOptions.{LongdustOptions}
use Rattle.longdust.specs.declared.Answer.{Answer}
use Rattle.longdust.specs.Mask.{mask}
use Rattle.longdust.specs.Buffers.{Buffers}
use Rattle.longdust.specs.Call.{ln_read, f_read, listed, Filled, Answered}
use Rattle.small.specs.Profile.{refusal as small_refusal}
use Rattle.small.specs.Call.{filled_mask}
use Rattle.small.specs.Run.{Ran}
use Rattle.small.proofs.Profile.{output_room}

-- The mask by the tables that the filling call fills, whatever its buffers are.
module _ (o : LongdustOptions) (s : List ℕ) {b b' : Buffers} {a : Answer} (A : Answered Filled o s b b' (Ok a)) where
  mask_read : mask o s (ln_read o b') (f_read o b') ≡ filled_mask o s
  unfolding filled_mask
  mask_read =
      let w = o.window_size in
      let D : Density = density o.kmer o.gc (codes s) in
      let t = A.tables in
      ap₂
      (λ (ln f : List Float). mask o s ln f)
      (ap (λ (l : List Float). take (w + 1) l) t.ln ∙ take_at (ln_table w) _ (w + 1) (ln_table_length w))
      (ap (λ (l : List Float). take (w + 2) l) t.f ∙ take_at (f_table o.kmer w D) _ (w + 2) (f_table_length o.kmer w D))

  pub mask_listed : listed a b' ≡ filled_mask o s
  mask_listed = wrote_list A.accepted.buffers.list ∙ mask_read

  pub mask_counted : a.count ≡ length (filled_mask o s)
  mask_counted = A.accepted.buffers.list.count_is ∙ ap length mask_read

-- An accepted request of the profile: the list that the run leaves, and what is written of it.
module _ {o : LongdustOptions} {s : List ℕ} {xs xs' : List Interval} {count : ℕ} (run : Ran o s xs xs' count) (room : ℕ) (e : small_refusal o s room ≡ 0) where
  intervals_few : count ≤ most_intervals (length s) o.kmer
  intervals_few = omega (arith, run.list.count_is, canonical_room (length s) o.kmer (filled_mask o s) run.shape)

  pub bytes_room : 8 * length (take count xs') ≤ room
  bytes_room = omega (arith, intervals_few, output_room o s room e, length-take count xs')

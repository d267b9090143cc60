-- Two lists merged make what they are to make.
use Rattle.std.proofs.Common.{◌≡◌, sym, ap, ap₂, ◌∙◌, ℕ, ◌+◌, ◌<◌, Bool, false, cond, eqb, ne_eqb, List, arith, length, length-append, take, drop, Ok, Err, OnOk}
use lib.ListN.{length-map}
use lib.Seq.{take_at}
use Rattle.std.specs.Prelude.{Result}
use Rattle.buffers.specs.Fill.{put}
use Rattle.checks.specs.declared.refusal.Refusal.{Refusal}
use Rattle.checks.specs.Refusal.{number, number_of, count_of, count_unless}
use Rattle.checks.proofs.Refusing.{number_positive}
use Rattle.intervals.specs.declared.Interval.{Interval}
use Rattle.intervals.specs.declared.Marked.{Marked}
use Rattle.intervals.specs.Merge.{range, mark_of, ranges, marks_of}
use Rattle.longdust.specs.declared.LongdustOptions.{LongdustOptions}
use Rattle.longdust.specs.Strand.{strands_merged, merging_refusal}
use Rattle.masker.specs.Run.{record_refusal, Makes}
use Rattle.strands.specs.Joined.{joined_refusal, joined}

module _ (o : LongdustOptions) (F R : List Interval) (s : List ℕ) where
  pub refused_joined : (r : Refusal) → number r ≡ record_refusal o s → joined_refusal o F R s ≡ number r
  unfolding joined_refusal
  refused_joined r e =
      let n : ℕ = length F + length R in
      let some : eqb (record_refusal o s) 0 ≡ false = ne_eqb (record_refusal o s) 0 (λ z. let p : 0 < number r = number_positive r in omega (arith, p, e, z)) in
      ap (λ (b : Bool). cond b (merging_refusal (length s) F R n n) (record_refusal o s)) some ∙ sym e

  module _ (accepted : record_refusal o s ≡ 0) (old new : List Interval) (mold mnew : List ℕ) (a : length old ≡ length F + length R) (b : length mold ≡ length F + length R) where
    abbrev ms : List Marked
    ms = strands_merged (length s) F R

    refusal_is : joined_refusal o F R s ≡ merging_refusal (length s) F R (length old) (length mold)
    unfolding joined_refusal
    refusal_is =
        let n : ℕ = length F + length R in
        ap (λ (k : ℕ). cond (eqb k 0) (merging_refusal (length s) F R n n) k) accepted ∙ ap₂ (λ (x y : ℕ). merging_refusal (length s) F R x y) (sym a) (sym b)

    pub merged_makes : (r : Result ℕ Refusal) → number_of r ≡ merging_refusal (length s) F R (length old) (length mold)
        → count_of r ≡ count_unless (merging_refusal (length s) F R (length old) (length mold)) (length ms)
        → OnOk r (new ≡ put (ranges ms) old) → OnOk r (mnew ≡ put (marks_of ms) mold) → Makes (joined o F R) s new mnew r
    merged_makes (Ok count) n c l m =
        let k : count ≡ length ms = c ∙ ap (λ (z : ℕ). count_unless z (length ms)) (sym n) in
        let x : length (ranges ms) ≡ count = length-map ms range ∙ sym k in
        let y : length (marks_of ms) ≡ count = length-map ms mark_of ∙ sym k in
        record {
          accepted = refusal_is ∙ sym n;
          list_long = omega (arith, ap (λ (is : List Interval). length is) l, length-append (ranges ms) (drop (length (ranges ms)) old), x);
          marks_long = omega (arith, ap (λ (is : List ℕ). length is) m, length-append (marks_of ms) (drop (length (marks_of ms)) mold), y);
          list_is = ap (λ (is : List Interval). take count is) l ∙ take_at (ranges ms) _ count x;
          marks_are = ap (λ (is : List ℕ). take count is) m ∙ take_at (marks_of ms) _ count y;
        }
    merged_makes (Err r) n c l m = refusal_is ∙ sym n

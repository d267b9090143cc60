-- Both strands of a record masked apart, and joined.
use Rattle.std.specs.Prelude.{ℕ, ◌+◌, ◌≡◌, ◌≤◌, true, false, cond, eqb, List, length}
use Rattle.intervals.specs.declared.Interval.{Interval}
use Rattle.intervals.specs.Merge.{ranges, marks_of}
use Rattle.longdust.specs.declared.LongdustOptions.{LongdustOptions}
use Rattle.longdust.specs.Strand.{strands_merged, merging_refusal}
use Rattle.entries.specs.Outcome.{records, text_of}
use Rattle.masker.specs.Run.{Making, record_refusal}
use Rattle.strands.specs.Strand.{strand_report}

-- 16 for lists of which one is not of the usual kind in a record's letters, if they are not refused themselves.
unfoldable pub joined_refusal : LongdustOptions → List Interval → List Interval → List ℕ → ℕ
joined_refusal o forward reverse s =
    let n : ℕ = length forward + length reverse in
    cond (eqb (record_refusal o s) 0) (merging_refusal (length s) forward reverse n n) (record_refusal o s)

-- What becomes of a record's letters by two lists.
abbrev pub joined : LongdustOptions → List Interval → List Interval → Making
joined o forward reverse =
    record {
      refusal = joined_refusal o forward reverse;
      mask = λ s. ranges (strands_merged (length s) forward reverse);
      marks = λ s. marks_of (strands_merged (length s) forward reverse);
    }

-- Both strands are asked for, the file has at most one record, and the bytes are those that are written for its strands.
pub record StrandsOf (o : LongdustOptions) (file : List ℕ) (forward reverse : List ℕ) : Type 0 where
  pub both : o.forward_only ≡ false
  pub one : length (records true file) ≤ 1
  pub forward_is : forward ≡ text_of true (strand_report o false) file 0
  pub reverse_is : reverse ≡ text_of true (strand_report o true) file 0

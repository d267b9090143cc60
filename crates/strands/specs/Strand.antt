-- One strand of a record's letters, masked alone.
use Rattle.std.specs.Prelude.{ℕ, ◌≡◌, ◌≤◌, Bool, cond, eqb, List, [], length, take, Result, Ok, Err}
use Rattle.checks.specs.declared.refusal.Refusal.{Refusal}
use Rattle.checks.specs.Refusal.{number}
use Rattle.intervals.specs.declared.Interval.{Interval}
use Rattle.longdust.specs.declared.LongdustOptions.{LongdustOptions}
use Rattle.longdust.specs.Strand.{strand_list}
use Rattle.small.specs.Bytes.{bytes_of}
use Rattle.entries.specs.Sums.{no_sums}
use Rattle.entries.specs.Entries.{Entry, joined}
use Rattle.entries.specs.Outcome.{Report}
use Rattle.masker.specs.Run.{ln_of, f_of, record_refusal}

-- The list of a strand, the reverse complement's if `reverse` is true, in its own positions, by the tables that the formulas give.
unfoldable pub list_of : LongdustOptions → Bool → List ℕ → List Interval
list_of o reverse s = strand_list o reverse s (ln_of o) (f_of o s)

-- It stands at the front of a list.
pub record HeldStrand (o : LongdustOptions) (reverse : Bool) (s : List ℕ) (list : List Interval) (count : ℕ) : Type 0 where
  pub accepted : record_refusal o s ≡ 0
  pub long : count ≤ length list
  pub list_is : take count list ≡ list_of o reverse s

-- What masking a strand answers, with the list that it leaves.
abbrev pub MasksStrand : LongdustOptions → Bool → List ℕ → List Interval → Result ℕ Refusal → Type 0
MasksStrand o reverse s list (Ok count) = HeldStrand o reverse s list count
MasksStrand o reverse s list (Err r) = record_refusal o s ≡ number r

-- ---- What is written for a record of which one strand is masked: the bytes of its list, to each writer; nothing if it is refused.
unfoldable pub strand_bytes : LongdustOptions → Bool → List ℕ → List ℕ
strand_bytes o reverse s = cond (eqb (record_refusal o s) 0) (bytes_of (list_of o reverse s)) []

abbrev pub bytes_report : List ℕ → Report
bytes_report bytes = record { text = λ i. bytes; notes = []; sums = no_sums }

abbrev pub strand_report : LongdustOptions → Bool → Entry → Report
strand_report o reverse e = bytes_report (strand_bytes o reverse (joined e.lines))

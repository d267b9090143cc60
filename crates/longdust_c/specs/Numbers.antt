-- What the numbers of the calls for C stand for, and the number that such a call returns.
use Rattle.std.specs.Prelude.{ℕ, zero, suc, Bool, not, cond, eqb, ltb, List, [], ◌∷◌, length, ℤ, pos, negsuc, Float, Option, None, Some}
use Rattle.std.specs.Float.{nan}
use Rattle.checks.specs.declared.refusal.Refusal.{Refusal}
use Rattle.checks.specs.declared.refusal.Refusal.TheVariants.{KmerOutside, HighByte, TooFewLetters, WindowBelow, WindowAbove, BadThreshold, BadGc, MinStartBelow, BadXdrop, TooManyLetters, ShortSlice, BadReplacement, OtherByte, UnusualList, BadQuestion, NoBudget, PlaceOutside, HighTable, OutsideProfile, BadLength}
use Rattle.checks.specs.Checks.{check, first}
use Rattle.checks.specs.Refusal.{text}
use Rattle.floats.specs.Binary64.{zero64}
use Rattle.tables.specs.declared.GcOption.{GcOption}
use Rattle.tables.specs.declared.GcOption.TheVariants.{Uniform, Fixed, Auto}
use Rattle.longdust.specs.declared.LongdustOptions.{LongdustOptions}
use Rattle.masked_copy.specs.declared.Masking.{Masking}
use Rattle.masked_copy.specs.declared.Masking.TheVariants.{LowerCase, Replace}
use Rattle.join.specs.declared.Joined.{Joined}
use Rattle.join.specs.declared.Joined.TheVariants.{Either, Both, Outside}

-- A yes or no is a number, 0 for no.
abbrev pub yes : ℕ → Bool
yes n = not (eqb n 0)

-- 0 uniform, 1 fixed, 2 auto; any other kind stands for a fixed GC that is not a number, which is refused.
abbrev pub gc_choice : ℕ → Float → GcOption
gc_choice gc_kind gc_value = cond (eqb gc_kind 0) Uniform (cond (eqb gc_kind 1) (Fixed gc_value) (cond (eqb gc_kind 2) Auto (Fixed nan)))

-- 0 stands for none.
abbrev pub xdrop_choice : ℕ → ℕ → Option ℕ
xdrop_choice xdrop_set xdrop_length = cond (eqb xdrop_set 0) None (Some xdrop_length)

abbrev pub options_of : ℕ → ℕ → Float → ℕ → Float → ℕ → ℕ → ℕ → ℕ → ℕ → LongdustOptions
options_of kmer window_size threshold gc_kind gc_value xdrop_set xdrop_length min_start_cnt approx forward_only =
    record {
      window_size = window_size;
      score_threshold = threshold;
      kmer = kmer;
      gc = gc_choice gc_kind gc_value;
      xdrop = xdrop_choice xdrop_set xdrop_length;
      min_start_cnt = min_start_cnt;
      approx = yes approx;
      forward_only = yes forward_only;
    }

-- The call that fills the tables passes the options that shape them; the others are not read.
abbrev pub table_options : ℕ → ℕ → Float → ℕ → Float → LongdustOptions
table_options kmer window_size threshold gc_kind gc_value = options_of kmer window_size threshold gc_kind gc_value 1 50 3 0 0

-- The small profile's call does not pass GC, which is uniform.
abbrev pub small_options : ℕ → ℕ → Float → ℕ → ℕ → ℕ → ℕ → ℕ → LongdustOptions
small_options kmer window_size threshold xdrop_set xdrop_length min_start_cnt approx forward_only =
    options_of kmer window_size threshold 0 zero64 xdrop_set xdrop_length min_start_cnt approx forward_only

abbrev pub masking_of : ℕ → ℕ → Masking
masking_of lower_case replacement = cond (yes lower_case) LowerCase (Replace replacement)

-- 0 either, 1 both; any other number stands for ours outside theirs.
abbrev pub kind_of : ℕ → Joined
kind_of kind = cond (eqb kind 0) Either (cond (eqb kind 1) Both Outside)

-- The count, or minus the refusal number.
abbrev pub count_or : ℕ → ℕ → ℤ
count_or zero count = pos count
count_or (suc number) count = negsuc number

abbrev pub flag : Bool → ℕ
flag b = cond b 1 0

-- The refusal that has a number, none if no refusal has it.
abbrev pub refusal_numbered : ℕ → Option Refusal
refusal_numbered n =
    cond (eqb n 1) (Some KmerOutside)
    (cond (eqb n 2) (Some HighByte)
    (cond (eqb n 3) (Some TooFewLetters)
    (cond (eqb n 4) (Some WindowBelow)
    (cond (eqb n 5) (Some WindowAbove)
    (cond (eqb n 6) (Some BadThreshold)
    (cond (eqb n 7) (Some BadGc)
    (cond (eqb n 8) (Some MinStartBelow)
    (cond (eqb n 9) (Some BadXdrop)
    (cond (eqb n 10) (Some TooManyLetters)
    (cond (eqb n 11) (Some ShortSlice)
    (cond (eqb n 12) (Some BadReplacement)
    (cond (eqb n 13) (Some OtherByte)
    (cond (eqb n 16) (Some UnusualList)
    (cond (eqb n 17) (Some BadQuestion)
    (cond (eqb n 18) (Some NoBudget)
    (cond (eqb n 19) (Some PlaceOutside)
    (cond (eqb n 20) (Some HighTable)
    (cond (eqb n 21) (Some OutsideProfile)
    (cond (eqb n 22) (Some BadLength)
    None)))))))))))))))))))

-- Its text, empty if no refusal has the number.
abbrev pub words : Option Refusal → List ℕ
words None = []
words (Some refusal) = text refusal

abbrev pub text_numbered : ℕ → List ℕ
text_numbered n = words (refusal_numbered n)

-- 11. The text is longer than the slice of m bytes that is lent for it.
abbrev pub text_refusal : ℕ → ℕ → ℕ
text_refusal n m = first (check 11 (ltb m (length (text_numbered n))) ∷ [])

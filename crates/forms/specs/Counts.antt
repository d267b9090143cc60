-- What is counted of a record.
use Rattle.std.specs.Prelude.{ℕ, zero, suc, ◌-◌, ◌*◌, min, Bool, ◌&&◌, ◌||◌, cond, ltb, leb, List, length, get_or, take, drop}
use Rattle.std.specs.List.{count_by}
use Rattle.letters.specs.Code.{is}
use Rattle.intervals.specs.declared.Interval.{Interval}
use Rattle.intervals.specs.Interval.{interval, covered_in}
use Rattle.entries.specs.declared.sums.Sums.{Sums}
use Rattle.entries.specs.Sums.{plus}

-- Letters N, in either case.
abbrev pub is_n : ℕ → Bool
is_n b = is "N" "n" b

abbrev pub n_count : List ℕ → ℕ
n_count s = count_by is_n s

-- Letters C and G; these, A, U and T.
abbrev pub is_gc : ℕ → Bool
is_gc b = is "C" "c" b || is "G" "g" b

abbrev pub is_acgt : ℕ → Bool
is_acgt b = is_gc b || ((is "A" "a" b || is "U" "u" b) || is "T" "t" b)

abbrev pub gc_count : List ℕ → ℕ
gc_count s = count_by is_gc s

abbrev pub acgt_count : List ℕ → ℕ
acgt_count s = count_by is_acgt s

-- The letters of an interval.
abbrev pub letters_in : List ℕ → Interval → List ℕ
letters_in s i =
    let end : ℕ = min i.end (length s) in
    let start : ℕ = min i.start end in
    take (end - start) (drop start s)

-- Letters N in the first k intervals of a list; in all.
unfoldable pub n_upto : List ℕ → List Interval → ℕ → ℕ
n_upto s is zero = 0
n_upto s is (suc k) = plus (n_upto s is k) (n_count (letters_in s (get_or is k (interval 0 0))))

abbrev pub n_inside : List ℕ → List Interval → ℕ
n_inside s is = n_upto s is (length is)

-- gc of acgt letters, 10,000 or more, are less than 0.30 or more than 0.70 of them.
abbrev pub is_uneven : ℕ → ℕ → Bool
is_uneven gc acgt = leb 10000 acgt && (ltb (10 * gc) (3 * acgt) || ltb (7 * acgt) (10 * gc))

-- An accepted record with its mask.
unfoldable pub accepted_sums : List ℕ → List Interval → Sums
accepted_sums s is = record {
  records = 1;
  refused = 0;
  letters = length s;
  intervals = length is;
  masked = covered_in is 0 (length s);
  n = n_count s;
  masked_n = n_inside s is;
  gc = gc_count s;
  acgt = acgt_count s;
  uneven = cond (is_uneven (gc_count s) (acgt_count s)) 1 0;
}

-- A refused record: itself, and nothing of it.
abbrev pub refused_sums : Sums
refused_sums = record { records = 1; refused = 1; letters = 0; intervals = 0; masked = 0; n = 0; masked_n = 0; gc = 0; acgt = 0; uneven = 0 }

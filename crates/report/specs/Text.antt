-- The paper, 'Tables and the program': what is printed, as a list of bytes. Each line ends in byte 10.
use Rattle.std.specs.Prelude.{ℕ, zero, suc, ◌/◌, cond, List, [], ◌∷◌, ◌++◌, ltb, length}
use Rattle.io.specs.Digits.{last_digits}
use Rattle.intervals.specs.declared.Interval.{Interval}
use Rattle.report.specs.Ascii.{ascii}

-- How many decimal digits n has, at most m + 1.
unfoldable pub digit_count : ℕ → ℕ → ℕ
digit_count zero n = 1
digit_count (suc m) n = cond (ltb n 10) 1 (suc (digit_count m (n / 10)))

-- n in decimal, in the fewest digits.
unfoldable pub decimal : ℕ → List ℕ
decimal n = last_digits 10 (digit_count n n) n

-- Start, tab, end.
abbrev pub line : Interval → List ℕ
line i = decimal i.start ++ (ascii "\t" ++ (decimal i.end ++ ascii "\n"))

unfoldable pub lines : List Interval → List ℕ
lines [] = []
lines (i ∷ is) = line i ++ lines is

-- A word, a number, and the line's end.
abbrev pub numbered : List ℕ → ℕ → List ℕ
numbered word n = word ++ (decimal n ++ ascii "\n")

abbrev pub count_line : ℕ → List ℕ
count_line n = numbered (ascii "intervals ") n

-- The report of an accepted request, of a refused one, and of more letters than are taken.
abbrev pub report : List Interval → List ℕ
report is = lines is ++ count_line (length is)

abbrev pub refusal_line : ℕ → List ℕ
refusal_line number = numbered (ascii "refused ") number

abbrev pub size_line : List ℕ
size_line = ascii "refused size\n"

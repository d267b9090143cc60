-- Masked copies: the letters of a sequence, those that an interval of a list holds in lower case, or replaced by N or X.
use Rattle.std.specs.Prelude.{ℕ, ◌+◌, Bool, false, not, ◌&&◌, ◌||◌, cond, List, [], ◌∷◌, ltb, leb, eqb, length, get_or}
use Rattle.buffers.specs.Fill.{tabulate}
use Rattle.checks.specs.Checks.{Check, check, first}
use Rattle.intervals.specs.declared.Interval.{Interval}
use Rattle.intervals.specs.Interval.{covered}
use Rattle.masked_copy.specs.declared.Masking.{Masking}
use Rattle.masked_copy.specs.declared.Masking.TheVariants.{LowerCase, Replace}

-- A to Z in lower case; any other byte as it is.
unfoldable pub lower : ℕ → ℕ
lower b = cond (leb 65 b && leb b 90) (b + 32) b

-- The byte shown for a masked letter b.
abbrev pub shown : Masking → ℕ → ℕ
shown LowerCase b = lower b
shown (Replace r) b = r

-- The byte shown for letter x of the sequence s: it is masked if any interval of the list holds x.
abbrev pub byte_at : Masking → List Interval → List ℕ → ℕ → ℕ
byte_at m is s x = cond (covered is x) (shown m (get_or s x 0)) (get_or s x 0)

unfoldable pub copy_of : Masking → List Interval → List ℕ → List ℕ
copy_of m is s = tabulate (byte_at m is s) (length s)

-- A replacement other than N or X.
unfoldable pub replacement_bad : Masking → Bool
replacement_bad LowerCase = false
replacement_bad (Replace r) = not (eqb r 78 || eqb r 88)

-- 12, such a replacement, then 11, a buffer d shorter than the sequence.
abbrev pub checks : Masking → List ℕ → List ℕ → List Check
checks m s d = check 12 (replacement_bad m) ∷ check 11 (ltb (length d) (length s)) ∷ []

abbrev pub refusal : Masking → List ℕ → List ℕ → ℕ
refusal m s d = first (checks m s d)

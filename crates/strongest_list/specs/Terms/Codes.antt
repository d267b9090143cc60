-- Terms of contracts: a buffer of codes in which the letters that no entry may hold are barred by a code 5.
use Rattle.std.specs.Prelude.{◌≡◌, ℕ, zero, suc, ◌+◌, ◌≤◌, ◌<◌, Bool, true, not, ◌&&◌, cond, List, [], ◌∷◌, ltb, leb, length, get_or}
use Rattle.letters.specs.Code.{codes}
use Rattle.intervals.specs.declared.Interval.{Interval}
use Rattle.intervals.specs.Interval.{covered}
use Rattle.strongest_list.specs.Stretches.{Asked, Stretch, letters}

-- Letter x neither lies in an interval nor beside it.
abbrev pub clear_of : Interval → ℕ → Bool
clear_of i x = not (leb i.start (x + 1) && leb x i.end)

unfoldable pub clear_of_all : ℕ → List Stretch → ℕ → Bool
clear_of_all k [] x = true
clear_of_all k (s ∷ ss) x = clear_of (letters k s) x && clear_of_all k ss x

-- Letter x may lie in the next entry.
abbrev pub free : Asked → List Stretch → ℕ → Bool
free A found x = covered A.regions x && clear_of_all A.kmer found x

-- The buffer has the codes of the free letters, and 5 for the others.
pub record Shows (A : Asked) (found : List Stretch) (cs : List ℕ) : Type 0 where
  pub long : length cs ≡ length A.sequence
  pub at : (x : ℕ) → x < length cs → get_or cs x 5 ≡ cond (free A found x) (get_or (codes A.sequence) x 4) 5

-- Letters from .. to - 1 were barred.
pub record Bars (from to : ℕ) (cs cs' : List ℕ) : Type 0 where
  pub at : (x : ℕ) → get_or cs' x 5 ≡ cond (leb from x && ltb x to) 5 (get_or cs x 5)

-- The letters of a region were given their codes.
pub record Opens (s : List ℕ) (i : Interval) (cs cs' : List ℕ) : Type 0 where
  pub at : (x : ℕ) → get_or cs' x 5 ≡ cond (leb i.start x && ltb x i.end) (get_or (codes s) x 4) (get_or cs x 5)

-- How many letters in a row before letter e are not barred.
unfoldable pub run_to : List ℕ → ℕ → ℕ
run_to cs zero = 0
run_to cs (suc e) = cond (ltb (get_or cs e 5) 5) (suc (run_to cs e)) 0

-- Letters from .. to - 1 are barred.
pub record AllBarred (cs : List ℕ) (from to : ℕ) : Type 0 where
  pub at : (x : ℕ) → from ≤ x → x < to → 5 ≤ get_or cs x 5

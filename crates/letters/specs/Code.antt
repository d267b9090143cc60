-- The paper, 'Letters and places': letters as codes, and the reverse complement.
use Rattle.std.specs.Prelude.{ℕ, ◌-◌, Bool, cond, ◌||◌, List, map, reverse, ◌==◌, nat_lt}
use Prim.Native.Char.{Char}
use Prim.Native.Char as Native

-- The byte of a letter.
abbrev pub letter : Char → ℕ
letter c = Native.code c

-- The byte b is this letter, in upper or in lower case.
abbrev pub is : Char → Char → ℕ → Bool
is upper lower b = b == letter upper || b == letter lower

-- Each base in either case, U beside T, and all other bytes.
-- The IUPAC letters R Y S W K M B D H V N and the gap signs - and . are among the others.
unfoldable pub code : ℕ → ℕ
code b =
    cond (is "A" "a" b) 0
    (cond (is "C" "c" b) 1
    (cond (is "G" "g" b) 2
    (cond (is "T" "t" b) 3
    (cond (is "U" "u" b) 3
    4))))

unfoldable pub codes : List ℕ → List ℕ
codes sequence = map code sequence

-- 0-3 and 1-2; 4 stays.
unfoldable pub complement : ℕ → ℕ
complement c = cond (nat_lt c 4) (3 - c) c

unfoldable pub reverse_complement : List ℕ → List ℕ
reverse_complement s = map complement (reverse s)

-- What is counted of records, and how it is added.
use Rattle.std.specs.Prelude.{ℕ, zero, suc, ◌+◌, ◌*◌, ◌/◌, min, List, [], ◌∷◌, ◌++◌, length, get_or}
use Rattle.std.specs.Int.{w64, to_le_bytes, from_le_bytes}
use Rattle.entries.specs.declared.sums.Sums.{Sums}

-- a + b, held at 2^64 - 1.
abbrev pub plus : ℕ → ℕ → ℕ
plus a b = min (a + b) 18446744073709551615

abbrev pub no_sums : Sums
no_sums = record { records = 0; refused = 0; letters = 0; intervals = 0; masked = 0; n = 0; masked_n = 0; gc = 0; acgt = 0; uneven = 0 }

unfoldable pub add : Sums → Sums → Sums
add a b = record {
  records = plus a.records b.records;
  refused = plus a.refused b.refused;
  letters = plus a.letters b.letters;
  intervals = plus a.intervals b.intervals;
  masked = plus a.masked b.masked;
  n = plus a.n b.n;
  masked_n = plus a.masked_n b.masked_n;
  gc = plus a.gc b.gc;
  acgt = plus a.acgt b.acgt;
  uneven = plus a.uneven b.uneven;
}

-- ---- As bytes: ten numbers of eight bytes, the lowest byte first.
abbrev pub number : ℕ → List ℕ
number n = to_le_bytes w64 n

unfoldable pub numbers : Sums → List ℕ
numbers s =
    number s.records ++ (number s.refused ++ (number s.letters ++ (number s.intervals ++ (number s.masked
    ++ (number s.n ++ (number s.masked_n ++ (number s.gc ++ (number s.acgt ++ number s.uneven))))))))

-- The number that begins at byte i; bytes past the end are 0.
abbrev pub number_at : List ℕ → ℕ → ℕ
number_at bs i =
    from_le_bytes w64
    (get_or bs i 0 ∷ get_or bs (i + 1) 0 ∷ get_or bs (i + 2) 0 ∷ get_or bs (i + 3) 0
    ∷ get_or bs (i + 4) 0 ∷ get_or bs (i + 5) 0 ∷ get_or bs (i + 6) 0 ∷ get_or bs (i + 7) 0 ∷ [])

-- The sums that begin at byte i.
unfoldable pub sums_at : List ℕ → ℕ → Sums
sums_at bs i = record {
  records = number_at bs i;
  refused = number_at bs (i + 8);
  letters = number_at bs (i + 16);
  intervals = number_at bs (i + 24);
  masked = number_at bs (i + 32);
  n = number_at bs (i + 40);
  masked_n = number_at bs (i + 48);
  gc = number_at bs (i + 56);
  acgt = number_at bs (i + 64);
  uneven = number_at bs (i + 72);
}

-- The first k sums that the bytes hold, added; all of them. What is left over counts for nothing.
unfoldable pub first_sums : List ℕ → ℕ → Sums
first_sums bs zero = no_sums
first_sums bs (suc k) = add (first_sums bs k) (sums_at bs (80 * k))

abbrev pub sums_in : List ℕ → Sums
sums_in bs = first_sums bs (length bs / 80)

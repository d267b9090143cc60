-- The paper, 'Tables and the program': GC auto is (C+G) / (A+C+G+T), 0.0 if none.
use Rattle.std.specs.Prelude.{ℕ, cond, ◌||◌, List, pos, ◌==◌, from_bits, nat_lt, Float}
use Rattle.std.specs.Float.{binary64}
use Rattle.std.specs.Float.Ieee.{div, of_int}
use Rattle.std.specs.List.{count_by}

-- How many codes are below 4.
abbrev pub acgt_count : List ℕ → ℕ
acgt_count s = count_by (λ c. nat_lt c 4) s

-- How many codes are C or G.
abbrev pub gc_count : List ℕ → ℕ
gc_count s = count_by (λ c. c == 1 || c == 2) s

unfoldable pub gc_of : List ℕ → Float
gc_of s =
    cond (acgt_count s == 0) (from_bits binary64 0)
    (div binary64 (of_int binary64 (pos (gc_count s))) (of_int binary64 (pos (acgt_count s))))

-- What a run holds for its options.
use Rattle.std.specs.Prelude.{ℕ, ◌+◌, ◌*◌, ◌/◌}

-- Tenths of a byte for each letter of a record: three bytes, and 25 for each interval that so many letters can have.
abbrev pub letter_tenths : ℕ → ℕ
letter_tenths k = 30 + 250 / (k + 1) + 1

-- Bytes whatever the record: program and input; for each letter of a window two entries of each table twice, 32, an entry of the queue, 4, and a
-- candidate, 16; for each k-mer two counts of two bytes.
abbrev pub fixed_bytes : ℕ → ℕ → ℕ
fixed_bytes kmers w = 4000000 + 52 * (w + 2) + 4 * kmers

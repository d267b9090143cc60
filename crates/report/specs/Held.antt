-- Letters of bytes that are read block by block, held in a lent buffer.
use Rattle.std.specs.Prelude.{ℕ, ◌-◌, ◌≡◌, List, length, take}
use Rattle.report.specs.Letters.{letters_of}

-- The letters of the bytes bs, as many as the buffer d has room for from the index `from` on.
unfoldable pub fitting : List ℕ → List ℕ → ℕ → List ℕ
fitting bs d from = take (length d - from) (letters_of bs)

-- The first `count` entries of the buffer d are the letters of the bytes that were read, as many as it has room for.
pub record Held (bytes d : List ℕ) (count : ℕ) : Type 0 where
  pub letters_are : take count d ≡ take (length d) (letters_of bytes)

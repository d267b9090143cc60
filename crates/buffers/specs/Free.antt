-- The paper, 'Both strands': a buffer of free content, whose entries past its listed size don't change.
use Rattle.std.specs.Prelude.{◌≡◌, List, ℕ, length, drop}

-- The first m entries are free; the others, and the length, are as they were.
pub record Free {A : Type 0} (m : ℕ) (xs xs' : List A) : Type 0 where
  pub long : length xs' ≡ length xs
  pub past : drop m xs' ≡ drop m xs

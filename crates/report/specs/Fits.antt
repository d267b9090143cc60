-- Room in a lent text, as the calls that write to it ask for it.
use Rattle.std.specs.Prelude.{ℕ, ◌+◌, ◌≤◌, List, length}
use Rattle.report.specs.declared.text.Text.{Text}

-- The text has room for xs after what is written. It goes by what a call writes, so no field of the text can hold it.
pub record Fits (xs : List ℕ) (t : Text) : Type 0 where
  pub room : t.len + length xs ≤ length t.bytes.now

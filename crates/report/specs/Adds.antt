-- What a text holds after something was written.
use Rattle.std.specs.Prelude.{ℕ, ◌≡◌, List}
use Rattle.report.specs.declared.text.Text.{Text}
use Rattle.report.specs.Written.{Written}

-- xs was written after what the text held, into the same slice.
pub record Adds (xs : List ℕ) (old new : Text) : Type 0 where
  pub written : Written xs old.bytes.now old.len new.bytes.now new.len
  pub same : new.bytes.ghost_name ≡ old.bytes.ghost_name

-- What a lent text holds after something was written into it from an index on.
use Rattle.std.specs.Prelude.{ℕ, ◌+◌, ◌≡◌, List, length}
use Rattle.buffers.specs.Fill.{put_at}

-- The text d has become d': xs was written from the index `from` on, up to `end`.
pub record Written (xs d : List ℕ) (from : ℕ) (d' : List ℕ) (end : ℕ) : Type 0 where
  pub end_is : end ≡ from + length xs
  pub text_is : d' ≡ put_at from xs d

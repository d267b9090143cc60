-- The terms of the run in the profile's own work space.
use Rattle.std.specs.Prelude.{ℕ, ◌+◌, ◌≡◌, List, take, Float}
use Rattle.longdust.specs.declared.LongdustOptions.{LongdustOptions}
use Rattle.longdust.specs.Mask.{mask}
use Rattle.small.specs.Call.{filled_mask}

-- By these tables the letters have the mask that they have by the filled ones.
pub record Serve (o : LongdustOptions) (s : List ℕ) (ln f : List Float) : Type 0 where
  pub same_mask : mask o s (take (o.window_size + 1) ln) (take (o.window_size + 2) f) ≡ filled_mask o s

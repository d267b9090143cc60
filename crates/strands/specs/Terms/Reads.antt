-- The joiner of lists that were bytes.
use Rattle.std.specs.Prelude.{ℕ, ◌≡◌, List}
use Rattle.intervals.specs.declared.Interval.{Interval}
use Rattle.longdust.specs.declared.LongdustOptions.{LongdustOptions}
use Rattle.small.specs.Bytes.{bytes_of}
use Rattle.strands.specs.Bytes.{AllFit}
use Rattle.strands.specs.declared.joining.Joiner.{Joiner}

pub record Reads (o : LongdustOptions) (forward reverse : List ℕ) (j : Joiner) : Type 0 where
  pub options : j.options ≡ o
  pub forward_is : (is : List Interval) → AllFit is → forward ≡ bytes_of is → j.forward.items ≡ is
  pub reverse_is : (is : List Interval) → AllFit is → reverse ≡ bytes_of is → j.reverse.items ≡ is

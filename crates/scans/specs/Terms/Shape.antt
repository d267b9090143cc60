-- Terms of contracts: tables of the usual shape, in which ln does not fall and f grows the more the longer the stretch is, as floats compare.
use Rattle.std.specs.Prelude.{◌≡◌, ℕ, zero, suc, ◌-◌, Bool, true, ◌&&◌, List, T, get_or, Float}
use Rattle.std.specs.Float.{nan}
use Rattle.std.specs.Float.Ieee.{le}
use Rattle.floats.specs.Arithmetic.{◌⊖◌}
use Rattle.scans.specs.Setup.{Setup}
use Rattle.scans.specs.Range.{in_range, CheckedSetup}
use Rattle.scans.specs.Terms.Numbers.{setup_of}
use Rattle.scans.specs.declared.Params.{Params}

-- By how much f entry l + 1 is above entry l; entry 1 is above nothing.
abbrev pub f_step : List Float → ℕ → Float
f_step f zero = get_or f 1 nan
f_step f (suc l) = get_or f (suc (suc l)) nan ⊖ get_or f (suc l) nan

-- Up to entry m + 1 neither the ln entries nor the steps of f fall.
unfoldable pub usual_to : List Float → List Float → ℕ → Bool
usual_to ln f zero = true
usual_to ln f (suc m) = usual_to ln f m && (le (get_or ln (suc m) nan) (get_or ln (suc (suc m)) nan) && le (f_step f m) (f_step f (suc m)))

abbrev pub is_usual : Setup → Bool
is_usual S = usual_to S.ln S.f (S.window_size - 1)

pub record Usual (S : Setup) : Type 0 where
  pub checked : CheckedSetup S
  pub ranged : T (in_range S)
  pub shaped : T (is_usual S)

-- Where the numbers say that the tables are of the usual shape, they are. Not a field of `Setup`: the steps of a run take tables of any shape.
pub record Shaped (p : Params) (ln f : List Float) : Type 0 where
  pub told : p.usual ≡ true → Usual (setup_of p ln f)

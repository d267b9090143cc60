-- The paper, 'Records' and 'Step and scans': the numbers and the two tables that a run goes by.
use Rattle.std.specs.Prelude.{ℕ, zero, suc, ◌^◌, Bool, cond, List, get_or, ℤ, pos, Float, Option, None, Some}
use Rattle.std.specs.Float.{nan}
use Rattle.std.specs.Float.Ieee.{lt, to_signed}
use Rattle.floats.specs.Arithmetic.{◌⊕◌, ◌⊖◌, ◌⊗◌, ◌⊘◌}
use Rattle.floats.specs.Binary64.{zero64, number}

pub record Setup : Type 0 where
  pub kmer : ℕ  -- k
  pub window_size : ℕ  -- w
  pub score_threshold : Float  -- T
  pub min_start_cnt : ℕ
  pub drop_limit : Float
  pub approx : Bool
  pub max_test : ℤ
  pub ln : List Float
  pub f : List Float

abbrev pub ln_at : Setup → ℕ → Float
ln_at S c = get_or S.ln c nan

abbrev pub f_at : Setup → ℕ → Float
f_at S l = get_or S.f l nan

-- How many k-mers there are: 4^k.
abbrev pub kmers : Setup → ℕ
kmers S = 4 ^ S.kmer

-- The drop limit is xdrop times T; none: w times T.
abbrev pub drop_places : Option ℕ → ℕ → ℕ
drop_places None w = w
drop_places (Some l) w = l

unfoldable pub drop_limit : Option ℕ → ℕ → Float → Float
drop_limit xdrop w t = t ⊗ number (drop_places xdrop w)

-- max_test: the first i in 1..w with sum(ln - T) - f[i] > 0 gives (i times ln[i]) / T, cut towards zero to a signed 32-bit number; none gives 0.
-- `m` entries are left, the next is i, and s is the sum so far.
unfoldable pub max_test_from : Float → List Float → List Float → ℕ → ℕ → Float → ℤ
max_test_from t ln f zero i s = pos 0
max_test_from t ln f (suc m) i s =
    let s' : Float = s ⊕ (get_or ln i nan ⊖ t) in
    let later : ℤ = max_test_from t ln f m (suc i) s' in
    cond (lt zero64 (s' ⊖ get_or f i nan)) (to_signed 31 (number i ⊗ get_or ln i nan ⊘ t)) later

unfoldable pub max_test : ℕ → Float → List Float → List Float → ℤ
max_test w t ln f = max_test_from t ln f w 1 zero64

-- Where the flag of a checked setup says yes, T and the table entries lie in the ranges that the evidence asks for.
use Rattle.std.proofs.Common.{◌≡◌, sym, subst, ℕ, zero, suc, ◌≤◌, ◌<◌, eq-or-lt_of_le, arith, ⊎_elim, Bool, ◌&&◌, List, get_or, T, Float}
use lib.Ieee.{nan, le}
use lib.Ieee.Fits.{and_l, and_r}
use Rattle.floats.specs.Binary64.{zero64, sixteen, two_to20}
use Rattle.floats.proofs.Order.{lt_le}
use Rattle.floats.proofs.Range.{ranged_16, ranged_20}
use Rattle.scans.specs.Setup.{Setup, ln_at, f_at}
use Rattle.scans.proofs.Gain.{InRange}
use Rattle.scans.specs.Range.{between, table_in_range, in_range, CheckedSetup}

table_at : (high : Float) (table : List Float) (w : ℕ) → T (table_in_range high table w) → (c : ℕ) → 0 < c → c ≤ w → T (between high (get_or table c nan))
unfolding table_in_range
table_at high table zero t c a b = absurd (omega arith)
table_at high table (suc w) t c a b =
    let last : Bool = between high (get_or table (suc w) nan) in
    ⊎_elim (λ (e : c ≡ suc w). subst (λ (z : ℕ). T (between high (get_or table z nan))) (sym e) (and_r (table_in_range high table w) last t))
    (λ (l : c < suc w). table_at high table w (and_l (table_in_range high table w) last t) c a (omega arith)) (eq-or-lt_of_le b)

pub in_range_lem : (S : Setup) → CheckedSetup S → T (in_range S) → InRange S
unfolding in_range
in_range_lem S a t =
    let w : ℕ = S.window_size in
    let lns : Bool = table_in_range sixteen S.ln w in
    let fs : Bool = table_in_range two_to20 S.f w in
    let th : Bool = le S.score_threshold sixteen in
    let tables = and_r th (lns && fs) t in
    record {
      window_small = a.window_small;
      window_some = a.window_some;
      t_ranged = ranged_16 S.score_threshold a.t_fits (lt_le zero64 S.score_threshold a.t_above) (and_l th (lns && fs) t);
      ln_ranged = λ c u v.
          let x : Float = ln_at S c in
          let b = table_at sixteen S.ln w (and_l lns fs tables) c u v in
          ranged_16 x (a.ln_fits c v) (and_l (le zero64 x) (le x sixteen) b) (and_r (le zero64 x) (le x sixteen) b);
      f_ranged = λ l u v.
          let x : Float = f_at S l in
          let b = table_at two_to20 S.f w (and_r lns fs tables) l u v in
          ranged_20 x (a.f_fits l v) (and_l (le zero64 x) (le x two_to20) b) (and_r (le zero64 x) (le x two_to20) b);
    }

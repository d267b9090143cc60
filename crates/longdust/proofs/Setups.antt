-- The setup that a run's numbers make is that of the options, its floats are such as the evidence asks for, and its tables of the usual shape where the numbers say so.
use Rattle.std.proofs.Common.{◌≡◌, sym, ap, subst, ◌∙◌, Bool, true, false, not, ◌&&◌, List, ℕ, ◌-◌, arith, ℤ, get_or, T, Float}
use lib.Ieee.{nan, inf, binary64, fits, lt}
use lib.Ieee.Fits.{and_l, and_r}
use Rattle.floats.specs.Binary64.{zero64}
use Rattle.checks.specs.Tests.{threshold_bad}
use Rattle.scans.specs.declared.Params.{Params}
use Rattle.scans.specs.Setup.{Setup, drop_limit, max_test}
use Rattle.scans.specs.Range.{in_range, CheckedSetup}
use Rattle.scans.specs.Terms.Numbers.{setup_of}
use Rattle.scans.specs.Terms.Shape.{usual_to, Usual, Shaped}
use Rattle.longdust.specs.declared.LongdustOptions.{LongdustOptions}
use Rattle.longdust.specs.Mask.{setup}
use Rattle.longdust.specs.Terms.Inner.{Bounds, Prepared}

pub prepared : (o : LongdustOptions) (ln f : List Float) (limit : Float) (test test' : ℤ) (usual : Bool) → test' ≡ test
    → limit ≡ drop_limit o.xdrop o.window_size o.score_threshold
    → test ≡ max_test o.window_size o.score_threshold ln f
    → setup_of
    (record {
      kmer = o.kmer;
      window_size = o.window_size;
      min_start_cnt = o.min_start_cnt;
      score_threshold = o.score_threshold;
      drop_limit = limit;
      approx = o.approx;
      max_test = test';
      usual = usual;
    })
    ln
    f
    ≡ setup o ln f
unfolding setup
prepared o ln f limit test test' usual e l t = rw (e, l, t)

module _ {o : LongdustOptions} {ln f : List Float} {p : Params} (q : Prepared o ln f p) where
  pub prepared_kmer : p.kmer ≡ o.kmer
  unfolding setup
  prepared_kmer = ap (λ (S : Setup). S.kmer) q.setup_is

  pub prepared_window : p.window_size ≡ o.window_size
  unfolding setup
  prepared_window = ap (λ (S : Setup). S.window_size) q.setup_is

above_zero : (t : Float) → threshold_bad t ≡ false → T (lt zero64 t)
unfolding threshold_bad
above_zero t e = go (lt zero64 t) (lt t (inf false)) e
  where
    go : (a b : Bool) → not (a && b) ≡ false → T a
    go true b e' = tt
    go false b e' = absurd (let z : ◌≡◌ {A = ℕ} 0 1 = cc in let y : ⊥ = omega arith in y)

pub float_bits : (o : LongdustOptions) (ln f : List Float) → Bounds o → T (fits binary64 o.score_threshold)
    → ((i : ℕ) → T (fits binary64 (get_or ln i nan))) → ((i : ℕ) → T (fits binary64 (get_or f i nan))) → CheckedSetup (setup o ln f)
unfolding setup
float_bits o ln f b t x y =
    record {
      window_small = b.window_high;
      window_some = omega (arith, b.window_low);
      t_fits = t;
      t_above = above_zero o.score_threshold b.threshold_good;
      ln_fits = λ c h. x c;
      f_fits = λ l h. y l;
    }

pub shaped_by : (o : LongdustOptions) (ln f : List Float) (p : Params) (flag long : Bool) → flag ≡ in_range (setup o ln f)
    → p.usual ≡ (flag && (long && usual_to ln f (o.window_size - 1))) → setup_of p ln f ≡ setup o ln f → CheckedSetup (setup o ln f) → Shaped p ln f
unfolding setup
shaped_by o ln f p flag long ranged usual same checked =
    let shape : Bool = usual_to ln f (o.window_size - 1) in
    record {
      told = λ e.
          let t : T (flag && (long && shape)) = subst T (sym e ∙ usual) tt in
          subst Usual (sym same)
          (record { checked = checked; ranged = subst T ranged (and_l flag (long && shape) t); shaped = and_r long shape (and_r flag (long && shape) t) });
    }

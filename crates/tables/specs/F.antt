-- The paper, 'Tables and the program': f by `calculate_f_internal`, with `f_large` and `stirlings_approx`.
use Rattle.std.specs.Prelude.{ℕ, zero, suc, ◌^◌, cond, from_bits, slice_index_or, Float}
use Rattle.std.specs.Float.{nan, binary64}
use Rattle.std.specs.Float.Ieee.{le, lt}
use Rattle.floats.specs.Arithmetic.{◌⊕◌, ◌⊖◌, ◌⊗◌, ◌⊘◌}
use Rattle.floats.specs.Binary64.{number, zero64, half64, one64, two64}
use Rattle.tables.specs.declared.Density.{Density}
use Rattle.tables.specs.Ln.{ln_of}
use Rattle.tables.specs.Exp.{exp_neg}

-- 2^-52, the Rust's `f64::EPSILON`
abbrev pub epsilon : Float
epsilon = from_bits binary64 0x3cb0_0000_0000_0000

-- 12.0
abbrev pub twelve : Float
twelve = from_bits binary64 0x4028_0000_0000_0000

-- 19.0
abbrev pub nineteen : Float
nineteen = from_bits binary64 0x4033_0000_0000_0000

-- 30.0
abbrev pub thirty : Float
thirty = from_bits binary64 0x403e_0000_0000_0000

-- the float nearest to pi
abbrev pub pi : Float
pi = from_bits binary64 0x4009_21fb_5444_2d18

-- the float nearest to e
abbrev pub euler : Float
euler = from_bits binary64 0x4005_bf0a_8b14_5769

-- m terms more, from n on: x is the sum so far, sn that of ln 2 .. ln (n - 1), y is lambda^(n - 1) / (n - 1)!
unfoldable pub terms_from : ℕ → ℕ → Float → Float → Float → Float → Float
terms_from zero n lambda x sn y = x
terms_from (suc m) n lambda x sn y =
    let sn' = sn ⊕ ln_of (number n) in
    let y' = y ⊗ (lambda ⊘ number n) in
    let z = y' ⊗ sn' in
    cond (le z (x ⊗ epsilon)) x (terms_from m (suc n) lambda (x ⊕ z) sn' y')

-- The terms of n = 2 .. 10000.
unfoldable pub terms : Float → Float
terms lambda = terms_from 9999 2 lambda zero64 zero64 lambda

unfoldable pub stirlings_approx : Float → Float
stirlings_approx lambda = lambda ⊗ (ln_of lambda ⊖ one64) ⊕ half64 ⊗ ln_of (two64 ⊗ pi ⊗ euler ⊗ lambda)

unfoldable pub f_large : Float → Float
f_large lambda =
    stirlings_approx lambda
    ⊖ one64 ⊘ (twelve ⊗ lambda) ⊗ (one64 ⊕ half64 ⊘ lambda ⊕ nineteen ⊘ (thirty ⊗ lambda ⊗ lambda))

-- The expected score of one k-mer that is expected lambda times.
unfoldable pub f_class : Float → Float
f_class lambda = cond (lt lambda thirty) (terms lambda ⊗ exp_neg lambda) (f_large lambda)

-- n classes more, from class i on: share is l / 4^k, accum the sum so far.
unfoldable pub classes_from : ℕ → ℕ → Density → Float → Float → Float
classes_from zero i d share accum = accum
classes_from (suc n) i d share accum =
    classes_from n (suc i) d share (accum ⊕ f_class (share ⊗ slice_index_or d.ratio i nan) ⊗ slice_index_or d.count i nan)

-- f at length l
unfoldable pub f_of : ℕ → Density → ℕ → Float
f_of k d zero = zero64
f_of k d (suc l) = classes_from d.classes 0 d (number (suc l) ⊘ number (4 ^ k)) zero64

-- The turns and ends of the loops over the terms of a class and over the classes, and f's first entry.
use Rattle.std.proofs.Common.{◌≡◌, ℕ, zero, suc, ◌+◌, ◌^◌, ◌<◌, true, false, get_or, refl, add-one, arith, Float}
use lib.Ieee.{nan, le}
use Rattle.floats.specs.Arithmetic.{◌⊕◌, ◌⊗◌, ◌⊘◌}
use Rattle.floats.specs.Binary64.{number, zero64}
use Rattle.tables.specs.declared.Density.{Density}
use Rattle.tables.specs.Ln.{ln_of}
use Rattle.tables.specs.F.{epsilon, terms_from, f_class, classes_from, f_of}

-- ---- the terms, p of them left from n on; s is ln n as the code has it
module _ (m p n : ℕ) (lambda x sn y s : Float) (left : p ≡ suc m) (is_ln : s ≡ ln_of (number n)) where
  abbrev z : Float
  z = y ⊗ (lambda ⊘ number n) ⊗ (sn ⊕ s)

  pub term_added : le z (x ⊗ epsilon) ≡ false → terms_from m (n + 1) lambda (x ⊕ z) (sn ⊕ s) (y ⊗ (lambda ⊘ number n)) ≡ terms_from p n lambda x sn y
  unfolding terms_from
  term_added t = rw (left, ← is_ln, t, add-one n)

pub term_last : (p n : ℕ) (lambda x sn y s : Float) → 0 < p → s ≡ ln_of (number n) → le (y ⊗ (lambda ⊘ number n) ⊗ (sn ⊕ s)) (x ⊗ epsilon) ≡ true → x ≡ terms_from p n lambda x sn y
unfolding terms_from
term_last zero n lambda x sn y s h e t = absurd (let b : ⊥ = omega arith in b)
term_last (suc m) n lambda x sn y s h e t = rw (← e, t)

pub terms_over : (p n : ℕ) (lambda x sn y : Float) → p ≡ 0 → x ≡ terms_from p n lambda x sn y
unfolding terms_from
terms_over p n lambda x sn y e = rw e

-- ---- the classes, p of them left from class i on; v is the class's f as the code has it
pub class_added : (m p i : ℕ) (d : Density) (share accum v : Float) → p ≡ suc m → v ≡ f_class (share ⊗ get_or d.ratio i nan)
    → classes_from m (i + 1) d share (accum ⊕ v ⊗ get_or d.count i nan) ≡ classes_from p i d share accum
unfolding classes_from
class_added m p i d share accum v left is_f = rw (left, ← is_f, add-one i)

pub classes_over : (p i : ℕ) (d : Density) (share accum : Float) → p ≡ 0 → accum ≡ classes_from p i d share accum
unfolding classes_from
classes_over p i d share accum e = rw e

-- ---- f
pub f_none : (k : ℕ) (d : Density) (l : ℕ) → l ≡ 0 → zero64 ≡ f_of k d l
unfolding f_of
f_none k d l e = rw e

pub f_some : (k : ℕ) (d : Density) (l n : ℕ) (all : Float) → (l ≡ 0 → ⊥) → n ≡ d.classes → all ≡ number (4 ^ k) → classes_from n 0 d (number l ⊘ all) zero64 ≡ f_of k d l
unfolding f_of
f_some k d zero n all h g e = absurd (h refl)
f_some k d (suc l) n all h g e = rw (g, e)

-- The laws by which `terms` is proved.
pub ruleset of_terms = (term_added, term_last, terms_over)

-- The laws by which `calculate_f_internal` is proved.
pub ruleset of_classes = (class_added, classes_over, f_none, f_some)

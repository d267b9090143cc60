-- A test of the bytes, one after another.
use Rattle.std.proofs.Common.{◌≡◌, sym, ap, ◌∙◌, Bool, ◌||◌, List, ℕ, suc, ◌+◌, ◌≤◌, ◌<◌, add-one, length, get_or, drop, drop_of_length-le, drop-cons}
use mathlib.Core.Bool.{or_assoc, or-false}
use Rattle.checks.specs.Tests.{any_byte}

module _ (test : ℕ → Bool) (s : List ℕ) (i : ℕ) (a : Bool) where
  -- One byte more; a says whether one of those before passed.
  pub any_more : (t : Bool) → t ≡ test (get_or s i 0) → i < length s → (a || any_byte test (drop i s)) ≡ ((a || t) || any_byte test (drop (i + 1) s))
  unfolding any_byte
  any_more t e h =
      ap (λ (l : List ℕ). a || any_byte test l) (drop-cons s i 0 h)
      ∙ sym (or_assoc a (test (get_or s i 0)) (any_byte test (drop (suc i) s)))
      ∙ ap (λ (n : ℕ). (a || test (get_or s i 0)) || any_byte test (drop n s)) (sym (add-one i))
      ∙ ap (λ (b : Bool). (a || b) || any_byte test (drop (i + 1) s)) (sym e)

  pub any_end : length s ≤ i → (a || any_byte test (drop i s)) ≡ a
  unfolding any_byte
  any_end h = ap (λ (l : List ℕ). a || any_byte test l) (drop_of_length-le s h) ∙ or-false a

-- The laws by which `find_bytes` is proved.
pub ruleset of_bytes = (any_more, any_end)

-- What the places gain less what they lose is the exact score of the paper, over any tables of whole numbers: that of the request 'Strongest stretch at a letter'.
use Rattle.std.proofs.Common.{◌≡◌, refl, sym, ap, ap₂, ◌∙◌, ℕ, ◌+◌, ◌*◌, arith, List, [], ◌∷◌, length, get_or, ℤ, pos, ◌+ℤ◌, ◌-ℤ◌, ◌*ℤ◌}
use Rattle.floats.proofs.Whole.{Is, is_as, is_sub, is_times}
use Rattle.letters.specs.Place.{Place, ambiguous, plain, Below}
use Rattle.scans.specs.Score.{ln_sums, score_by}
use Rattle.scans.proofs.Exact.{adds, sums_none, sums_cons}
use Rattle.deep.specs.Scores.{order, gain, loss}

abbrev pub entry : List ℕ → ℕ → ℤ
entry table i = pos (get_or table i 0)

module _ (ln : List ℕ) (none : get_or ln 0 0 ≡ 0) (m : ℕ) where
  pub adds_is : (q : List Place) (e : Place) → adds (entry ln) q e ≡ pos (get_or ln (order q e) 0)
  adds_is q ambiguous = ap pos (sym none)
  adds_is q (plain x) = refl

  pub gain_is : (q : List Place) → Below m q → ln_sums (entry ln) m q ≡ pos (gain ln q)
  gain_is [] h = sums_none (entry ln) m
  gain_is (e ∷ q) h =
      sums_cons (entry ln) m q e h.0 ∙ ap₂ (λ (x y : ℤ). x +ℤ y) (gain_is q h.1) (adds_is q e)
      ∙ ap pos (let z : gain ln q + get_or ln (order q e) 0 ≡ get_or ln (order q e) 0 + gain ln q = omega arith in z)

  is_pos : (n : ℕ) → Is (pos n) n 0
  is_pos n = omega arith

  pub score_is : (t : ℕ) (f : List ℕ) (q : List Place) → Below m q → Is (score_by (entry ln) (entry f) (pos t) m q) (gain ln q) (loss t f (length q))
  score_is t f q h =
      let l : ℕ = length q in
      let g : ℕ = gain ln q in
      let e : ℕ = get_or f l 0 in
      rw (gain_is q h)
      (is_as (pos g -ℤ pos l *ℤ pos t -ℤ pos e) (g + l * 0 + 0) (0 + l * t + e) g (loss t f l) (omega arith)
      (is_sub (pos g -ℤ pos l *ℤ pos t) (pos e) (g + l * 0) (0 + l * t) e 0 (is_sub (pos g) (pos l *ℤ pos t) g 0 (l * t) (l * 0) (is_pos g) (is_times (pos t) l t 0 (is_pos t))) (is_pos e)))

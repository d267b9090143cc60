-- GC content: that the reverse complement has the sequence's.
use Rattle.std.proofs.Common.{◌≡◌, ℕ, zero, suc, ◌+◌, Bool, cond, ◌||◌, eqb, ltb, List, [], ◌∷◌, map, reverse, sym, refl, ap, ◌∙◌, ap₂, add_comm, arith}
use mathlib.Core.List.{reverse-cons}
use Rattle.std.specs.List.{count_by}
use Rattle.std.proofs.lemmas.List.Sums.{sum_by-cons, sum_by_push}
use Rattle.letters.specs.Code.{complement, reverse_complement}
use Rattle.letters.specs.Gc.{gc_of}
use Rattle.letters.proofs.Codes.{complement_other}

-- For a test that tells neither A from T nor C from G.
module _ (t : ℕ → Bool) (at : t 3 ≡ t 0) (cg : t 2 ≡ t 1) where
  test_complement : (c : ℕ) → t (complement c) ≡ t c
  unfolding complement
  test_complement zero = at
  test_complement (suc zero) = cg
  test_complement (suc (suc zero)) = sym cg
  test_complement (suc (suc (suc zero))) = sym at
  test_complement (suc (suc (suc (suc c)))) = ap t (complement_other (suc (suc (suc (suc c)))) (omega arith))

  count_map : (s : List ℕ) → count_by t (map complement s) ≡ count_by t s
  count_map [] = refl
  count_map (c ∷ s) =
      sum_by-cons (λ (x : ℕ). cond (t x) 1 0) (complement c) (map complement s)
      ∙ ap₂ (λ (b : Bool) (n : ℕ). cond b 1 0 + n) (test_complement c) (count_map s)
      ∙ sym (sum_by-cons (λ (x : ℕ). cond (t x) 1 0) c s)

  count_reverse : (s : List ℕ) → count_by t (reverse s) ≡ count_by t s
  count_reverse [] = refl
  count_reverse (c ∷ s) =
      let f : ℕ → ℕ = λ (x : ℕ). cond (t x) 1 0 in
      rw reverse-cons
      (sum_by_push f (reverse s) c
      ∙ ap (λ (n : ℕ). n + f c) (count_reverse s)
      ∙ add_comm (count_by t s) (f c)
      ∙ sym (sum_by-cons f c s))

  count_complement : (s : List ℕ) → count_by t (reverse_complement s) ≡ count_by t s
  unfolding reverse_complement
  count_complement s = count_map (reverse s) ∙ count_reverse s

pub gc_reverse_complement : (s : List ℕ) → gc_of (reverse_complement s) ≡ gc_of s
unfolding gc_of
gc_reverse_complement s =
    rw (count_complement (λ (c : ℕ). ltb c 4) refl refl s, count_complement (λ (c : ℕ). eqb c 1 || eqb c 2) refl refl s) refl

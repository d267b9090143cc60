-- Codes and reverse complements: lengths and entries, and that the reverse complement's reverse complement is the sequence.
use Rattle.std.proofs.Common.{◌≡◌, ℕ, ◌+◌, ◌-◌, ◌<◌, ◌≤◌, Bool, true, false, cond, ltb, List, [], ◌∷◌, map, reverse, length, get_or, set, sym, refl, ap, ◌∙◌, ap₂, arith, ltb-true, le-ltb, lt-ltb}
use mathlib.Core.List.{reverse_aux, reverse-reverse}
use lib.ListN.{length-map, length-reverse, get_or-map}
use Rattle.std.proofs.lemmas.List.{get_or_default, get_or-reverse}
use Rattle.buffers.proofs.Filling.{part, part_turn, part_end}
use Rattle.letters.specs.Code.{code, codes, complement, reverse_complement}

pub codes_length : (s : List ℕ) → length (codes s) ≡ length s
unfolding codes
codes_length s = length-map s code

pub codes_at : (s : List ℕ) (i : ℕ) → i < length s → get_or (codes s) i 4 ≡ code (get_or s i 0)
unfolding codes
codes_at s i h = get_or_default (map code s) i 4 (code 0) (let e = length-map s code in omega arith) ∙ get_or-map code s i 0

pub complement_other : (c : ℕ) → 4 ≤ c → complement c ≡ c
unfolding complement
complement_other c h = rw (le-ltb c 4 h)

pub complement_twice : (c : ℕ) → complement (complement c) ≡ c
unfolding complement
complement_twice c = go (ltb c 4) refl
  where
    go : (t : Bool) → ltb c 4 ≡ t → cond (ltb (cond t (3 - c) c) 4) (3 - cond t (3 - c) c) (cond t (3 - c) c) ≡ c
    go true e =
        let l = ltb-true c 4 e in
        let m : 3 - c < 4 = omega arith in
        rw (lt-ltb (3 - c) 4 m) (omega arith)
    go false e = rw e

map_reverse : (l r : List ℕ) → map complement (reverse_aux l r) ≡ reverse_aux (map complement l) (map complement r)
map_reverse [] r = refl
map_reverse (x ∷ l) r = map_reverse l (x ∷ r)

map_twice : (l : List ℕ) → map complement (map complement l) ≡ l
map_twice [] = refl
map_twice (x ∷ l) = ap₂ (λ (a : ℕ) (b : List ℕ). a ∷ b) (complement_twice x) (map_twice l)

pub reverse_complement_twice : (s : List ℕ) → reverse_complement (reverse_complement s) ≡ s
unfolding reverse_complement
reverse_complement_twice s =
    ap (λ (l : List ℕ). map complement (reverse l)) (map_reverse s [])
    ∙ ap (λ (l : List ℕ). map complement l) (reverse-reverse (map complement s))
    ∙ map_twice s

pub reverse_complement_length : (s : List ℕ) → length (reverse_complement s) ≡ length s
unfolding reverse_complement
reverse_complement_length s = length-map (reverse s) complement ∙ length-reverse s

pub reverse_complement_at : (s : List ℕ) (i : ℕ) → i < length s → get_or (reverse_complement s) i 4 ≡ complement (get_or s (length s - 1 - i) 0)
unfolding reverse_complement complement
reverse_complement_at s i h =
    get_or-map complement (reverse s) i 4
    ∙ ap complement (get_or-reverse s i 4 h ∙ get_or_default s (length s - 1 - i) 4 0 (let q : length s - 1 - i < length s = omega arith in q))

-- ---- Loops that write codes and reverse complements: l is the buffer d after i turns.
module _ (s d l : List ℕ) (i v : ℕ) (inside : i < length s) (fits : length s ≤ length d) where
  pub codes_turn : l ≡ part (codes s) d i → v ≡ code (get_or s i 0) → set l i v ≡ part (codes s) d (i + 1)
  codes_turn e g =
      part_turn (codes s) d l i 4 v e (omega (arith, codes_length s)) (omega (arith, codes_length s)) (g ∙ sym (codes_at s i inside))

  pub reverse_complement_turn : l ≡ part (reverse_complement s) d i → v ≡ complement (get_or s (length s - 1 - i) 0) → set l i v ≡ part (reverse_complement s) d (i + 1)
  reverse_complement_turn e g =
      part_turn (reverse_complement s) d l i 4 v e (omega (arith, reverse_complement_length s)) (omega (arith, reverse_complement_length s))
      (g ∙ sym (reverse_complement_at s i inside))

pub ruleset of_codes = (codes_turn, part_end, codes_length)

pub ruleset of_reverse_complements = (reverse_complement_turn, part_end, reverse_complement_length)

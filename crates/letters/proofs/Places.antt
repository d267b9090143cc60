-- The places of a strand: their number, the list taken apart at one of them, that every k-mer lies below 4 ^ k, and that a plain place has k letters up to it.
use Rattle.std.proofs.Common.{◌≡◌, ℕ, zero, suc, ◌+◌, ◌^◌, ◌<◌, ◌≤◌, Bool, true, false, cond, T, ltb, List, ◌∷◌, length, get_or, drop, refl, ap, ◌∙◌, subst, ap₂, pow-suc, arith, ltb→lt, drop-cons}
use lib.Ieee.Fits.{and_l, and_r}
use Rattle.buffers.specs.Fill.{tabulate, tabulate_from}
use Rattle.buffers.proofs.Tabulate.{tabulate_length, tabulate_at}
use Rattle.letters.specs.Place.{Place, ambiguous, plain, packed, all_plain, place_at, places_from, places, BelowAt, Below, ReadAt, ReadFrom}

from_tabulate : (k : ℕ) (s : List ℕ) (p m : ℕ) → places_from k s p m ≡ tabulate_from (place_at k s) m p
unfolding places_from tabulate_from
from_tabulate k s p zero = refl
from_tabulate k s p (suc m) = ap (λ (l : List Place). place_at k s p ∷ l) (from_tabulate k s (suc p) m)

places_tabulate : (k : ℕ) (s : List ℕ) → places k s ≡ tabulate (place_at k s) (length s)
unfolding places tabulate
places_tabulate k s = from_tabulate k s 0 (length s)

pub places_length : (k : ℕ) (s : List ℕ) → length (places k s) ≡ length s
places_length k s = ap (λ (l : List Place). length l) (places_tabulate k s) ∙ tabulate_length (place_at k s) (length s)

pub places_at : (k : ℕ) (s : List ℕ) (p : ℕ) → p < length s → get_or (places k s) p ambiguous ≡ place_at k s p
places_at k s p h = ap (λ (l : List Place). get_or l p ambiguous) (places_tabulate k s) ∙ tabulate_at (place_at k s) (length s) p ambiguous h

pub places_drop : (k : ℕ) (s : List ℕ) (p : ℕ) → p < length s → drop p (places k s) ≡ place_at k s p ∷ drop (p + 1) (places k s)
places_drop k s p h =
    let e = places_length k s in
    drop-cons (places k s) p ambiguous (omega arith)
    ∙ ap₂ (λ (x : Place) (n : ℕ). x ∷ drop n (places k s)) (places_at k s p h) (let q : suc p ≡ p + 1 = omega arith in q)

packed_below : (s : List ℕ) (m j : ℕ) → T (all_plain s m j) → packed s m j < 4 ^ j
unfolding packed all_plain
packed_below s m zero h = omega arith
packed_below s zero (suc j) h = absurd h
packed_below s (suc m) (suc j) h =
    let l = ltb→lt (get_or s m 4) 4 (and_l (ltb (get_or s m 4) 4) (all_plain s m j) h) in
    let r = packed_below s m j (and_r (ltb (get_or s m 4) 4) (all_plain s m j) h) in
    omega (arith, pow-suc 4 j)

pub place_below : (k : ℕ) (s : List ℕ) (p : ℕ) → BelowAt (4 ^ k) (place_at k s p)
unfolding place_at
place_below k s p = go (all_plain s (suc p) k) (packed_below s (suc p) k)
  where
    go : (t : Bool) → (T t → packed s (suc p) k < 4 ^ k) → BelowAt (4 ^ k) (cond t (plain (packed s (suc p) k)) ambiguous)
    go true h = h tt
    go false h = tt

from_below : (k : ℕ) (s : List ℕ) (p m : ℕ) → Below (4 ^ k) (places_from k s p m)
unfolding places_from
from_below k s p zero = tt
from_below k s p (suc m) = (place_below k s p, from_below k s (suc p) m)

pub places_below : (k : ℕ) (s : List ℕ) → Below (4 ^ k) (places k s)
unfolding places
places_below k s = from_below k s 0 (length s)

plain_read : (s : List ℕ) (m j : ℕ) → T (all_plain s m j) → j ≤ m
unfolding all_plain
plain_read s m zero h = omega arith
plain_read s zero (suc j) h = absurd h
plain_read s (suc m) (suc j) h = let r = plain_read s m j (and_r (ltb (get_or s m 4) 4) (all_plain s m j) h) in omega arith

pub place_read : (k : ℕ) (s : List ℕ) (p : ℕ) → ReadAt k p (place_at k s p)
unfolding place_at
place_read k s p = go (all_plain s (suc p) k) (plain_read s (suc p) k)
  where
    go : (t : Bool) → (T t → k ≤ suc p) → ReadAt k p (cond t (plain (packed s (suc p) k)) ambiguous)
    go true h = let l = h tt in omega arith
    go false h = tt

from_read : (k : ℕ) (s : List ℕ) (p m : ℕ) → ReadFrom k p (places_from k s p m)
unfolding places_from
from_read k s p zero = tt
from_read k s p (suc m) = (place_read k s p, subst (λ (q : ℕ). ReadFrom k q (places_from k s (suc p) m)) (let e : suc p ≡ p + 1 = omega arith in e) (from_read k s (suc p) m))

pub places_read : (k : ℕ) (s : List ℕ) → ReadFrom k 0 (places k s)
unfolding places
places_read k s = from_read k s 0 (length s)

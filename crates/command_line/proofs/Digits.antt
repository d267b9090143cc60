-- Digits read one after the other.
use Rattle.std.proofs.Common.{◌≡◌, ap, ◌∙◌, ℕ, ◌+◌, ◌<◌, ◌≤◌, List, eqb, false, Bool, cond, length, drop, get_or, Option, Some, None}
use Rattle.std.proofs.lemmas.List.{drop_more, drop_all}
use Rattle.std.specs.Prelude.{option_and_then}
use Rattle.command_line.specs.Number.{joined, read_on, number}

at_next : (most n : ℕ) (xs : List ℕ) (i : ℕ) → i < length xs
    → read_on most n (drop i xs) ≡ option_and_then (λ m. read_on most m (drop (i + 1) xs)) (joined most n (get_or xs i 0))
unfolding read_on
at_next most n xs i l = ap (λ (ys : List ℕ). read_on most n ys) (drop_more xs i 0 l)

pub read_next : (most n m : ℕ) (xs : List ℕ) (i : ℕ) → i < length xs → joined most n (get_or xs i 0) ≡ Some m
    → read_on most n (drop i xs) ≡ read_on most m (drop (i + 1) xs)
read_next most n m xs i l e = at_next most n xs i l ∙ ap (λ (o : Option ℕ). option_and_then (λ m. read_on most m (drop (i + 1) xs)) o) e

pub read_none : (most n : ℕ) (xs : List ℕ) (i : ℕ) → i < length xs → joined most n (get_or xs i 0) ≡ None
    → read_on most n (drop i xs) ≡ None
read_none most n xs i l e = at_next most n xs i l ∙ ap (λ (o : Option ℕ). option_and_then (λ m. read_on most m (drop (i + 1) xs)) o) e

pub read_end : (most n : ℕ) (xs : List ℕ) (i : ℕ) → length xs ≤ i → read_on most n (drop i xs) ≡ Some n
unfolding read_on
read_end most n xs i l = ap (λ (ys : List ℕ). read_on most n ys) (drop_all i xs l)

-- Where there is a digit.
pub number_some : (most : ℕ) (xs : List ℕ) → eqb (length xs) 0 ≡ false → number most xs ≡ read_on most 0 xs
unfolding number
number_some most xs e = ap (λ (t : Bool). cond t None (read_on most 0 xs)) e

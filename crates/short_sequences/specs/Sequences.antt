-- All sequences of m letters over A C G T N, the first letter slowest.
use Rattle.std.specs.Prelude.{ℕ, zero, suc, ◌^◌, Bool, ◌&&◌, ltb, leb}
use Prim.Native.Char.{code}
use mathlib.Core.List.{List, [], ◌∷◌, map, flat_map, Memᴰ}

-- The letters, in their order.
abbrev pub five_letters : List ℕ
five_letters = code "A" ∷ code "C" ∷ code "G" ∷ code "T" ∷ code "N" ∷ []

-- For each letter in turn, every shorter sequence with that letter before it.
unfoldable pub sequences_of : ℕ → List (List ℕ)
sequences_of zero = [] ∷ []
sequences_of (suc m) = let shorter : List (List ℕ) = sequences_of m in flat_map (λ x. map (λ s. x ∷ s) shorter) five_letters

-- Every letter of s is one of the five.
abbrev pub OverFive : List ℕ → Type 0
OverFive [] = Unit
OverFive (x ∷ s) = Memᴰ x five_letters × OverFive s

-- There is a sequence of that index among all of m letters, m being one of 1 to 8, and so many bytes have room for it.
abbrev pub has_sequence : ℕ → ℕ → ℕ → Bool
has_sequence m index room = leb 1 m && (leb m 8 && (ltb index (5 ^ m) && leb m room))

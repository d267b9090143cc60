-- The paper's examples of 'Letters and places' and of GC content.
use Rattle.std.proofs.Common.{◌≡◌, [], ◌∷◌, pos, refl}
use lib.Ieee.{binary64, div, of_int}
use Rattle.letters.specs.Code.{code, codes, complement, reverse_complement}
use Rattle.letters.specs.Place.{ambiguous, plain, packed, all_plain, place_at, places_from, places}
use Rattle.letters.specs.Gc.{gc_of}

-- "AcgTN-"
letters : codes (65 ∷ 99 ∷ 103 ∷ 84 ∷ 78 ∷ 45 ∷ []) ≡ 0 ∷ 1 ∷ 2 ∷ 3 ∷ 4 ∷ 4 ∷ []
unfolding codes code
letters = refl

-- "AcgUu-"
rna_letters : codes (65 ∷ 99 ∷ 103 ∷ 85 ∷ 117 ∷ 45 ∷ []) ≡ 0 ∷ 1 ∷ 2 ∷ 3 ∷ 3 ∷ 4 ∷ []
unfolding codes code
rna_letters = refl

other_strand : reverse_complement (0 ∷ 1 ∷ 4 ∷ 3 ∷ []) ≡ 0 ∷ 4 ∷ 2 ∷ 3 ∷ []
unfolding reverse_complement complement
other_strand = refl

-- "ACNGT"
two_plain : places 2 (codes (65 ∷ 67 ∷ 78 ∷ 71 ∷ 84 ∷ [])) ≡ ambiguous ∷ plain 1 ∷ ambiguous ∷ ambiguous ∷ plain 11 ∷ []
unfolding codes code places places_from place_at all_plain packed
two_plain = refl

-- "GCNA"
two_of_three : gc_of (codes (71 ∷ 67 ∷ 78 ∷ 65 ∷ [])) ≡ div binary64 (of_int binary64 (pos 2)) (of_int binary64 (pos 3))
unfolding codes code gc_of
two_of_three = refl

-- "GUUC"
two_of_four : gc_of (codes (71 ∷ 85 ∷ 85 ∷ 67 ∷ [])) ≡ div binary64 (of_int binary64 (pos 2)) (of_int binary64 (pos 4))
unfolding codes code gc_of
two_of_four = refl

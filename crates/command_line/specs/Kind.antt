-- The kind of a file, by its first bytes.
use Rattle.std.specs.Prelude.{ℕ, Bool, not, ◌&&◌, ◌||◌, cond, eqb, List, [], ◌∷◌}
use Rattle.std.specs.List.{starts_with, list_any}
use Rattle.report.specs.Ascii.{ascii}
use Rattle.command_line.specs.declared.kinds.Kind.{Kind}
use Rattle.command_line.specs.declared.kinds.Kind.TheVariants.{Other, Gzip, Xz, Zstd, Bzip2, TwoBit, GenBank, Returns}

abbrev pub begins : List ℕ → List ℕ → Bool
begins bs front = starts_with eqb bs front

-- Compressed data, by the numbers that their formats begin with.
abbrev pub compressed : List ℕ → Kind
compressed bs =
    cond (begins bs (31 ∷ 139 ∷ [])) Gzip
    (cond (begins bs (253 ∷ 55 ∷ 122 ∷ 88 ∷ 90 ∷ 0 ∷ [])) Xz
    (cond (begins bs (40 ∷ 181 ∷ 47 ∷ 253 ∷ [])) Zstd
    (cond (begins bs (ascii "BZh")) Bzip2 Other)))

-- The number 1A412743, the lowest byte first or last.
abbrev pub is_twobit : List ℕ → Bool
is_twobit bs = begins bs (67 ∷ 39 ∷ 65 ∷ 26 ∷ []) || begins bs (26 ∷ 65 ∷ 39 ∷ 67 ∷ [])

-- A CR, and no line feed.
abbrev pub is_returns : List ℕ → Bool
is_returns bs = list_any (λ b. eqb b 13) bs && not (list_any (λ b. eqb b 10) bs)

abbrev pub kind_of : List ℕ → Kind
kind_of bs =
    cond (is_twobit bs) TwoBit
    (cond (begins bs (ascii "LOCUS ")) GenBank
    (cond (begins bs (ascii ">") && is_returns bs) Returns (compressed bs)))

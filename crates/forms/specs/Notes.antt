-- What is said of a record that is refused: its name, the refusal's number, its text, and what in the letters earned it.
use Rattle.std.specs.Prelude.{ℕ, ◌+◌, ◌/◌, ◌%◌, Bool, true, false, cond, ◌&&◌, ◌||◌, ltb, eqb, List, [], ◌∷◌, ◌++◌, length, get_or}
use Rattle.checks.specs.declared.refusal.Refusal.TheVariants.{KmerOutside, HighByte, TooFewLetters, WindowBelow, WindowAbove, BadThreshold, BadGc, MinStartBelow, BadXdrop, TooManyLetters, ShortSlice, BadReplacement, OtherByte, UnusualList, BadQuestion, NoBudget, PlaceOutside, HighTable, OutsideProfile, BadLength}
use Rattle.checks.specs.Refusal.{text}
use Rattle.checks.specs.Tests.{is_high, is_other}
use Rattle.report.specs.Ascii.{ascii}
use Rattle.report.specs.Text.{decimal}

-- The refusals' texts by their numbers; 0, 14 and 15 are no refusal's.
abbrev pub texts : List (List ℕ)
texts =
    [] ∷ text KmerOutside ∷ text HighByte ∷ text TooFewLetters ∷ text WindowBelow ∷ text WindowAbove ∷ text BadThreshold ∷ text BadGc
    ∷ text MinStartBelow ∷ text BadXdrop ∷ text TooManyLetters ∷ text ShortSlice ∷ text BadReplacement ∷ text OtherByte ∷ [] ∷ []
    ∷ text UnusualList ∷ text BadQuestion ∷ text NoBudget ∷ text PlaceOutside ∷ text HighTable ∷ text OutsideProfile ∷ text BadLength ∷ []

unfoldable pub text_numbered : ℕ → List ℕ
text_numbered number = get_or texts number []

-- ---- A name as it is shown.
-- A digit in base 16.
abbrev pub hex : ℕ → ℕ
hex d = cond (ltb d 10) (48 + d) (87 + d)

-- A backslash (92) twice; a byte below 32 or above 126 as `\x` and two digits; any other as it is.
unfoldable pub escaped : ℕ → List ℕ
escaped b =
    cond (eqb b 92) (92 ∷ 92 ∷ [])
    (cond (ltb b 32 || ltb 126 b) (92 ∷ 120 ∷ hex (b / 16) ∷ hex (b % 16) ∷ []) (b ∷ []))

unfoldable pub shown : List ℕ → List ℕ
shown [] = []
shown (b ∷ bs) = escaped b ++ shown bs

-- ---- What in the letters earned a refusal.
-- Whether a byte earns refusal 2, or else 13.
abbrev pub earns : Bool → ℕ → Bool
earns high b = cond high (is_high b) (is_other b)

-- The place of the first byte that does, from 0; the number of bytes if none does.
unfoldable pub first_place : Bool → List ℕ → ℕ
first_place high [] = 0
first_place high (b ∷ bs) = cond (earns high b) 0 (first_place high bs + 1)

-- A byte from 33 to 126 in quotes (39), any other as a number.
unfoldable pub byte_shown : ℕ → List ℕ
byte_shown b = cond (ltb 32 b && ltb b 127) (39 ∷ b ∷ 39 ∷ []) (ascii "the byte " ++ decimal b)

-- The byte at a place; letters are counted from 1.
unfoldable pub letter_at : List ℕ → ℕ → List ℕ
letter_at s i = cond (ltb i (length s)) (ascii ": letter " ++ (decimal (i + 1) ++ (ascii " is " ++ byte_shown (get_or s i 0)))) []

-- Refusals 2 and 13 name the first letter that earned them, 3 and 10 the number of letters.
unfoldable pub detail : ℕ → List ℕ → List ℕ
detail number s =
    cond (eqb number 2) (letter_at s (first_place true s))
    (cond (eqb number 13) (letter_at s (first_place false s))
    (cond (eqb number 3 || eqb number 10) (ascii ": it has " ++ decimal (length s)) []))

unfoldable pub refused_note : List ℕ → ℕ → List ℕ → List ℕ
refused_note name number s =
    ascii "cisternpea: "
    ++ (shown name ++ (ascii ": refused (" ++ (decimal number ++ (ascii "): " ++ (text_numbered number ++ (detail number s ++ ascii "\n"))))))

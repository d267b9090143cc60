-- A refusal's number is above 0, and no other refusal has it; the values of an answer, by its number.
use Rattle.std.proofs.Common.{◌≡◌, ℕ, ◌<◌, Bool, false, Result, Ok, Err, IfOk, List, [], ◌∷◌, refl, sym, ◌∙◌, arith, get_or, ap}
use borrow.Author.Tests.{ne_eqb}
use Rattle.checks.specs.declared.refusal.Refusal.{Refusal}
use Rattle.checks.specs.declared.refusal.Refusal.TheVariants.{KmerOutside, HighByte, TooFewLetters, WindowBelow, WindowAbove, BadThreshold, BadGc, MinStartBelow, BadXdrop, TooManyLetters, ShortSlice, BadReplacement, OtherByte, UnusualList, BadQuestion, NoBudget, PlaceOutside, HighTable, OutsideProfile, BadLength}
use Rattle.checks.specs.Refusal.{number, number_of, count_by, flag_by, count_unless, flag_unless}

pub number_positive : (e : Refusal) → 0 < number e
number_positive KmerOutside = omega arith
number_positive HighByte = omega arith
number_positive TooFewLetters = omega arith
number_positive WindowBelow = omega arith
number_positive WindowAbove = omega arith
number_positive BadThreshold = omega arith
number_positive BadGc = omega arith
number_positive MinStartBelow = omega arith
number_positive BadXdrop = omega arith
number_positive TooManyLetters = omega arith
number_positive ShortSlice = omega arith
number_positive BadReplacement = omega arith
number_positive OtherByte = omega arith
number_positive UnusualList = omega arith
number_positive BadQuestion = omega arith
number_positive NoBudget = omega arith
number_positive PlaceOutside = omega arith
number_positive HighTable = omega arith
number_positive OutsideProfile = omega arith
number_positive BadLength = omega arith

-- A number has one refusal.
abbrev refusals : List Refusal
refusals =
    KmerOutside ∷ KmerOutside ∷ HighByte ∷ TooFewLetters ∷ WindowBelow ∷ WindowAbove ∷ BadThreshold ∷ BadGc ∷
    MinStartBelow ∷ BadXdrop ∷ TooManyLetters ∷ ShortSlice ∷ BadReplacement ∷ OtherByte ∷ KmerOutside ∷ KmerOutside ∷
    UnusualList ∷ BadQuestion ∷ NoBudget ∷ PlaceOutside ∷ HighTable ∷ OutsideProfile ∷ BadLength ∷ []

listed : (e : Refusal) → get_or refusals (number e) KmerOutside ≡ e
listed KmerOutside = refl
listed HighByte = refl
listed TooFewLetters = refl
listed WindowBelow = refl
listed WindowAbove = refl
listed BadThreshold = refl
listed BadGc = refl
listed MinStartBelow = refl
listed BadXdrop = refl
listed TooManyLetters = refl
listed ShortSlice = refl
listed BadReplacement = refl
listed OtherByte = refl
listed UnusualList = refl
listed BadQuestion = refl
listed NoBudget = refl
listed PlaceOutside = refl
listed HighTable = refl
listed OutsideProfile = refl
listed BadLength = refl

pub number_injective : (d e : Refusal) → number d ≡ number e → d ≡ e
number_injective d e h = sym (listed d) ∙ ap (λ (n : ℕ). get_or refusals n KmerOutside) h ∙ listed e

-- ---- The values of an answer, by its number: count 0 and flag no where it is a refusal's.
module _ (m : ℕ) (h : 0 < m) where
  none_counted : (x : ℕ) → 0 ≡ count_unless m x
  none_counted x = rw (ne_eqb m 0 (λ e. let z : ⊥ = omega (arith, h, e) in z)) refl

  none_flagged : (x : Bool) → false ≡ flag_unless m x
  none_flagged x = rw (ne_eqb m 0 (λ e. let z : ⊥ = omega (arith, h, e) in z)) refl

pub counted : {A : Type 0} (count : A → ℕ) (r : Result A Refusal) {m : ℕ} (x : ℕ) → number_of r ≡ m → IfOk r (λ a. count a ≡ x) → count_by count r ≡ count_unless m x
counted count (Ok a) x e h = h ∙ ap (λ (i : ℕ). count_unless i x) e
counted count (Err r) {m} x e h = none_counted m (let p = number_positive r in omega arith) x

pub flagged : {A : Type 0} (flag : A → Bool) (r : Result A Refusal) {m : ℕ} (x : Bool) → number_of r ≡ m → IfOk r (λ a. flag a ≡ x) → flag_by flag r ≡ flag_unless m x
flagged flag (Ok a) x e h = h ∙ ap (λ (i : ℕ). flag_unless i x) e
flagged flag (Err r) {m} x e h = none_flagged m (let p = number_positive r in omega arith) x

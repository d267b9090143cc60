-- A file in parts, cut where a line opens a record: its text is the parts' texts, its sums the parts' sums, added.
use Rattle.std.proofs.Common.{◌≡◌, ℕ, Bool, true, cond, arith, List, [], ◌∷◌, ◌++◌, refl, sym, ap, ◌∙◌, subst}
use Rattle.fasta.specs.Lines.{opens}
use Rattle.entries.specs.declared.sums.Sums.{Sums}
use Rattle.entries.specs.Sums.{no_sums, add}
use Rattle.entries.specs.Entries.{Entry, entries_of, fault_of}
use Rattle.entries.specs.Outcome.{Report, records, text_of, sums_of}
use Rattle.entries.proofs.Adding.{Within, none_within, add_none, sums_within}
use Rattle.entries.proofs.Joined.{text_follows, sums_follow}
use Rattle.entries.proofs.Numbers.{AllWithin, summed}

-- What f makes of a first part and of the others, one after the other.
abbrev pub over : (List ℕ → List ℕ) → List ℕ → List (List ℕ) → List ℕ
over f p [] = f p
over f p (q ∷ qs) = f p ++ over f q qs

abbrev pub whole : List ℕ → List (List ℕ) → List ℕ
whole p qs = over (λ x. x) p qs

opens_whole : (q : List ℕ) (qs : List (List ℕ)) → opens q ≡ true → opens (whole q qs) ≡ true
opens_whole q [] o = o
opens_whole [] (r ∷ rs) o = absurd (let z : ◌≡◌ {A = ℕ} 1 0 = ap (λ (b : Bool). cond b 0 1) o in (let y : ⊥ = omega arith in y))
opens_whole (b ∷ q) (r ∷ rs) o = o

module _ (cr : Bool) where
  -- Each part but the last ends in byte 10 and has no fault; each but the first begins with `>`.
  abbrev pub Cut : List ℕ → List (List ℕ) → Type 0
  Cut p [] = Unit
  Cut p (q ∷ qs) = (a : List ℕ) × (p ≡ a ++ 10 ∷ []) × (fault_of (entries_of cr p) ≡ 0) × (opens q ≡ true) × Cut q qs

  module _ (report : Entry → Report) where
    abbrev pub sums_over : List ℕ → List (List ℕ) → List Sums
    sums_over p [] = sums_of cr report p ∷ []
    sums_over p (q ∷ qs) = sums_of cr report p ∷ sums_over q qs

    within_one : (p : List ℕ) → Within (sums_of cr report p)
    within_one p = sums_within report no_sums (records cr p) none_within

    pub within_over : (p : List ℕ) (qs : List (List ℕ)) → AllWithin (sums_over p qs)
    within_over p [] = (within_one p, tt)
    within_over p (q ∷ qs) = (within_one p, within_over q qs)

    pub text_parts : (i : ℕ) (p : List ℕ) (qs : List (List ℕ)) → Cut p qs → text_of cr report (whole p qs) i ≡ over (λ x. text_of cr report x i) p qs
    text_parts i p [] c = refl
    text_parts i p (q ∷ qs) (a, e, n, o, c) =
        subst (λ (z : List ℕ). text_of cr report (z ++ whole q qs) i ≡ text_of cr report z i ++ text_of cr report (whole q qs) i) (sym e)
        (text_follows cr a (whole q qs) (opens_whole q qs o) (subst (λ (z : List ℕ). fault_of (entries_of cr z) ≡ 0) e n) report i)
        ∙ ap (λ (l : List ℕ). text_of cr report p i ++ l) (text_parts i q qs c)

    pub sums_parts : (p : List ℕ) (qs : List (List ℕ)) → Cut p qs → sums_of cr report (whole p qs) ≡ summed (sums_over p qs)
    unfolding summed
    sums_parts p [] c = sym (add_none (sums_of cr report p) (within_one p))
    sums_parts p (q ∷ qs) (a, e, n, o, c) =
        subst (λ (z : List ℕ). sums_of cr report (z ++ whole q qs) ≡ add (sums_of cr report z) (sums_of cr report (whole q qs))) (sym e)
        (sums_follow cr a (whole q qs) (opens_whole q qs o) (subst (λ (z : List ℕ). fault_of (entries_of cr z) ≡ 0) e n) report)
        ∙ ap (λ (s : Sums). add (sums_of cr report p) s) (sums_parts q qs c)

-- A file cut where a line opens a record: its text is the text of the part before, and then that of the rest.
use Rattle.std.proofs.Common.{◌≡◌, ℕ, Bool, true, false, cond, ◌||◌, List, [], ◌∷◌, ◌++◌, map, refl, sym, ap, ap₂, ◌∙◌, arith, append_assoc}
use mathlib.Core.List.{map-append}
use Rattle.fasta.specs.Lines.{lines, is_empty, opens, name_of}
use Rattle.fasta.proofs.Joined.{lines_cut}
use Rattle.entries.specs.Lines.{chomped, file_lines}
use Rattle.entries.specs.Entries.{Entry, Entries, ends, fails, holds, lines_below, unless_nameless, opened, entries, entries_of, list_of, fault_of, followed}
use Rattle.entries.specs.Sums.{no_sums, add}
use Rattle.entries.specs.Outcome.{Report, text_on, notes_on, sums_on, records, text_of, notes_of, sums_of}
use Rattle.entries.proofs.Adding.{sums_both}
use Rattle.entries.proofs.Steps.{opens_long}
use Rattle.entries.proofs.Lines.{first_line, file_first, opens_first}
use Rattle.entries.proofs.Whole.{texts_append}
use Rattle.std.specs.Io.BufRead.{drop_through}

-- The lines ms begin with one that opens a record.
module _ (m : List ℕ) (ms : List (List ℕ)) (op : opens m ≡ true) where
  lines_before : (ls : List (List ℕ)) → lines_below (ls ++ (m ∷ ms)) ≡ lines_below ls
  unfolding lines_below
  lines_before [] = rw op
  lines_before (l ∷ ls) = ap (λ (x : List (List ℕ)). cond (opens l) [] (l ∷ x)) (lines_before ls)

  opened_followed : (name header : List ℕ) (ls : List (List ℕ)) (rest next : Entries)
      → unless_nameless name (holds (record { header = header; lines = ls }) (followed rest next)) ≡ followed (unless_nameless name (holds (record { header = header; lines = ls }) rest)) next
  opened_followed [] header ls rest next = refl
  opened_followed (b ∷ name) header ls rest next = refl

  lines_followed : (below : Bool) (ls : List (List ℕ)) → entries below (ls ++ (m ∷ ms)) ≡ followed (entries below ls) (entries false (m ∷ ms))
  unfolding entries
  lines_followed below [] = rw op
  lines_followed below (l ∷ ls) = go (lines_followed true ls) (lines_followed below ls) (opens l) (below || is_empty l)
    where
      go : entries true (ls ++ (m ∷ ms)) ≡ followed (entries true ls) (entries false (m ∷ ms))
          → entries below (ls ++ (m ∷ ms)) ≡ followed (entries below ls) (entries false (m ∷ ms)) → (o e : Bool)
          → cond o (opened l (lines_below (ls ++ (m ∷ ms))) (entries true (ls ++ (m ∷ ms)))) (cond e (entries below (ls ++ (m ∷ ms))) (fails 14))
          ≡ followed (cond o (opened l (lines_below ls) (entries true ls)) (cond e (entries below ls) (fails 14))) (entries false (m ∷ ms))
      go t n true e =
          ap₂ (λ (x : List (List ℕ)) (y : Entries). opened l x y) (lines_before ls) t
          ∙ opened_followed (name_of l) l (lines_below ls) (entries true ls) (entries false (m ∷ ms))
      go t n false true = n
      go t n false false = refl

-- `front` ends in byte 10, and `rest` begins with `>`.
module _ (cr : Bool) (a rest : List ℕ) (op : opens rest ≡ true) where
  abbrev front : List ℕ
  front = a ++ 10 ∷ []

  lines_both : file_lines cr (front ++ rest) ≡ file_lines cr front ++ file_lines cr rest
  unfolding file_lines
  lines_both =
      ap (λ (l : List ℕ). map (λ m. chomped cr m) (lines l)) (append_assoc a (10 ∷ []) rest)
      ∙ ap (λ (ls : List (List ℕ)). map (λ m. chomped cr m) ls) (lines_cut a rest)
      ∙ map-append _ (lines front) (lines rest)

  pub file_followed : entries_of cr (front ++ rest) ≡ followed (entries_of cr front) (entries_of cr rest)
  file_followed =
      let l : List ℕ = first_line cr rest in
      let ls : List (List ℕ) = file_lines cr (drop_through 10 rest) in
      let all : file_lines cr rest ≡ l ∷ ls = file_first cr rest (opens_long rest op) in
      ap (λ (z : List (List ℕ)). entries false z) (lines_both ∙ ap (λ (z : List (List ℕ)). file_lines cr front ++ z) all)
      ∙ lines_followed l ls (opens_first cr rest ∙ op) false (file_lines cr front)
      ∙ ap (λ (z : List (List ℕ)). followed (entries_of cr front) (entries false z)) (sym all)

-- Where the first part has no fault, the records of both follow each other.
abbrev NoFault : Entries → Type 0
NoFault ends = Unit
NoFault (fails n) = ⊥
NoFault (holds e rest) = NoFault rest

opened_faultless : (name header : List ℕ) (ls : List (List ℕ)) (rest : Entries) → (fault_of rest ≡ 0 → NoFault rest)
    → fault_of (unless_nameless name (holds (record { header = header; lines = ls }) rest)) ≡ 0 → NoFault (unless_nameless name (holds (record { header = header; lines = ls }) rest))
opened_faultless [] header ls rest n h = absurd (let b : ⊥ = omega arith in b)
opened_faultless (b ∷ name) header ls rest n h = n h

faultless : (below : Bool) (ls : List (List ℕ)) → fault_of (entries below ls) ≡ 0 → NoFault (entries below ls)
unfolding entries
faultless below [] h = tt
faultless below (l ∷ ls) h = go (faultless true ls) (faultless below ls) (opens l) (below || is_empty l) h
  where
    go : (fault_of (entries true ls) ≡ 0 → NoFault (entries true ls)) → (fault_of (entries below ls) ≡ 0 → NoFault (entries below ls)) → (o e : Bool)
        → fault_of (cond o (opened l (lines_below ls) (entries true ls)) (cond e (entries below ls) (fails 14))) ≡ 0
        → NoFault (cond o (opened l (lines_below ls) (entries true ls)) (cond e (entries below ls) (fails 14)))
    go t n true e f = opened_faultless (name_of l) l (lines_below ls) (entries true ls) t f
    go t n false true f = n f
    go t n false false f = absurd (let b : ⊥ = omega arith in b)

both_lists : (x y : Entries) → NoFault x → list_of (followed x y) ≡ list_of x ++ list_of y
both_lists ends y n = refl
both_lists (fails m) y n = absurd n
both_lists (holds e x) y n = ap (λ (es : List Entry). e ∷ es) (both_lists x y n)

second_fault : (x y : Entries) → NoFault x → fault_of (followed x y) ≡ fault_of y
second_fault ends y n = refl
second_fault (fails m) y n = absurd n
second_fault (holds e x) y n = second_fault x y n

module _ (cr : Bool) (a rest : List ℕ) (op : opens rest ≡ true) (none : fault_of (entries_of cr (a ++ 10 ∷ [])) ≡ 0) where
  pub records_follow : records cr ((a ++ 10 ∷ []) ++ rest) ≡ records cr (a ++ 10 ∷ []) ++ records cr rest
  records_follow =
      ap list_of (file_followed cr a rest op) ∙ both_lists (entries_of cr (a ++ 10 ∷ [])) (entries_of cr rest) (faultless false (file_lines cr (a ++ 10 ∷ [])) none)

  pub fault_follows : fault_of (entries_of cr ((a ++ 10 ∷ []) ++ rest)) ≡ fault_of (entries_of cr rest)
  fault_follows =
      ap fault_of (file_followed cr a rest op) ∙ second_fault (entries_of cr (a ++ 10 ∷ [])) (entries_of cr rest) (faultless false (file_lines cr (a ++ 10 ∷ [])) none)

  module _ (report : Entry → Report) where
    pub text_follows : (i : ℕ) → text_of cr report ((a ++ 10 ∷ []) ++ rest) i ≡ text_of cr report (a ++ 10 ∷ []) i ++ text_of cr report rest i
    text_follows i =
        ap (λ (es : List Entry). text_on report es i) records_follow ∙ texts_append (λ e. (report e).text i) (records cr (a ++ 10 ∷ [])) (records cr rest)

    pub notes_follow : notes_of cr report ((a ++ 10 ∷ []) ++ rest) ≡ notes_of cr report (a ++ 10 ∷ []) ++ notes_of cr report rest
    notes_follow =
        ap (λ (es : List Entry). notes_on report es) records_follow ∙ texts_append (λ e. (report e).notes) (records cr (a ++ 10 ∷ [])) (records cr rest)

    pub sums_follow : sums_of cr report ((a ++ 10 ∷ []) ++ rest) ≡ add (sums_of cr report (a ++ 10 ∷ [])) (sums_of cr report rest)
    sums_follow = ap (λ (es : List Entry). sums_on report no_sums es) records_follow ∙ sums_both report (records cr (a ++ 10 ∷ [])) (records cr rest)

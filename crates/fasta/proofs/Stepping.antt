-- The answers of a step, by what its inner functions found.
use Rattle.std.proofs.Common.{ℕ, suc, ◌+◌, ◌-◌, ◌≤◌, ◌<◌, min, ◌≡◌, refl, sym, ap, ap₂, ◌∙◌, ◌≢◌, true, List, [], ◌∷◌, arith, add-one, length, take, drop, get_or, length-drop, drop_of_length-le, drop-cons, drop-drop, get_or-drop, length-take-le, None, Some, Ok, Err}
use Rattle.report.specs.Letters.{letters_of}
use Rattle.fasta.specs.Lines.{lines}
use Rattle.fasta.specs.Contents.{Contents, holds, letters_below, opened, contents, contents_of}
use Rattle.fasta.specs.Steps.{Told}
use Rattle.fasta.specs.Terms.Lengths.{empty_lines, name_length, line_length, lines_length}
use Rattle.fasta.specs.declared.Fault.TheVariants.{LettersFirst, EmptyName}
use Rattle.std.proofs.lemmas.List.{drop_min, take_rest}
use Rattle.std.proofs.lemmas.List.Sums.{prefix_len-le-length}
use Rattle.fasta.proofs.Lengths.{lines_within}
use Rattle.fasta.proofs.Lines.{after_empty, not_empty, letters_first, name_line_lem, opening, letters_are, rest_is}

named : (name letters : List ℕ) (rest : Contents) → 0 < length name → opened name letters rest ≡ holds (record { name = name; letters = letters }) rest
named [] letters rest h = absurd (let b : ⊥ = omega arith in b)
named (b ∷ name) letters rest h = refl

pub past_end : (file : List ℕ) (at : ℕ) → length file ≤ at → Told file at (Ok None)
unfolding contents lines
past_end file at h = record { contents_are = ap contents_of (sym (drop_of_length-le file h)); in_order = tt }

-- Past the n empty lines from the cursor on.
module _ (file : List ℕ) (at n : ℕ) (e : n ≡ empty_lines (drop at file)) where
  same : contents_of (drop (at + n) file) ≡ contents_of (drop at file)
  same = ap contents_of (sym (drop-drop n at file) ∙ ap (λ (i : ℕ). drop i (drop at file)) e) ∙ after_empty (drop at file)

  pub ended : length file ≤ at + n → Told file at (Ok None)
  unfolding contents lines
  ended h = record { contents_are = sym (ap contents_of (drop_of_length-le file h)) ∙ same; in_order = tt }

  module _ (h : at + n < length file) where
    not_10 : get_or file (at + n) 0 ≢ 10
    not_10 q =
        not_empty (drop at file) (omega (arith, length-drop at file))
        (ap (λ (i : ℕ). get_or (drop at file) i 0) (sym e) ∙ get_or-drop at file n 0 ∙ q)

    pub unnamed_letters : get_or file (at + n) 0 ≢ 62 → Told file at (Err LettersFirst)
    unnamed_letters k =
        record {
          contents_are =
              sym (letters_first (get_or file (at + n) 0) (drop (suc (at + n)) file) not_10 k)
              ∙ ap contents_of (sym (drop-cons file (at + n) 0 h))
              ∙ same;
          in_order = tt;
        }

    -- A name of k bytes.
    module _ (opens : get_or file (at + n) 0 ≡ 62) (k : ℕ) (ek : k ≡ name_length (drop (at + n + 1) file)) where
      abbrev name_line : List ℕ
      name_line = drop (at + n + 1) file

      -- After the name's line.
      abbrev below : List ℕ
      below = drop (line_length name_line + 1) name_line

      abbrev named_by : ℕ → Contents
      named_by i = opened (take i name_line) (letters_below (lines below)) (contents true (lines below))

      by_name : named_by k ≡ contents_of (drop at file)
      by_name =
          ap named_by ek
          ∙ sym (opening name_line)
          ∙ ap₂ (λ (b i : ℕ). contents_of (b ∷ drop i file)) (sym opens) (add-one (at + n))
          ∙ ap contents_of (sym (drop-cons file (at + n) 0 h))
          ∙ same

      pub empty_name : at + n + 1 + k ≡ at + n + 1 → Told file at (Err EmptyName)
      empty_name z = record { contents_are = ap named_by (let y : 0 ≡ k = omega arith in y) ∙ by_name; in_order = tt }

      -- Its line ends j bytes after it, and the record's lines begin at m.
      pub found : at + n + 1 + k ≢ at + n + 1 → (j m r : ℕ) → j ≡ line_length (drop (at + n + 1 + k) file)
          → m ≡ min (at + n + 1 + k + j + 1) (length file) → r ≡ lines_length true (drop m file)
          → Told file at (Ok (Some (record {
            name = record { start = at + n + 1; end = at + n + 1 + k };
            lines = record { start = m; end = m + r };
            next = record { at = m + r };
          })))
      found z j m r ej em er =
          let A : List ℕ = drop m file in
          let lb = length-drop (at + n + 1) file in
          let la = length-drop m file in
          let wk : name_length name_line ≤ length name_line = prefix_len-le-length _ name_line in
          let ws = lines_within true A in
          let dq : drop (at + n + 1 + k) file ≡ drop (name_length name_line) name_line =
          sym (drop-drop k (at + n + 1) file) ∙ ap (λ (i : ℕ). drop i name_line) ek in
          let nl : name_length name_line + line_length (drop (at + n + 1 + k) file) ≡ line_length name_line =
          ap (λ (l : List ℕ). name_length name_line + line_length l) dq ∙ name_line_lem name_line in
          let da : A ≡ below =
          ap (λ (i : ℕ). drop i file) em
          ∙ drop_min (at + n + 1 + k + j + 1) file
          ∙ ap (λ (i : ℕ). drop i file) (let y : at + n + 1 + k + j + 1 ≡ at + n + 1 + (line_length name_line + 1) = omega arith in y)
          ∙ sym (drop-drop (line_length name_line + 1) (at + n + 1) file) in
          let de : drop (m + r) file ≡ drop (lines_length true A) A = sym (drop-drop r m file) ∙ ap (λ (i : ℕ). drop i A) er in
          let name : List ℕ = take k name_line in
          record {
            contents_are =
                ap₂ (λ (i x : ℕ). holds (record { name = take i name_line; letters = letters_of (take x A) }) (contents_of (drop (m + r) file)))
                (let y : at + n + 1 + k - (at + n + 1) ≡ k = omega arith in y) (let y : m + r - m ≡ lines_length true A = omega arith in y)
                ∙ ap₂ (λ (l : List ℕ) (c : Contents). holds (record { name = name; letters = l }) c) (sym (letters_are A)) (ap contents_of de ∙ sym (rest_is A))
                ∙ sym (named name (letters_below (lines A)) (contents true (lines A)) (omega (arith, length-take-le k name_line (omega arith))))
                ∙ ap (λ (l : List ℕ). opened name (letters_below (lines l)) (contents true (lines l))) da
                ∙ by_name;
            in_order = (omega arith, omega arith, omega arith, omega arith, refl, omega arith);
          }

-- The laws by which `Cursor::next` is proved.
pub ruleset of_steps = (take_rest, prefix_len-le-length, lines_within, past_end, ended, unnamed_letters, empty_name, found)

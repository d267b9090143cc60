-- The lines of a list of intervals, written one after the other.
use Rattle.std.proofs.Common.{ℕ, ◌+◌, ◌<◌, ◌≡◌, refl, sym, ap, ◌∙◌, List, [], ◌∷◌, ◌++◌, append_assoc, append-nil, add-one, length, take, get_or, take-suc}
use Rattle.intervals.specs.declared.Interval.{Interval}
use Rattle.intervals.specs.Interval.{interval}
use Rattle.report.specs.Ascii.{ascii}
use Rattle.report.specs.Text.{decimal}
use Rattle.forms.specs.Bed.{place}
use Rattle.contigs_text.specs.Text.{name_line, mask_lines}

-- A line as `forms` puts it together.
pub line_is : (name : List ℕ) (i : Interval) → place name i.start i.end ++ ascii "\n" ≡ name_line name i
line_is name i =
    let t : List ℕ = ascii "\t" in
    let n : List ℕ = ascii "\n" in
    append_assoc name ((t ++ decimal i.start) ++ (t ++ decimal i.end)) n
    ∙ ap (λ (l : List ℕ). name ++ l)
    (append_assoc (t ++ decimal i.start) (t ++ decimal i.end) n
    ∙ append_assoc t (decimal i.start) ((t ++ decimal i.end) ++ n)
    ∙ ap (λ (l : List ℕ). t ++ (decimal i.start ++ l)) (append_assoc t (decimal i.end) n))

module _ (name : List ℕ) where
  lines_append : (is js : List Interval) → mask_lines name (is ++ js) ≡ mask_lines name is ++ mask_lines name js
  unfolding mask_lines
  lines_append [] js = refl
  lines_append (i ∷ is) js =
      ap (λ (l : List ℕ). name_line name i ++ l) (lines_append is js)
      ∙ sym (append_assoc (name_line name i) (mask_lines name is) (mask_lines name js))

  pub lines_none : (text : List ℕ) (is : List Interval) → text ≡ text ++ mask_lines name (take 0 is)
  unfolding mask_lines
  lines_none text is = sym (append-nil text)

  -- The line of the interval with index i follows.
  pub lines_next : (start text a b : List ℕ) (is : List Interval) (i : ℕ) → i < length is → text ≡ start ++ mask_lines name (take i is)
      → a ≡ text ++ place name (get_or is i (interval 0 0)).start (get_or is i (interval 0 0)).end → b ≡ a ++ ascii "\n"
      → b ≡ start ++ mask_lines name (take (i + 1) is)
  unfolding mask_lines
  lines_next start text a b is i h t p q =
      let x : Interval = get_or is i (interval 0 0) in
      q ∙ ap (λ (l : List ℕ). l ++ ascii "\n") p
      ∙ append_assoc text (place name x.start x.end) (ascii "\n")
      ∙ ap (λ (l : List ℕ). text ++ l) (line_is name x)
      ∙ ap (λ (l : List ℕ). l ++ name_line name x) t
      ∙ append_assoc start (mask_lines name (take i is)) (name_line name x)
      ∙ ap (λ (l : List ℕ). start ++ l)
      (ap (λ (l : List ℕ). mask_lines name (take i is) ++ l) (sym (append-nil (name_line name x)))
      ∙ sym (lines_append (take i is) (x ∷ []))
      ∙ ap (λ (js : List Interval). mask_lines name js) (sym (take-suc is i (interval 0 0) h))
      ∙ ap (λ (k : ℕ). mask_lines name (take k is)) (sym (add-one i)))

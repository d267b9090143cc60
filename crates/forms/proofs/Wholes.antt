-- The text of a file, by one run and by parts: head, the texts of all parts, and the foot by the numbers that the parts write.
use Rattle.std.proofs.Common.{◌≡◌, ℕ, true, List, ◌++◌, sym, ap₂, ◌∙◌}
use Rattle.entries.specs.declared.sums.Sums.{Sums}
use Rattle.entries.specs.Entries.{Entry}
use Rattle.entries.specs.Sums.{sums_in}
use Rattle.entries.specs.Outcome.{Report, text_of}
use Rattle.entries.proofs.Numbers.{all_numbers, numbers_all}
use Rattle.entries.proofs.Parts.{over, whole, Cut, sums_over, within_over, text_parts, sums_parts}
use Rattle.forms.specs.declared.form.Settings.{Settings}
use Rattle.forms.specs.declared.form.Form.{Form}
use Rattle.forms.specs.Form.{head_of, foot_of, by_form, report_of, whole_text}

module _ (forms : List Form) (st : Settings) (i : ℕ) where
  abbrev report : Entry → Report
  report = report_of forms st

  -- What a last run makes of the numbers of all parts.
  abbrev pub last_foot : List ℕ → List ℕ
  last_foot numbers = by_form (foot_of (sums_in numbers)) forms i

  pub by_parts : (p : List ℕ) (qs : List (List ℕ)) → Cut true p qs
      → whole_text forms st (whole p qs) i
      ≡ by_form head_of forms i ++ (over (λ x. text_of true report x i) p qs ++ last_foot (all_numbers (sums_over true report p qs)))
  by_parts p qs c =
      ap₂ (λ (l : List ℕ) (s : Sums). by_form head_of forms i ++ (l ++ by_form (foot_of s) forms i))
      (text_parts true report i p qs c)
      (sums_parts true report p qs c ∙ sym (numbers_all (sums_over true report p qs) (within_over true report p qs)))

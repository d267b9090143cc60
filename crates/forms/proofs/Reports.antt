-- The report of an entry, by what the masker answers.
use Rattle.std.proofs.Common.{◌≡◌, ℕ, ◌<◌, Bool, true, false, cond, eqb, List, [], take, sym, ap, ap₂, ◌∙◌, arith, subst, ne_eqb, Err}
use Rattle.std.specs.Prelude.{Option, Result}
use Rattle.checks.specs.declared.refusal.Refusal.{Refusal}
use Rattle.checks.specs.Refusal.{number}
use Rattle.checks.proofs.Refusing.{number_positive}
use Rattle.intervals.specs.declared.Interval.{Interval}
use Rattle.entries.specs.declared.failed.Failed.{Failed}
use Rattle.entries.specs.declared.sums.Sums.{Sums}
use Rattle.entries.specs.declared.held.HeldEntry.{HeldEntry}
use Rattle.entries.specs.Entries.{Entry, joined}
use Rattle.entries.specs.Held.{lengths_of, entry_of}
use Rattle.entries.specs.Outcome.{Report, Recorded}
use Rattle.entries.proofs.Kept.{joined_cut}
use Rattle.masker.specs.Run.{Making, Made, Makes}
use Rattle.longdust.specs.declared.LongdustOptions.{LongdustOptions}
use Rattle.forms.specs.declared.form.Form.{Form}
use Rattle.forms.specs.Form.{accepted, refused, passes, report_by, report_by_making}
use Rattle.forms.proofs.Writers.{Writers}

pub recorded_by : (r q : Report) (a b : Writers) (c d : Option (List ℕ)) (x : Result Sums Failed) → q ≡ r → Recorded r a b c d x → Recorded q a b c d x
recorded_by r q a b c d x e p = subst (λ (z : Report). Recorded z a b c d x) (sym e) p

module _ (forms : List Form) (o : LongdustOptions) (k : Making) (skip : Bool) (least : ℕ) (h : HeldEntry) (s : List ℕ) (same : s ≡ h.letters.items) where
  abbrev e : Entry
  e = entry_of h

  abbrev by : ℕ → List ℕ → Report
  by n l =
      report_by skip n (accepted forms o least e (k.mask l) (k.marks l))
      (accepted forms o least e [] []) (refused forms e n)

  letters_are : joined e.lines ≡ s
  letters_are = joined_cut (lengths_of h.runs.items) h.letters.items ∙ sym same

  report_is : report_by_making forms o k skip least e ≡ by (k.refusal s) s
  unfolding report_by_making
  report_is = ap (λ (l : List ℕ). by (k.refusal l) l) letters_are

  -- By options that stayed as they were.
  pub accepted_is : (p : LongdustOptions) (list : List Interval) (marks : List ℕ) (count : ℕ) → p ≡ o → Made k s list marks count
      → report_by_making forms o k skip least e ≡ accepted forms p least e (take count list) (take count marks)
  accepted_is p list marks count q m =
      report_is ∙ ap (λ (n : ℕ). by n s) m.accepted
      ∙ ap₂ (λ (x : List Interval) (y : List ℕ). accepted forms o least e x y) (sym m.list_is) (sym m.marks_are)
      ∙ ap (λ (x : LongdustOptions). accepted forms x least e (take count list) (take count marks)) (sym q)

  module _ (list : List Interval) (marks : List ℕ) (q : Refusal) (m : Makes k s list marks (Err q)) where
    not_none : eqb (number q) 0 ≡ false
    not_none = ne_eqb (number q) 0 (λ z. let p : 0 < number q = number_positive q in omega arith)

    by_number : report_by_making forms o k skip least e ≡ cond (passes skip (number q)) (accepted forms o least e [] []) (refused forms e (number q))
    by_number =
        report_is ∙ ap (λ (n : ℕ). by n s) m
        ∙ ap (λ (t : Bool). cond t (accepted forms o least e (k.mask s) (k.marks s))
        (cond (passes skip (number q)) (accepted forms o least e [] []) (refused forms e (number q)))) not_none

    pub bare_is : (p : LongdustOptions) → p ≡ o → passes skip (number q) ≡ true → report_by_making forms o k skip least e ≡ accepted forms p least e [] []
    bare_is p r t =
        by_number ∙ ap (λ (b : Bool). cond b (accepted forms o least e [] []) (refused forms e (number q))) t
        ∙ ap (λ (x : LongdustOptions). accepted forms x least e [] []) (sym r)

    pub refused_is : passes skip (number q) ≡ false → report_by_making forms o k skip least e ≡ refused forms e (number q)
    refused_is t = by_number ∙ ap (λ (b : Bool). cond b (accepted forms o least e [] []) (refused forms e (number q))) t

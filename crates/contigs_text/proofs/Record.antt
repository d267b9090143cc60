-- A record's text, by what its run answers.
use Rattle.std.proofs.Common.{◌≡◌, ℕ, zero, suc, ◌≤◌, ◌<◌, Bool, cond, List, [], ◌++◌, length, take, refl, sym, ap, ap₂, ◌∙◌, arith, lt-ltb, le-ltb, Ok, Err}
use Rattle.std.specs.Prelude.{Result, OnOk}
use Rattle.checks.specs.declared.refusal.Refusal.{Refusal}
use Rattle.checks.specs.Refusal.{number}
use Rattle.checks.proofs.Refusing.{number_positive}
use Rattle.intervals.specs.declared.Interval.{Interval}
use Rattle.fasta.specs.Lines.{name_of}
use Rattle.longdust.specs.declared.LongdustOptions.{LongdustOptions}
use Rattle.entries.specs.declared.held.HeldEntry.{HeldEntry}
use Rattle.entries.specs.Entries.{record_of}
use Rattle.entries.specs.Held.{lengths_of, entry_of}
use Rattle.entries.proofs.Kept.{joined_cut}
use Rattle.masker.specs.Run.{record_refusal, record_mask, Held}
use Rattle.contigs_text.specs.declared.Limits.{Limits}
use Rattle.contigs_text.specs.Text.{mask_lines, refused_line, too_long_line, answered, record_text}

pub on_ok : {A E P Q : Type 0} → (r : Result A E) → (P → Q) → OnOk r P → OnOk r Q
on_ok (Ok x) f p = f p
on_ok (Err e) f p = p

module _ (most : Limits) (o : LongdustOptions) (h : HeldEntry) (name s t t' : List ℕ) (named : name ≡ name_of h.header.items) (same : s ≡ h.letters.items)
    (none : t ≡ []) where
  abbrev short : List ℕ
  short = answered name (record_refusal o s) (record_mask o s)

  record_is : record_text most o (record { name = name; letters = s }) ≡ record_text most o (record_of (entry_of h))
  record_is =
      ap₂ (λ (n l : List ℕ). record_text most o (record { name = n; letters = l })) named
      (same ∙ sym (joined_cut (lengths_of h.runs.items) h.letters.items))

  appended : (xs : List ℕ) → t' ≡ t ++ xs → t' ≡ xs
  appended xs p = p ∙ ap (λ (l : List ℕ). l ++ xs) none

  pub text_long : most.letters < length s → t' ≡ t ++ too_long_line name → t' ≡ record_text most o (record_of (entry_of h))
  unfolding record_text
  text_long many p =
      appended (too_long_line name) p
      ∙ sym (ap (λ (b : Bool). cond b (too_long_line name) short) (lt-ltb most.letters (length s) many))
      ∙ record_is

  module _ (few : length s ≤ most.letters) where
    short_is : short ≡ record_text most o (record_of (entry_of h))
    unfolding record_text
    short_is = sym (ap (λ (b : Bool). cond b (too_long_line name) short) (le-ltb most.letters (length s) few)) ∙ record_is

    pub text_masked : (list part : List Interval) (marks : List ℕ) (count : ℕ) → Held o s list marks count → part ≡ take count list
        → t' ≡ t ++ mask_lines name part → t' ≡ record_text most o (record_of (entry_of h))
    text_masked list part marks count m e p =
        appended (mask_lines name part) p
        ∙ ap (λ (is : List Interval). mask_lines name is) (e ∙ m.list_is)
        ∙ ap (λ (n : ℕ). answered name n (record_mask o s)) (sym m.accepted)
        ∙ short_is

    positive : (n : ℕ) → 0 < n → (i : ℕ) × (n ≡ suc i)
    positive zero p = absurd (let z : ⊥ = omega arith in z)
    positive (suc i) p = (i, refl)

    pub text_refused : (q : Refusal) → record_refusal o s ≡ number q → t' ≡ t ++ refused_line name (number q)
        → t' ≡ record_text most o (record_of (entry_of h))
    text_refused q m p =
        let (i, e) = positive (number q) (number_positive q) in
        appended (refused_line name (number q)) p
        ∙ ap (λ (n : ℕ). refused_line name n) e
        ∙ ap (λ (n : ℕ). answered name n (record_mask o s)) (sym (m ∙ e))
        ∙ short_is

-- The text that the reader of records gives is that of the definition.
use Rattle.std.proofs.Common.{ℕ, ◌≤◌, ◌<◌, ◌≡◌, refl, sym, ap, ◌∙◌, subst, Bool, false, List, [], ◌++◌, arith, length, take, Ok, Err}
use Rattle.std.specs.Prelude.{◌+◌, Option, None, Some, IfSome, IfOk, Result}
use Rattle.std.specs.Io.KnownBytes.{Appends}
use Rattle.fasta.specs.Contents.{Contents, contents_of, records_of, fault_of}
use Rattle.fasta.specs.Steps.{fault_number}
use Rattle.fasta.specs.declared.Fault.{Fault}
use Rattle.fasta.specs.declared.Fault.TheVariants.{LettersFirst, EmptyName}
use Rattle.report.specs.Text.{refusal_line}
use Rattle.longdust.specs.declared.LongdustOptions.{LongdustOptions}
use Rattle.entries.specs.Entries.{Entries, ends, fails, holds, record_of, entries_of, list_of, fault_of as fault_in, plain}
use Rattle.entries.specs.declared.sums.Sums.{Sums}
use Rattle.entries.specs.declared.failed.Failed.{Failed}
use Rattle.entries.specs.declared.failed.Failed.TheVariants.{Faulty}
use Rattle.entries.specs.Outcome.{Sent, held, texts, text_of, Outcome}
use Rattle.entries.proofs.Plain.{plain_file}
use Rattle.contigs_text.specs.declared.Limits.{Limits}
use Rattle.longdust.specs.Options.{defaults}
use Rattle.contigs_text.specs.Text.{record_text, records_text, limited_text, limits, file_text}
use Rattle.contigs_text.specs.Terms.Report.{report_of}
use Rattle.contigs_text.proofs.Starting.{by_records, faulty, first_bytes}

same_fault : (es : Entries) → fault_of (plain es) ≡ fault_in es
same_fault ends = refl
same_fault (fails n) = refl
same_fault (holds e es) = same_fault es

-- What a list that is written to holds afterwards.
appended : (a b : Option (List ℕ)) (t t' xs : List ℕ) → a ≡ Some t → b ≡ Some t' → Appends a b xs → t' ≡ t ++ xs
appended a b t t' xs p q h = rw (p, q) at h

pub positive : (fault : Fault) → 0 < fault_number fault
positive LettersFirst = omega arith
positive EmptyName = omega arith

module _ (most : Limits) (o : LongdustOptions) where
  same_texts : (es : Entries) → texts (λ e. (report_of most o e).text 0) (list_of es) ≡ records_text most o (records_of (plain es))
  unfolding texts records_text
  same_texts ends = refl
  same_texts (fails n) = refl
  same_texts (holds e es) = ap (λ (l : List ℕ). record_text most o (record_of e) ++ l) (same_texts es)

  module _ (file : List ℕ) (few : length file ≤ most.bytes) where
    fault_is : fault_of (contents_of file) ≡ fault_in (entries_of false file)
    fault_is = sym (ap fault_of (plain_file file)) ∙ same_fault (entries_of false file)

    pub all_records : fault_in (entries_of false file) ≡ 0 → text_of false (report_of most o) file 0 ≡ limited_text most o file
    all_records z =
        same_texts (entries_of false file)
        ∙ ap (λ (c : Contents). records_text most o (records_of c)) (plain_file file)
        ∙ by_records most o file few _ refl (fault_is ∙ z)

    pub fault_alone : (fault : Fault) → fault_in (entries_of false file) ≡ fault_number fault → refusal_line (fault_number fault) ≡ limited_text most o file
    fault_alone fault e = faulty most o file few (fault_number fault) (sym (fault_is ∙ e)) (positive fault)

    -- What the reader of records leaves in a text that held nothing, where that is its first writer.
    module _ (m : LongdustOptions) (e : m ≡ o) (t t' : List ℕ) (none : t ≡ []) (a b : List (Option (List ℕ)))
        (old : held a 0 ≡ Some t) (new : held b 0 ≡ Some t') where
      pub made : (k k' : Sums) → Outcome false (report_of most m) file a b None None k k' (Ok tt) → t' ≡ limited_text most o file
      made k k' (z, p, n, g) =
          appended (held a 0) (held b 0) t t' (text_of false (report_of most m) file 0) old new (p 0)
          ∙ ap (λ (l : List ℕ). l ++ text_of false (report_of most m) file 0) none
          ∙ ap (λ (i : LongdustOptions). text_of false (report_of most i) file 0) e
          ∙ all_records z

    pub made_fault : (m : LongdustOptions) (k k' : Sums) (a b : List (Option (List ℕ))) (fault : Fault) (x : Failed) → x ≡ Faulty fault
        → Outcome false (report_of most m) file a b None None k k' (Err x) → refusal_line (fault_number fault) ≡ limited_text most o file
    made_fault m k k' a b fault x f h =
        let (z, p, n, g) = subst (λ (y : Failed). Outcome false (report_of most m) file a b None None k k' (Err y)) f h in
        fault_alone fault z

  -- The text of the first bytes of a file is that of the file.
  module _ (a : Option (List ℕ)) (file text : List ℕ) (front : IfSome a (λ (xs : List ℕ). file ≡ take (most.bytes + 1) xs)) (e : text ≡ limited_text most o file) where
    on_all : (P : List ℕ → Type 0) → P text → IfSome a (λ (xs : List ℕ). P (limited_text most o xs))
    on_all P p = go a front
      where
        go : (b : Option (List ℕ)) → IfSome b (λ (xs : List ℕ). file ≡ take (most.bytes + 1) xs) → IfSome b (λ (xs : List ℕ). P (limited_text most o xs))
        go None f = tt
        go (Some xs) f = subst P (e ∙ ap (limited_text most o) f ∙ first_bytes most o xs) p

    pub sent_text : (w w' : Option (List ℕ)) (r : Result ℕ Failed) → Sent w w' text r → IfSome a (λ (xs : List ℕ). Sent w w' (limited_text most o xs) r)
    sent_text w w' r p = on_all (λ (l : List ℕ). Sent w w' l r) p

    pub counted : (r : Result ℕ Failed) → IfOk r (λ (n : ℕ). n ≡ length text) → IfSome a (λ (xs : List ℕ). IfOk r (λ (n : ℕ). n ≡ length (limited_text most o xs)))
    counted r p = on_all (λ (l : List ℕ). IfOk r (λ (n : ℕ). n ≡ length l)) p

-- With the default options.
module _ (o : LongdustOptions) (e : o ≡ defaults) (a : Option (List ℕ)) (r : Result ℕ Failed) where
  pub sent_file : (w w' : Option (List ℕ)) → IfSome a (λ (xs : List ℕ). Sent w w' (limited_text limits o xs) r) → IfSome a (λ (xs : List ℕ). Sent w w' (file_text xs) r)
  unfolding file_text
  sent_file w w' h = subst (λ (i : LongdustOptions). IfSome a (λ (xs : List ℕ). Sent w w' (limited_text limits i xs) r)) e h

  pub counted_file : IfSome a (λ (xs : List ℕ). IfOk r (λ (n : ℕ). n ≡ length (limited_text limits o xs)))
      → IfSome a (λ (xs : List ℕ). IfOk r (λ (n : ℕ). n ≡ length (file_text xs)))
  unfolding file_text
  counted_file h = subst (λ (i : LongdustOptions). IfSome a (λ (xs : List ℕ). IfOk r (λ (n : ℕ). n ≡ length (limited_text limits i xs)))) e h

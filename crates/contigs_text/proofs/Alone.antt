-- Each record is masked alone: a file that is cut before a line that opens a record prints what its two parts print, one after the other.
-- A fault of either part is that of the whole, the first part's before the second's.
use Rattle.std.proofs.Common.{ℕ, ◌≤◌, ◌<◌, ◌≡◌, refl, sym, ap, ap₂, ◌∙◌, List, [], ◌∷◌, ◌++◌, append_assoc, arith, length, length-append}
use Rattle.fasta.specs.Contents.{Record, contents_of, records_of, fault_of}
use Rattle.fasta.proofs.Joined.{records_follow, fault_follows, fault_stays}
use Rattle.longdust.specs.declared.LongdustOptions.{LongdustOptions}
use Rattle.contigs_text.specs.declared.Limits.{Limits}
use Rattle.contigs_text.specs.Text.{record_text, records_text, limited_text}
use Rattle.contigs_text.proofs.Starting.{by_records, faulty}

module _ (most : Limits) (o : LongdustOptions) where
  abbrev text : List ℕ → List ℕ
  text file = limited_text most o file

  texts_follow : (rs ss : List Record) → records_text most o (rs ++ ss) ≡ records_text most o rs ++ records_text most o ss
  unfolding records_text
  texts_follow [] ss = refl
  texts_follow (r ∷ rs) ss =
      ap (λ (l : List ℕ). record_text most o r ++ l) (texts_follow rs ss)
      ∙ sym (append_assoc (record_text most o r) (records_text most o rs) (records_text most o ss))

  module _ (a b : List ℕ) (few : length (a ++ (10 ∷ (62 ∷ b))) ≤ most.bytes) where
    few_first : length a ≤ most.bytes
    few_first = omega (arith, length-append a (10 ∷ (62 ∷ b)))

    few_second : length (62 ∷ b) ≤ most.bytes
    few_second = omega (arith, length-append a (10 ∷ (62 ∷ b)))

    pub alone : fault_of (contents_of a) ≡ 0 → fault_of (contents_of (62 ∷ b)) ≡ 0 → text (a ++ (10 ∷ (62 ∷ b))) ≡ text a ++ text (62 ∷ b)
    alone h k =
        sym (by_records most o (a ++ (10 ∷ (62 ∷ b))) few _ refl (fault_follows a b h ∙ k))
        ∙ ap (records_text most o) (records_follow a b h)
        ∙ texts_follow (records_of (contents_of a)) (records_of (contents_of (62 ∷ b)))
        ∙ ap₂ (λ (l m : List ℕ). l ++ m) (by_records most o a few_first _ refl h) (by_records most o (62 ∷ b) few_second _ refl k)

    pub fault_before : 0 < fault_of (contents_of a) → text (a ++ (10 ∷ (62 ∷ b))) ≡ text a
    fault_before h =
        sym (faulty most o (a ++ (10 ∷ (62 ∷ b))) few _ (sym (fault_stays a b h)) h)
        ∙ faulty most o a few_first _ refl h

    pub fault_after : fault_of (contents_of a) ≡ 0 → 0 < fault_of (contents_of (62 ∷ b)) → text (a ++ (10 ∷ (62 ∷ b))) ≡ text (62 ∷ b)
    fault_after h k =
        sym (faulty most o (a ++ (10 ∷ (62 ∷ b))) few _ (sym (fault_follows a b h)) k)
        ∙ faulty most o (62 ∷ b) few_second _ refl k

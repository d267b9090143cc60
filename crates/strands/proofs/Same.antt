-- The lists of both strands, joined, make the report that the masker makes.
use Rattle.std.proofs.Common.{◌≡◌, refl, sym, ap, ap₂, ◌∙◌, ℕ, ◌+◌, ◌≤◌, ◌<◌, Bool, true, false, cond, eqb, le-ltb, List, [], ◌∷◌, append-nil, arith, length, take, take_all, subst, eqb-true}
use lib.Ieee.{Float}
use Rattle.letters.specs.Code.{codes}
use Rattle.letters.proofs.Codes.{codes_length, reverse_complement_length}
use Rattle.intervals.specs.declared.Interval.{Interval}
use Rattle.intervals.specs.declared.Marked.{Marked}
use Rattle.intervals.specs.Interval.{Ascending, Canonical}
use Rattle.intervals.specs.Merge.{ranges, marks_of}
use Rattle.intervals.proofs.Usual.{usual_agrees}
use Rattle.step.proofs.Theorems.{strand_shape}
use Rattle.mask.proofs.Masks.{mask_ranges}
use Rattle.tables.proofs.Tables.{ln_table_length, f_table_length}
use Rattle.tables.specs.Density.{density}
use Rattle.longdust.specs.declared.LongdustOptions.{LongdustOptions}
use Rattle.longdust.specs.Mask.{setup, mask, marked_mask}
use Rattle.longdust.specs.Strand.{strand_codes, strand_list, strands_merged, merging_refusal}
use Rattle.longdust.proofs.Accept.{admitted}
use Rattle.longdust.proofs.StrandTheorems.{both_strands_merged}
use Rattle.small.specs.Bytes.{bytes_of}
use Rattle.entries.specs.Entries.{Entry, joined as letters_of}
use Rattle.entries.specs.Outcome.{Report, texts, records}
use Rattle.entries.proofs.Same.{Agree}
use Rattle.masker.specs.Run.{by_options, listed, ln_of, f_of, record_refusal, record_mask, record_marks}
use Rattle.forms.specs.declared.form.Form.{Form}
use Rattle.forms.specs.Form.{accepted, refused, passes, report_by, report_by_making}
use Rattle.strands.specs.Bytes.{AllFit}
use Rattle.strands.specs.Strand.{list_of, strand_bytes, strand_report}
use Rattle.strands.specs.Joined.{joined_refusal, joined, StrandsOf}
use Rattle.strands.proofs.Reading.{ascending_fit}

of_one_letter : (n k lo : ℕ) (is : List Interval) → 0 < k → Ascending n k lo is → Ascending n 1 lo is
of_one_letter n k lo [] p a = tt
of_one_letter n k lo (i ∷ is) p a = (a.0, omega (arith, a.1), a.2, of_one_letter n k (i.end + 1) is p a.3)

strand_codes_length : (reverse : Bool) (s : List ℕ) → length (strand_codes reverse s) ≡ length s
strand_codes_length true s = reverse_complement_length (codes s) ∙ codes_length s
strand_codes_length false s = codes_length s

module _ (o : LongdustOptions) (s : List ℕ) (e : record_refusal o s ≡ 0) where
  kmer_low : 1 ≤ o.kmer
  unfolding record_refusal
  kmer_low = (admitted o s (listed o (length s)) e).bounds.kmer_low

  few : length s ≤ 2147483647
  unfolding record_refusal
  few = (admitted o s (listed o (length s)) e).letters_high

  shape : (reverse : Bool) → Canonical (length s) o.kmer (list_of o reverse s)
  unfolding list_of setup
  shape reverse =
      subst (λ (n : ℕ). Canonical n o.kmer (strand_list o reverse s (ln_of o) (f_of o s))) (strand_codes_length reverse s)
      (strand_shape (setup o (take (o.window_size + 1) (ln_of o)) (take (o.window_size + 2) (f_of o s))) (strand_codes reverse s))

  pub list_fits : (reverse : Bool) → AllFit (list_of o reverse s)
  list_fits reverse = ascending_fit (length s) o.kmer 0 (list_of o reverse s) (omega (arith, few)) (shape reverse)

  usual_strand : (reverse : Bool) → Canonical (length s) 1 (list_of o reverse s)
  usual_strand reverse = of_one_letter (length s) o.kmer 0 (list_of o reverse s) kmer_low (shape reverse)

  joins : (xs : ℕ) → length (list_of o false s) + length (list_of o true s) ≡ xs → merging_refusal (length s) (list_of o false s) (list_of o true s) xs xs ≡ 0
  joins xs h =
      rw (
        le-ltb 2147483647 (length s) few,
        (usual_agrees (length s) (list_of o false s)).1 (usual_strand false),
        (usual_agrees (length s) (list_of o true s)).1 (usual_strand true),
        le-ltb xs (length (list_of o false s) + length (list_of o true s)) (omega (arith, h)),
      )
      refl

  module _ (both : o.forward_only ≡ false) where
    merged : strands_merged (length s) (list_of o false s) (list_of o true s) ≡ marked_mask o s (ln_of o) (f_of o s)
    unfolding list_of
    merged =
        both_strands_merged o s (ln_of o) (f_of o s) both
        ∙ ap₂ (λ (x y : List Float). marked_mask o s x y)
        (take_all (o.window_size + 1) (ln_of o) (omega (arith, ln_table_length o.window_size)))
        (take_all (o.window_size + 2) (f_of o s) (omega (arith, f_table_length o.kmer o.window_size (density o.kmer o.gc (codes s)))))

    mask_same : ranges (strands_merged (length s) (list_of o false s) (list_of o true s)) ≡ record_mask o s
    unfolding record_mask mask marked_mask
    mask_same = ap (λ (ms : List Marked). ranges ms) merged ∙ mask_ranges (setup o (ln_of o) (f_of o s)) o.forward_only (codes s)

    marks_same : marks_of (strands_merged (length s) (list_of o false s) (list_of o true s)) ≡ record_marks o s
    unfolding record_marks
    marks_same = ap (λ (ms : List Marked). marks_of ms) merged

module _ (forms : List Form) (o : LongdustOptions) (skip : Bool) (least : ℕ) (e : Entry) (both : o.forward_only ≡ false) (F R : List Interval)
    (f : record_refusal o (letters_of e.lines) ≡ 0 → F ≡ list_of o false (letters_of e.lines))
    (r : record_refusal o (letters_of e.lines) ≡ 0 → R ≡ list_of o true (letters_of e.lines)) where
  abbrev s : List ℕ
  s = letters_of e.lines

  abbrev by : ℕ → List Interval → List ℕ → Report
  by n is marks = report_by skip n (accepted forms o least e is marks) (accepted forms o least e [] []) (refused forms e n)

  abbrev J : List Interval → List Interval → Report
  J is js = by (joined_refusal o is js s) (ranges (strands_merged (length s) is js)) (marks_of (strands_merged (length s) is js))

  good : eqb (record_refusal o s) 0 ≡ true → J F R ≡ by (record_refusal o s) (record_mask o s) (record_marks o s)
  unfolding joined_refusal
  good t =
      let z : record_refusal o s ≡ 0 = eqb-true (record_refusal o s) 0 t in
      let n : ℕ = length (list_of o false s) + length (list_of o true s) in
      let none : joined_refusal o (list_of o false s) (list_of o true s) s ≡ record_refusal o s =
      ap (λ (b : Bool). cond b (merging_refusal (length s) (list_of o false s) (list_of o true s) n n) (record_refusal o s)) t
      ∙ joins o s z n refl ∙ sym z in
      ap₂ J (f z) (r z)
      ∙ ap (λ (k : ℕ). by k (ranges (strands_merged (length s) (list_of o false s) (list_of o true s))) (marks_of (strands_merged (length s) (list_of o false s) (list_of o true s)))) none
      ∙ ap₂ (by (record_refusal o s)) (mask_same o s z both) (marks_same o s z both)

  bad : eqb (record_refusal o s) 0 ≡ false → J F R ≡ by (record_refusal o s) (record_mask o s) (record_marks o s)
  unfolding joined_refusal
  bad t =
      let is : List Interval = ranges (strands_merged (length s) F R) in
      let marks : List ℕ = marks_of (strands_merged (length s) F R) in
      let rest : Report = cond (passes skip (record_refusal o s)) (accepted forms o least e [] []) (refused forms e (record_refusal o s)) in
      ap (λ (b : Bool). by (cond b (merging_refusal (length s) F R (length F + length R) (length F + length R)) (record_refusal o s)) is marks) t
      ∙ ap (λ (b : Bool). cond b (accepted forms o least e is marks) rest) t
      ∙ sym (ap (λ (b : Bool). cond b (accepted forms o least e (record_mask o s) (record_marks o s)) rest) t)

  by_either : (b : Bool) → eqb (record_refusal o s) 0 ≡ b → J F R ≡ by (record_refusal o s) (record_mask o s) (record_marks o s)
  by_either true t = good t
  by_either false t = bad t

  pub report_same : report_by_making forms o (joined o F R) skip least e ≡ report_by_making forms o (by_options o) skip least e
  unfolding report_by_making
  report_same = by_either (eqb (record_refusal o s) 0) refl

-- The bytes of the only record.
only_text : (o : LongdustOptions) (reverse : Bool) (e : Entry) → texts (λ d. (strand_report o reverse d).text 0) (e ∷ []) ≡ strand_bytes o reverse (letters_of e.lines)
unfolding texts
only_text o reverse e = append-nil (strand_bytes o reverse (letters_of e.lines))

accepted_bytes : (o : LongdustOptions) (reverse : Bool) (s : List ℕ) → record_refusal o s ≡ 0 → strand_bytes o reverse s ≡ bytes_of (list_of o reverse s)
unfolding strand_bytes
accepted_bytes o reverse s e = ap (λ (n : ℕ). cond (eqb n 0) (bytes_of (list_of o reverse s)) []) e

module _ (forms : List Form) (o : LongdustOptions) (skip : Bool) (least : ℕ) (both : o.forward_only ≡ false) (a b : List ℕ) (F R : List Interval)
    (f : (is : List Interval) → AllFit is → a ≡ bytes_of is → F ≡ is) (r : (is : List Interval) → AllFit is → b ≡ bytes_of is → R ≡ is) where
  all_same : (es : List Entry) → length es ≤ 1 → a ≡ texts (λ d. (strand_report o false d).text 0) es → b ≡ texts (λ d. (strand_report o true d).text 0) es
      → Agree (report_by_making forms o (joined o F R) skip least) (report_by_making forms o (by_options o) skip least) es
  all_same [] h p q = tt
  all_same (e ∷ []) h p q =
      let s : List ℕ = letters_of e.lines in (
        report_same forms o skip least e both F R
            (λ z. f (list_of o false s) (list_fits o s z false) (p ∙ only_text o false e ∙ accepted_bytes o false s z))
            (λ z. r (list_of o true s) (list_fits o s z true) (q ∙ only_text o true e ∙ accepted_bytes o true s z)),
        tt,
      )
  all_same (e ∷ (d ∷ es)) h p q = absurd (let z : ⊥ = omega (arith, h) in z)

  pub strands_agree : (file : List ℕ) → StrandsOf o file a b → Agree (report_by_making forms o (joined o F R) skip least) (report_by_making forms o (by_options o) skip least) (records true file)
  strands_agree file g = all_same (records true file) g.one g.forward_is g.reverse_is

-- What the masking call says of buffers of exactly the listed sizes.
use Rattle.std.proofs.Common.{◌≡◌, ℕ, ◌+◌, ◌≤◌, Bool, true, false, true≢false, not, ◌&&◌, ◌||◌, ltb, List, [], ◌++◌, length, length-append, append-nil, take, take_all, drop, drop_of_length-le, arith, refl, sym, ap, ap₂, ◌∙◌, Ok, Err}
use Rattle.buffers.specs.Fill.{put}
use Rattle.tables.specs.declared.Density.{Density}
use Rattle.tables.specs.declared.GcOption.{GcOption}
use Rattle.tables.specs.declared.GcOption.TheVariants.{Uniform, Fixed, Auto}
use lib.Seq.{take_at}
use lib.Ieee.{Float}
use Rattle.checks.specs.declared.refusal.Refusal.{Refusal}
use Rattle.intervals.specs.declared.Interval.{Interval}
use Rattle.letters.specs.Code.{codes}
use Rattle.tables.specs.Density.{density}
use Rattle.tables.specs.Tables.{ln_table, f_table}
use Rattle.tables.proofs.Tables.{ln_table_length, f_table_length}
use Rattle.longdust.specs.declared.Answer.{Answer}
use Rattle.longdust.specs.declared.Lent.{Lent}
use Rattle.longdust.specs.declared.LongdustOptions.{LongdustOptions}
use Rattle.longdust.specs.Buffers.{Buffers, lengths}
use Rattle.longdust.specs.Checks.{refusal}
use Rattle.longdust.specs.Mask.{setup, mask, marked_mask}
use Rattle.longdust.proofs.Theorems.{marks_are}
use Rattle.mask.proofs.Masks.{mask_ranges}
use Rattle.intervals.specs.Merge.{range, mark_of, marks_of}
use lib.ListN.{length-map}
use borrow.Author.Tests.{ltb-false}
use Rattle.scans.proofs.Test.{neither}
use Rattle.longdust.specs.Call.{Answered, Filled, Kept, ln_read, f_read}
use Rattle.masker.specs.Run.{listed, ln_of, f_of, by_letters, serves_all, TablesFor, record_refusal, record_mask, record_marks, Held, Masks}

module _ (Tables : LongdustOptions → List ℕ → Buffers → Buffers → Type 0) (o : LongdustOptions) (s : List ℕ) (b b' : Buffers)
    (sizes : lengths b ≡ listed o (length s)) where
  pub refused : (r : Refusal) → Answered Tables o s b b' (Err r) → Masks o s b'.list b'.marks (Err r)
  unfolding record_refusal
  refused r A = sym (A.number ∙ ap (λ (l : Lent). refusal o s l) sizes)

  module _ (a : Answer) (A : Answered Tables o s b b' (Ok a)) where
    within : a.count ≤ length b'.list
    within =
        let w = A.accepted.buffers.list in
        omega (
          arith,
          w.count_is,
          ap (λ (l : List Interval). length l) w.list_is,
          length-append (mask o s (ln_read o b') (f_read o b')) (drop (length (mask o s (ln_read o b') (f_read o b'))) b.list),
        )

    marks_within : a.count ≤ length b'.marks
    unfolding mask marked_mask
    marks_within =
        let m = A.accepted.buffers in
        let ms = marked_mask o s (ln_read o b') (f_read o b') in
        let n : a.count ≡ length (marks_of ms) =
        m.list.count_is ∙ ap (λ (is : List Interval). length is) (sym (mask_ranges (setup o (ln_read o b') (f_read o b')) o.forward_only (codes s)))
        ∙ length-map ms range ∙ sym (length-map ms mark_of) in
        omega (
          arith,
          n,
          ap (λ (l : List ℕ). length l) m.marks,
          length-append (marks_of ms) (drop (length (marks_of ms)) b.marks),
        )

    pub accepted_by : ln_read o b' ≡ ln_of o → f_read o b' ≡ f_of o s → Held o s b'.list b'.marks a.count
    unfolding record_refusal record_mask record_marks
    accepted_by ln_is f_is =
        record {
          accepted = sym (A.number ∙ ap (λ (l : Lent). refusal o s l) sizes);
          list_long = within;
          marks_long = marks_within;
          list_is =
              ap (λ (l : List Interval). take a.count l) A.accepted.buffers.list.list_is
              ∙ take_at (mask o s (ln_read o b') (f_read o b')) _ a.count (sym A.accepted.buffers.list.count_is)
              ∙ ap₂ (λ (x y : List Float). mask o s x y) ln_is f_is;
          marks_are = marks_are A ∙ ap₂ (λ (x y : List Float). marks_of (marked_mask o s x y)) ln_is f_is;
        }

module _ (o : LongdustOptions) (s : List ℕ) (b b' : Buffers) (sizes : lengths b ≡ listed o (length s)) (a : Answer) where
  pub accepted : Answered Filled o s b b' (Ok a) → Held o s b'.list b'.marks a.count
  accepted A =
      accepted_by Filled o s b b' sizes a A
      (ap (λ (l : List Float). take (o.window_size + 1) l) A.tables.ln ∙ take_at (ln_table o.window_size) _ (o.window_size + 1) (ln_table_length o.window_size))
      (ap (λ (l : List Float). take (o.window_size + 2) l) A.tables.f
      ∙ take_at (f_table o.kmer o.window_size (density o.kmer o.gc (codes s))) _ (o.window_size + 2)
      (f_table_length o.kmer o.window_size (density o.kmer o.gc (codes s))))

  -- By tables that were filled before.
  pub accepted_kept : Answered Kept o s b b' (Ok a) → b.ln ≡ ln_table o.window_size → b.f ≡ f_table o.kmer o.window_size (density o.kmer o.gc (codes s))
      → Held o s b'.list b'.marks a.count
  accepted_kept A l f =
      accepted_by Kept o s b b' sizes a A
      (ap (λ (x : List Float). take (o.window_size + 1) x) (A.tables.ln ∙ l) ∙ take_all (o.window_size + 1) (ln_table o.window_size) (omega (arith, ln_table_length o.window_size)))
      (ap (λ (x : List Float). take (o.window_size + 2) x) (A.tables.f ∙ f)
      ∙ take_all (o.window_size + 2) (f_table o.kmer o.window_size (density o.kmer o.gc (codes s)))
      (omega (arith, f_table_length o.kmer o.window_size (density o.kmer o.gc (codes s)))))

-- ---- Tables that serve all records.
and_both : (x y : Bool) → (x && y) ≡ true → (x ≡ true) × (y ≡ true)
and_both true y e = (refl, e)
and_both false y e = absurd (true≢false (sym e))

not_true : (x : Bool) → not x ≡ true → x ≡ false
not_true true e = sym e
not_true false e = refl

module _ (o : LongdustOptions) (h : serves_all o ≡ true) where
  pub gc_served : by_letters o.gc ≡ false
  gc_served = not_true _ (and_both _ _ (and_both _ _ h).0).0

  pub kmer_served : o.kmer ≤ 12
  kmer_served = let e : (ltb o.kmer 1 || ltb 12 o.kmer) ≡ false = not_true _ (and_both _ _ (and_both _ _ h).0).1 in ltb-false 12 o.kmer (neither (ltb o.kmer 1) (ltb 12 o.kmer) e).1

  pub window_served : o.window_size ≤ 65535
  window_served = ltb-false 65535 o.window_size (not_true _ (and_both _ _ h).1)

density_served : (k : ℕ) (gc : GcOption) (s t : List ℕ) → by_letters gc ≡ false → density k gc s ≡ density k gc t
unfolding density
density_served k Uniform s t h = refl
density_served k (Fixed x) s t h = refl
density_served k Auto s t h = absurd (true≢false h)

pub put_all : {A : Type 0} (xs d : List A) → length xs ≡ length d → put xs d ≡ xs
put_all {A} xs d e = ap (λ (l : List A). xs ++ l) (drop_of_length-le d (omega arith)) ∙ append-nil xs

pub none_served : (o : LongdustOptions) (ln f : List Float) → serves_all o ≡ false → TablesFor o ln f
none_served o ln f e = λ s h. absurd (true≢false (sym h ∙ e))

pub tables_for : (o : LongdustOptions) (d e ln f : List Float) → length d ≡ o.window_size + 1 → length e ≡ o.window_size + 2
    → ln ≡ put (ln_table o.window_size) d → f ≡ put (f_table o.kmer o.window_size (density o.kmer o.gc [])) e → TablesFor o ln f
tables_for o d e ln f l m p q =
    λ s h. (
      p ∙ put_all (ln_table o.window_size) d (ln_table_length o.window_size ∙ sym l),
      q ∙ put_all (f_table o.kmer o.window_size (density o.kmer o.gc [])) e (f_table_length o.kmer o.window_size (density o.kmer o.gc []) ∙ sym m)
          ∙ ap (λ (x : Density). f_table o.kmer o.window_size x) (density_served o.kmer o.gc [] (codes s) (gc_served o h)),
    )

-- What a run that leaves the mask in the final list answers: an accepted request, with its shape, its evidence and no better shorter stretches.
use Rattle.std.proofs.Common.{◌≡◌, refl, sym, ap, ap₂, ◌∙◌, subst, Bool, List, ℕ, ◌≤◌, arith, T, Float, length}
use Rattle.letters.specs.Code.{codes}
use Rattle.letters.proofs.Codes.{codes_length}
use Rattle.intervals.specs.declared.Interval.{Interval}
use Rattle.intervals.specs.Interval.{Canonical, Covers, Wrote}
use Rattle.intervals.specs.declared.Marked.{Marked}
use Rattle.intervals.specs.Merge.{ranges, WroteMarked}
use Rattle.intervals.proofs.Slice.{wrote_list}
use Rattle.intervals.specs.declared.output.MarksOut.{MarksOut}
use Rattle.mask.specs.declared.Workspace.{Workspace}
use Rattle.mask.specs.Terms.Both.{Freed}
use Rattle.scans.specs.declared.Params.{Params}
use Rattle.scans.specs.Setup.{Setup}
use Rattle.scans.specs.Terms.Numbers.{setup_of}
use Rattle.scans.specs.Range.{in_range, CheckedSetup}
use Rattle.longdust.specs.declared.LongdustOptions.{LongdustOptions}
use Rattle.longdust.specs.declared.Answer.{Answer}
use Rattle.longdust.specs.Mask.{setup, mask, marked_mask}
use Rattle.mask.specs.Mask.{mask_of, marked_mask_of}
use Rattle.longdust.specs.Buffers.{Buffers, lends, lengths}
use Rattle.longdust.specs.Call.{ln_read, f_read, listed, Masked, Accepted}
use Rattle.longdust.specs.Terms.Inner.{Bounds, Admitted, Prepared, Ran}
use Rattle.mask.proofs.Masks.{mask_shape, mask_ranges, mask_evidence, scans_find}
use Rattle.mask.proofs.Marking.{marked_evidence}
use Rattle.longdust.proofs.Parts.{listed_free}
use Rattle.longdust.proofs.Setups.{prepared_kmer, prepared_window}

accepted_by : (o : LongdustOptions) (s : List ℕ) (b b' : Buffers) (r : Answer) → Bounds o → length s ≤ 2147483647
    → CheckedSetup (setup o (ln_read o b') (f_read o b')) → r.in_range ≡ in_range (setup o (ln_read o b') (f_read o b'))
    → Masked o s b b' r.count → Accepted o s b b' r
unfolding mask marked_mask setup
accepted_by o s b b' r c h a flag m =
    let S = setup o (ln_read o b') (f_read o b') in
    let l = codes_length s in
    let held : listed r b' ≡ mask_of S o.forward_only (codes s) = wrote_list m.list in
    record {
      flag = flag;
      buffers = m;
      shape =
          subst (λ (n : ℕ). Canonical n o.kmer (listed r b')) l
          (subst (λ (z : List Interval). Canonical (length (codes s)) o.kmer z) (sym held) (mask_shape S o.forward_only (codes s) c.kmer_low));
      evidence = λ e x d.
          mask_evidence S (codes s) c.kmer_low a (subst T (sym (sym flag ∙ e)) tt) (omega arith) o.forward_only x
          (subst (λ (z : List Interval). Covers z x) held d);
      marked_evidence = λ e.
          marked_evidence S (codes s) c.kmer_low a (subst T (sym (sym flag ∙ e)) tt) (omega arith) o.forward_only;
      shorter = λ e. scans_find S o.forward_only (codes s) a (subst T (sym (sym flag ∙ e)) tt);
    }

module _ (o : LongdustOptions) (ln f : List Float) (cs : List ℕ) (w w' : Workspace) (out out' : MarksOut)
    (a : Admitted o (length cs) (lengths (lends ln f cs w out))) where
  abbrev before : Buffers
  before = lends ln f cs w out

  abbrev after : Buffers
  after = lends ln f cs w' out'

  pub ran : (p : Params) → Prepared o (ln_read o before) (f_read o before) p → (flag : Bool) → flag ≡ in_range (setup o (ln_read o before) (f_read o before))
      → (count : ℕ) → WroteMarked (marked_mask_of (setup_of p (ln_read o before) (f_read o before)) o.forward_only cs)
      out.list.now out'.list.now out.marks.now out'.marks.now count
      → Freed p (length cs) w w' → Ran o cs before after (record { count = count; in_range = flag })
  unfolding mask marked_mask setup
  ran p q flag g count held free =
      record {
        accepted = λ s c.
            let n_is : length cs ≡ length s = ap (λ (z : List ℕ). length z) c ∙ codes_length s in
            let S = setup o (ln_read o before) (f_read o before) in
            let all = marked_mask o s (ln_read o before) (f_read o before) in
            let ms : marked_mask_of (setup_of p (ln_read o before) (f_read o before)) o.forward_only cs ≡ all =
            ap₂ (λ (z : Setup) (x : List ℕ). marked_mask_of z o.forward_only x) q.setup_is c in
            let wrote : WroteMarked all out.list.now out'.list.now out.marks.now out'.marks.now count =
            subst (λ (z : List Marked). WroteMarked z out.list.now out'.list.now out.marks.now out'.marks.now count) ms held in
            let ranges_are : ranges all ≡ mask o s (ln_read o before) (f_read o before) = mask_ranges S o.forward_only (codes s) in
            let listed = listed_free o (length cs) p (prepared_kmer q) (prepared_window q) w' (length s) n_is free in
            accepted_by o s before after (record { count = count; in_range = flag }) a.bounds (omega (arith, a.letters_high, n_is)) q.floats g
            (record {
              list = subst (λ (is : List Interval). Wrote is out.list.now out'.list.now count) ranges_are wrote.list;
              marks = wrote.marks_are;
              queue = listed.queue;
              window_counts = listed.window_counts;
              scan_counts = listed.scan_counts;
              candidates = listed.candidates;
              codes = record { long = refl; past = refl };
              reverse_codes = listed.reverse_codes;
              forward_list = listed.forward_list;
              reverse_list = listed.reverse_list;
            });
      }

-- What is written for a record of which one strand is masked, by what the masker answers.
use Rattle.std.proofs.Common.{◌≡◌, ℕ, ◌<◌, Bool, false, cond, eqb, ne_eqb, List, [], take, sym, ap, ◌∙◌, arith}
use Rattle.checks.specs.declared.refusal.Refusal.{Refusal}
use Rattle.checks.specs.Refusal.{number}
use Rattle.checks.proofs.Refusing.{number_positive}
use Rattle.intervals.specs.declared.Interval.{Interval}
use Rattle.longdust.specs.declared.LongdustOptions.{LongdustOptions}
use Rattle.small.specs.Bytes.{bytes_of}
use Rattle.entries.specs.declared.held.HeldEntry.{HeldEntry}
use Rattle.entries.specs.Held.{lengths_of, entry_of}
use Rattle.entries.proofs.Kept.{joined_cut}
use Rattle.masker.specs.Run.{record_refusal}
use Rattle.strands.specs.Strand.{list_of, HeldStrand, strand_bytes, bytes_report, strand_report}

module _ (o : LongdustOptions) (reverse : Bool) (h : HeldEntry) (s : List ℕ) (same : s ≡ h.letters.items) where
  report_is : strand_report o reverse (entry_of h) ≡ bytes_report (strand_bytes o reverse s)
  report_is = ap (λ (l : List ℕ). bytes_report (strand_bytes o reverse l)) (joined_cut (lengths_of h.runs.items) h.letters.items ∙ sym same)

  pub accepted_report : (list : List Interval) (count : ℕ) → HeldStrand o reverse s list count → strand_report o reverse (entry_of h) ≡ bytes_report (bytes_of (take count list))
  unfolding strand_bytes
  accepted_report list count m =
      report_is
      ∙ ap (λ (n : ℕ). bytes_report (cond (eqb n 0) (bytes_of (list_of o reverse s)) [])) m.accepted
      ∙ ap (λ (is : List Interval). bytes_report (bytes_of is)) (sym m.list_is)

  pub refused_report : (r : Refusal) → record_refusal o s ≡ number r → strand_report o reverse (entry_of h) ≡ bytes_report []
  unfolding strand_bytes
  refused_report r e =
      let some : eqb (record_refusal o s) 0 ≡ false = ne_eqb (record_refusal o s) 0 (λ z. let p : 0 < number r = number_positive r in omega (arith, p, e, z)) in
      report_is ∙ ap (λ (b : Bool). bytes_report (cond b (bytes_of (list_of o reverse s)) [])) some

-- What is printed in each case of a run, and that it fits a text of 49,167 bytes: 4,096 lines of 12 bytes and the count's line of 15.
use Rattle.std.proofs.Common.{ℕ, zero, suc, ◌+◌, ◌≤◌, ◌<◌, ◌≡◌, sym, ap, ◌∙◌, ⊎_elim, List, arith, length, take, length-append, length-take-le, take_all}
use borrow.Author.Tests.{lt-ltb, le-ltb}
use Rattle.intervals.specs.declared.Interval.{Interval}
use Rattle.intervals.specs.Interval.{Canonical, Wrote}
use Rattle.intervals.proofs.Slice.{wrote_list}
use Rattle.intervals.proofs.Shape.{ascending_inside, canonical_room}
use Rattle.intervals.proofs.Order.{lt_or_le}
use Rattle.report.specs.Letters.{letters_of}
use Rattle.report.specs.declared.text.Text.{Text}
use Rattle.report.specs.Held.{Held}
use Rattle.report.specs.Text.{report, refusal_line, size_line}
use Rattle.report.specs.Fits.{Fits}
use Rattle.report.proofs.Decimal.{length_decimal}
use Rattle.report.proofs.Lines.{length_report}
use Rattle.report.proofs.Writing.{fits_as}
use Rattle.contig.specs.Run.{contig_refusal, contig_mask}
use Rattle.contig.specs.Printed.{answered, printed, text_of}

pub too_many : (s : List ℕ) → 32768 < length s → size_line ≡ printed s
unfolding printed
too_many s h = rw (lt-ltb 32768 (length s) h)

few : (s : List ℕ) → length s ≤ 32768 → answered (contig_refusal s) (contig_mask s) ≡ printed s
unfolding printed
few s h = rw (le-ltb 32768 (length s) h)

pub refusal_fits : (n : ℕ) (t : Text) → n < 4294967296 → t.len + 49167 ≤ length t.bytes.now → Fits (refusal_line n) t
refusal_fits n t h l = record { room = simp length-append (omega (arith, length_decimal n 10 (omega arith) (omega arith))) }

module _ (s : List ℕ) (few_letters : length s ≤ 32768) where
  pub refused : {n : ℕ} → 0 < n → n ≡ contig_refusal s → refusal_line n ≡ printed s
  refused {n} p h = go n (contig_refusal s) h p ∙ few s few_letters
    where
      go : (m n : ℕ) → m ≡ n → 0 < m → refusal_line m ≡ answered n (contig_mask s)
      go m zero q p = absurd (omega arith)
      go m (suc n) q p = ap refusal_line q

  module _ (e : 0 ≡ contig_refusal s) {xs xs' : List Interval} {count : ℕ} (wrote : Wrote (contig_mask s) xs xs' count) where
    pub accepted : report (take count xs') ≡ printed s
    accepted = ap report (wrote_list wrote) ∙ ap (λ (n : ℕ). answered n (contig_mask s)) e ∙ few s few_letters

    module _ (shape : Canonical (length s) 7 (contig_mask s)) where
      pub count_room : count ≤ 4096
      count_room = omega (arith, canonical_room (length s) 7 (contig_mask s) shape, wrote.count_is)

      pub report_fits : (t : Text) → t.len + 49167 ≤ length t.bytes.now → Fits (report (take count xs')) t
      report_fits t l =
          let is : List Interval = contig_mask s in
          let h = count_room in
          let e : length is ≡ count = sym wrote.count_is in
          fits_as
          (ap report (wrote_list wrote))
          (record { room = omega (arith, length_report (length s) is (omega arith) (ascending_inside (length s) 7 0 is shape) (omega arith)) })

-- A buffer for more than 32,768 letters loses none that matters.
pub printed_held : {bytes d : List ℕ} {count : ℕ} → 32768 < length d → Held bytes d count → printed (take count d) ≡ text_of bytes
unfolding text_of
printed_held {bytes} {d} h k =
    ap printed k.letters_are
    ∙ ⊎_elim
    (λ (more : length d < length (letters_of bytes)).
    let l : length (take (length d) (letters_of bytes)) ≡ length d = length-take-le (length d) (letters_of bytes) (omega arith) in
    sym (too_many (take (length d) (letters_of bytes)) (omega arith)) ∙ too_many (letters_of bytes) (omega arith))
    (λ (all : length (letters_of bytes) ≤ length d). ap printed (take_all (length d) (letters_of bytes) all))
    (lt_or_le (length d) (length (letters_of bytes)))

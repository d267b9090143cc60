-- The lines of a list of intervals: of two lists joined, of the first intervals, and how long they are.
use Rattle.std.proofs.Common.{ℕ, ◌+◌, ◌*◌, ◌≤◌, ◌<◌, ◌≡◌, refl, sym, ap, ◌∙◌, List, [], ◌∷◌, ◌++◌, append_assoc, append-nil, add-one, arith, length, take, drop, get_or, length-append, take-append-drop, take-suc}
use Rattle.intervals.specs.declared.Interval.{Interval}
use Rattle.intervals.specs.Interval.{interval}
use Rattle.intervals.specs.Terms.Bounds.{Inside}
use Rattle.report.specs.Text.{line, lines, report}
use Rattle.report.specs.declared.text.Text.{Text}
use Rattle.report.specs.Adds.{Adds}
use Rattle.report.specs.Fits.{Fits}
use Rattle.report.proofs.Decimal.{length_decimal}
use Rattle.report.proofs.Writing.{none, next, adds_as, fits_next}

lines_append : (is js : List Interval) → lines (is ++ js) ≡ lines is ++ lines js
unfolding lines
lines_append [] js = refl
lines_append (i ∷ is) js = ap (λ (l : List ℕ). line i ++ l) (lines_append is js) ∙ sym (append_assoc (line i) (lines is) (lines js))

lines_next : (ps : List Interval) (i : ℕ) → i < length ps
    → lines (take (i + 1) ps) ≡ lines (take i ps) ++ line (get_or ps i (interval 0 0))
unfolding lines
lines_next ps i h =
    ap (λ (k : ℕ). lines (take k ps)) (add-one i)
    ∙ ap (λ (js : List Interval). lines js) (take-suc ps i (interval 0 0) h)
    ∙ lines_append (take i ps) (get_or ps i (interval 0 0) ∷ [])
    ∙ ap (λ (l : List ℕ). lines (take i ps) ++ l) (append-nil (line (get_or ps i (interval 0 0))))

-- The lines of the first intervals are no longer than all.
lines_shorter : (is : List Interval) (i : ℕ) → length (lines (take i is)) ≤ length (lines is)
lines_shorter is i =
    let e : length (lines is) ≡ length (lines (take i is)) + length (lines (drop i is)) =
    ap (λ (l : List Interval). length (lines l)) (sym (take-append-drop i is))
    ∙ ap (λ (l : List ℕ). length l) (lines_append (take i is) (drop i is))
    ∙ length-append (lines (take i is)) (lines (drop i is)) in
    omega arith

-- The text t has become t': the lines of the first i intervals were written.
pub record Listing (ps : List Interval) (t t' : Text) (i : ℕ) : Type 0 where
  pub inside : i ≤ length ps
  pub added : Adds (lines (take i ps)) t t'

pub list_none : (ps : List Interval) (t : Text) → Listing ps t t 0
unfolding lines
list_none ps t = record { inside = omega arith; added = none t }

module _ {ps : List Interval} {t t' : Text} {i : ℕ} (k : Listing ps t t' i) where
  next_fits : i < length ps → Fits (lines ps) t → Fits (lines (take i ps) ++ line (get_or ps i (interval 0 0))) t
  next_fits h f =
      let e = ap (λ (l : List ℕ). length l) (lines_next ps i h) in
      let s = lines_shorter ps (i + 1) in
      record { room = omega arith }

  pub list_fits : i < length ps → Fits (lines ps) t → Fits (line (get_or ps i (interval 0 0))) t'
  list_fits h f = fits_next (next_fits h f) k.added

  pub list_next : {t'' : Text} → i < length ps → Fits (lines ps) t → Adds (line (get_or ps i (interval 0 0))) t' t'' → Listing ps t t'' (i + 1)
  list_next h f a =
      record {
        inside = omega arith;
        added = adds_as (sym (lines_next ps i h)) (next (next_fits h f) k.added a);
      }

-- The length of a report of n letters, with fewer than 10,000 intervals and 100,000 letters.
length_lines : (n : ℕ) (is : List Interval) → n < 100000 → Inside n is → length (lines is) ≤ 12 * length is
unfolding lines
length_lines n [] h a = omega arith
length_lines n (i ∷ is) h a =
    simp length-append
    (omega (
      arith,
      length_decimal i.start 5 (omega arith) (omega arith),
      length_decimal i.end 5 (omega arith) (omega arith),
      length_lines n is h a.2,
    ))

pub length_report : (n : ℕ) (is : List Interval) → n < 100000 → Inside n is → length is < 10000 → length (report is) ≤ 12 * length is + 15
length_report n is h a c =
    simp length-append (omega (arith, length_lines n is h a, length_decimal (length is) 4 (omega arith) (omega arith)))

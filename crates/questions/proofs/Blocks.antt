-- Blocks of 1,024 letters: their sum, a range made up of them and its two ends, and the loop that writes them.
use Rattle.std.proofs.Common.{ℕ, zero, suc, ◌+◌, ◌-◌, ◌*◌, ◌/◌, ◌≤◌, ◌<◌, ◌≡◌, sym, ap, ap₂, ◌∙◌, List, ⊎_elim, arith, length, get_or, take, drop, set, drop-cons, min, ◌%◌}
use Rattle.std.specs.List.{sum}
use Rattle.std.proofs.lemmas.List.Sums.{sum_by-cons}
use Rattle.buffers.proofs.Tabulate.{Tabulates, tabulate_start, tabulate_turn}
use Rattle.intervals.specs.declared.Interval.{Interval}
use Rattle.intervals.specs.Interval.{covered_in}
use Rattle.intervals.proofs.Order.{lt_or_le}
use Rattle.intervals.proofs.Counted.{covered_empty, covered_split, covered_at_most}
use Rattle.questions.specs.Batch.{block}
use Rattle.questions.specs.Usual.{UsualKind}
use Rattle.intervals.specs.Terms.Leading.{ends_by}
use Rattle.questions.specs.Terms.Found.{first_past, IsFirstPast, Summed}
use Rattle.questions.specs.Terms.Walked.{Walks}
use Rattle.questions.specs.declared.Walked.{Walked}
use Rattle.questions.proofs.Ordered.{nonempty_at}
use Rattle.questions.proofs.Searching.{of_test, leading_le, past_yes}

pub total_blocks : (is : List Interval) (s : List ℕ) (f m : ℕ) → f + m ≤ length s → ((j : ℕ) → j < f + m → get_or s j 0 ≡ block is j)
    → sum (take m (drop f s)) ≡ covered_in is (1024 * f) (1024 * (f + m))
total_blocks is s f zero h e = sym (covered_empty is (1024 * f) (1024 * (f + 0)) (omega arith))
total_blocks is s f (suc m) h e =
    ap (λ (l : List ℕ). sum (take (suc m) l)) (drop-cons s f 0 (omega arith))
    ∙ sum_by-cons (λ (x : ℕ). x) (get_or s f 0) (take m (drop (suc f) s))
    ∙ ap₂ (λ (x y : ℕ). x + y) (e f (omega arith)) (total_blocks is s (suc f) m (omega arith) (λ j l. e j (omega arith)))
    ∙ ap₂ (λ (x y : ℕ). covered_in is (1024 * f) (1024 * (f + 1)) + covered_in is x y) (let q : 1024 * suc f ≡ 1024 * (f + 1) = omega arith in q)
    (let q : 1024 * (suc f + m) ≡ 1024 * (f + suc m) = omega arith in q)
    ∙ sym (covered_split is (1024 * f) (1024 * (f + 1)) (1024 * (f + suc m)) (omega arith) (omega arith))

-- A range in three parts: up to block f, the blocks f to l - 1 from the summary, and from block l on.
module _ (is : List Interval) (s : List ℕ) (a b : ℕ) (y : Summed is s b) where
  abbrev f : ℕ
  f = a / 1024 + min 1 (a % 1024)

  abbrev l : ℕ
  l = b / 1024

  abbrev whole : ℕ
  whole = sum (take (l - f) (drop f s))

  module _ (h : f ≤ l) where
    whole_is : whole ≡ covered_in is (f * 1024) (l * 1024)
    whole_is =
        let long = y.long in
        total_blocks is s f (l - f) (omega arith) (λ j k. y.entry j (omega arith))
        ∙ ap₂ (λ (x z : ℕ). covered_in is x z) (let q : 1024 * f ≡ f * 1024 = omega arith in q)
        (let q : 1024 * (f + (l - f)) ≡ l * 1024 = omega arith in q)

    pub whole_fits : whole ≤ b
    whole_fits = omega (arith, whole_is, covered_at_most is (f * 1024) (l * 1024))

    module _ {x w z : ℕ} (p : x ≡ covered_in is a (f * 1024)) (q : w ≡ whole) (r : z ≡ covered_in is (l * 1024) b) where
      pub three_parts : x + w + z ≡ covered_in is a b
      three_parts =
          omega (
            arith,
            whole_is,
            covered_split is a (f * 1024) b (omega arith) (omega arith),
            covered_split is (f * 1024) (l * 1024) b (omega arith) (omega arith),
          )

      pub parts_fit : x + w + z ≤ b
      parts_fit = omega (arith, three_parts, covered_at_most is a b)

-- The loop of `fill_summary`: j blocks of d are written, and the walk goes on at interval `next`.
pub record Summing (ps : List Interval) (d : List ℕ) (next j : ℕ) (l : List ℕ) : Type 0 where
  pub onward : IsFirstPast ps (1024 * j) next
  pub fills : Tabulates (block ps) d (length d) j l

module _ (ps : List Interval) (d : List ℕ) where
  pub summing_start : UsualKind ps → Summing ps d 0 0 d
  summing_start u =
      record {
        onward = record { index = sym none_yet; inside = omega arith; small = omega arith };
        fills = tabulate_start (block ps) (omega arith);
      }
    where
      is : List Interval
      is = ps

      none_yet : first_past is 0 ≡ 0
      none_yet =
          ⊎_elim
          (λ l. absurd
          (omega (arith, past_yes is 0 u 0 l, nonempty_at 2147483647 0 is 0 u (omega (arith, leading_le (ends_by 0) is)))))
          (λ l. omega arith)
          (lt_or_le 0 (first_past is 0))

  pub summing_turn : {next j : ℕ} {l : List ℕ} {w : Walked} → Summing ps d next j l → j < length d
      → Walks ps (1024 * j) (1024 * j + 1024) w → Summing ps d w.next (j + 1) (set l j w.letters)
  summing_turn {j = j} {w = w} s h k =
      let e : 1024 * (j + 1) ≡ 1024 * j + 1024 = omega arith in
      record { onward = rw e k.onward; fills = tabulate_turn (block ps) s.fills 0 w.letters h (rw e k.counted) }

pub ruleset of_parts = (of_test, whole_fits, three_parts, parts_fit)

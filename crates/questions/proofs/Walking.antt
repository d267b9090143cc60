-- The steps of `walk`.
use Rattle.std.proofs.Common.{ℕ, suc, ◌+◌, ◌≤◌, ◌<◌, ◌≡◌, sym, ap, ◌∙◌, List, ⊎_elim, arith, add-one, length, get_or, drop, drop_of_length-le}
use Rattle.intervals.specs.declared.Interval.{Interval}
use Rattle.intervals.specs.Interval.{interval, covered_in}
use Rattle.intervals.proofs.Order.{lt_or_le}
use Rattle.intervals.proofs.Counted.{covered_at_most}
use Rattle.questions.specs.Answers.{inside}
use Rattle.questions.specs.Usual.{UsualKind}
use Rattle.intervals.specs.Terms.Leading.{ends_by}
use Rattle.questions.specs.Terms.Found.{first_past, IsFirstPast}
use Rattle.questions.specs.Terms.Walked.{Walks}
use Rattle.questions.proofs.Ordered.{at}
use Rattle.questions.proofs.Searching.{leading_le, past_yes, past_no, usual_few}
use Rattle.questions.proofs.Ranges.{past_rises}
use Rattle.questions.proofs.Letters.{covered_next, covered_after, covered_skip, covered_nothing}

-- The letters of the intervals before k are counted.
pub record Walking (ps : List Interval) (a b k letters : ℕ) : Type 0 where
  pub within : k ≤ length ps
  pub passed : k ≤ first_past ps b
  pub rest : letters + covered_in (drop k ps) a b ≡ covered_in ps a b

module _ (ps : List Interval) (u : UsualKind ps) (a b : ℕ) where
  abbrev is : List Interval
  is = ps

  abbrev N : ℕ
  N = 2147483647

  pub walk_start : {j : ℕ} → IsFirstPast is a j → a ≤ b → Walking ps a b j 0
  walk_start {j} f h =
      let q = f.index in
      record {
        within = f.inside;
        passed = omega (arith, past_rises is u a b h);
        rest = (let e : 0 + covered_in (drop j is) a b ≡ covered_in (drop j is) a b = omega arith in e)
            ∙ ap (λ (k : ℕ). covered_in (drop k is) a b) q
            ∙ sym (covered_skip N a b 0 is u);
      }

  is_first_past : (k : ℕ) → k ≤ length ps → k ≡ first_past is b → IsFirstPast is b k
  is_first_past k l e = record { index = e; inside = l; small = omega (arith, usual_few ps u) }

  module _ {k letters : ℕ} (w : Walking ps a b k letters) where
    module _ (h : k < length ps) {g : ℕ} (q : g ≡ inside a b (get_or ps k (interval 0 0))) where
      more : letters + g + covered_in (drop (suc k) is) a b ≡ covered_in is a b
      more =
          let e = covered_next N a b 0 is k u (omega (arith)) in
          let r = w.rest in
          omega arith

      pub walk_fits : letters + g ≤ b
      walk_fits = omega (arith, more, covered_at_most is a b)

      pub walk_turn : (get_or ps k (interval 0 0)).end ≤ b → Walking ps a b (k + 1) (letters + g)
      walk_turn l =
          let e : (at is k).end ≤ b = l in
          record {
            within = omega arith;
            passed =
                ⊎_elim (λ p. omega arith)
                (λ p. absurd (omega (arith, past_no is b u k p (omega (arith)))))
                (lt_or_le k (first_past is b));
            rest = rw add-one more;
          }

      pub walk_stop : b < (get_or ps k (interval 0 0)).end → Walks is a b (record { letters = letters + g; next = k })
      walk_stop l =
          let e : b < (at is k).end = l in
          let p = w.passed in
          record {
            counted = omega (arith, more, covered_after N a b 0 is k u (omega (arith)) (omega arith));
            onward =
                is_first_past k (omega arith)
                (⊎_elim (λ l. absurd (omega (arith, past_yes is b u k l))) (λ l. omega arith) (lt_or_le k (first_past is b)));
          }

    pub walk_end : length ps ≤ k → Walks is a b (record { letters = letters; next = length ps })
    walk_end h =
        let r = w.rest in
        let p = w.passed in
        let i = w.within in
        let n : covered_in (drop k is) a b ≡ 0 =
        ap (λ (js : List Interval). covered_in js a b) (drop_of_length-le is (let l : length is ≤ k = omega (arith) in l)) ∙ covered_nothing a b in
        record {
          counted = omega arith;
          onward = is_first_past (length ps) (omega arith) (omega (arith, leading_le (ends_by b) is));
        }

-- The call: what an accepted request gives the parts that answer it.
use Rattle.std.proofs.Common.{ℕ, ◌≤◌, ◌<◌, ◌≡◌, sym, ap, ap₂, subst, ◌∙◌, true, false, List, ◌++◌, arith, length, get_or, take, drop, length-take-le}
use lib.ListN.{get_or-append}
use borrow.Author.Tests.{ltb-false}
use Rattle.buffers.specs.Fill.{put, tabulate}
use Rattle.buffers.proofs.Put.{put_length}
use Rattle.buffers.proofs.Tabulate.{tabulate_length, tabulate_at}
use Rattle.checks.specs.Tests.{too_many_letters}
use Rattle.intervals.specs.declared.Interval.{Interval}
use Rattle.intervals.specs.Interval.{usual}
use Rattle.intervals.proofs.Shape.{ascending_more}
use Rattle.intervals.proofs.Usual.{usual_agrees}
use Rattle.questions.specs.declared.Question.{Question}
use Rattle.questions.specs.Batch.{blocks, block, no_question, summary_of, any_bad}
use Rattle.questions.specs.Terms.Found.{Summed, AllAskable}
use Rattle.questions.proofs.Answering.{good_at}

-- A list that passed both tests.
pub list_usual : (n : ℕ) (is : List Interval) → too_many_letters n ≡ false → usual n is ≡ true → usual 2147483647 is ≡ true
list_usual n is h u = (usual_agrees 2147483647 is).1 (ascending_more n 2147483647 1 0 is (ltb-false 2147483647 n h) ((usual_agrees n is).0 u))

module _ (n : ℕ) (is : List Interval) (s : List ℕ) (room : blocks n ≤ length s) where
  summed : (b : ℕ) → b ≤ n → Summed is (put (summary_of n is) s) b
  summed b h =
      let l = tabulate_length (block is) (blocks n) in
      record {
        long = omega (arith, put_length (summary_of n is) s (omega arith));
        entry = λ j k.
            let q : j < blocks n = omega arith in
            get_or-append (summary_of n is) (drop (length (summary_of n is)) s) 0 j (omega arith)
            ∙ tabulate_at (block is) (blocks n) j 0 q;
      }

  -- After the summary is written to the part of the buffer that is lent.
  module _ {k : ℕ} {part : List ℕ} (e : k ≡ blocks n) (p : part ≡ tabulate (block is) (length (take k s))) where
    written : part ++ drop k s ≡ put (summary_of n is) s
    written =
        ap₂ (λ (xs : List ℕ) (j : ℕ). xs ++ drop j s)
        (p ∙ ap (λ (j : ℕ). tabulate (block is) j) (length-take-le k s (omega arith) ∙ e))
        (e ∙ sym (tabulate_length (block is) (blocks n)))

    pub all_askable : (qs : List Question) → n ≤ 2147483647 → any_bad n qs ≡ false → AllAskable is (part ++ drop k s) qs
    all_askable qs few good i h g =
        let q = good_at n qs i good h g in
        record {
          nonempty = q.0;
          small = omega arith;
          summed = subst (λ (t : List ℕ). Summed is t (get_or qs i no_question).to) (sym written) (summed (get_or qs i no_question).to q.1);
        }

-- The steps of `answer_one`, `answer_all` and `any_bad`: one kind after another, one question after another.
use Rattle.std.proofs.Common.{ℕ, zero, suc, ◌+◌, ◌≤◌, ◌<◌, ◌≡◌, sym, ap, ap₂, ◌∙◌, false, ◌||◌, List, [], ◌∷◌, ◌++◌, arith, add-one, leb, ltb, length, take, get_or, set, take-suc, take_all, length-take-le}
use mathlib.Core.List.{map-append}
use mathlib.Mathlib.Data.Bool.Basic.{or-eq-false-eq-eq-false-and-eq-false}
use lib.ListN.{length-map}
use borrow.Author.Tests.{ne_eqb, leb-false, ltb-false}
use Rattle.buffers.specs.Fill.{put}
use Rattle.buffers.proofs.Put.{put_more}
use Rattle.intervals.specs.declared.Interval.{Interval}
use Rattle.questions.specs.declared.Question.{Question}
use Rattle.questions.specs.declared.Answer.{Answer}
use Rattle.questions.specs.Batch.{no_question, result_of, results_of, bad_question, any_bad}

-- Results of the first i questions stand over the front of d: one more.
pub answers_turn : (is : List Interval) (qs : List Question) (d l : List Answer) (i : ℕ) (v : Answer) → i < length qs → length qs ≤ length d
    → l ≡ put (results_of is (take i qs)) d → v ≡ result_of is (get_or qs i no_question)
    → set l i v ≡ put (results_of is (take (i + 1) qs)) d
answers_turn is qs d l i v h r e q =
    let xs : List Answer = results_of is (take i qs) in
    let n : length xs ≡ i = length-map (take i qs) (result_of is) ∙ length-take-le i qs (omega arith) in
    let m : results_of is (take (i + 1) qs) ≡ xs ++ (v ∷ []) =
    ap (λ (ps : List Question). results_of is ps) (rw add-one (take-suc qs i no_question h))
    ∙ map-append (result_of is) (take i qs) (get_or qs i no_question ∷ [])
    ∙ ap (λ (x : Answer). xs ++ (x ∷ [])) (sym q) in
    ap₂ (λ (ys : List Answer) (k : ℕ). set ys k v) e (sym n) ∙ put_more xs v d (omega arith) ∙ ap (λ (ys : List Answer). put ys d) (sym m)

pub answers_all : (is : List Interval) (qs : List Question) (d l : List Answer) (i : ℕ) → length qs ≤ i
    → l ≡ put (results_of is (take i qs)) d → l ≡ put (results_of is qs) d
answers_all is qs d l i h e = e ∙ ap (λ (ps : List Question). put (results_of is ps) d) (take_all i qs h)

-- Where none is bad, a question that does not ask for the nearest asks about a range.
pub good_at : (n : ℕ) (qs : List Question) (i : ℕ) → any_bad n qs ≡ false → i < length qs → ((get_or qs i no_question).kind ≡ 0 → ⊥)
    → ((get_or qs i no_question).from < (get_or qs i no_question).to) × ((get_or qs i no_question).to ≤ n)
good_at n [] i h l g = absurd (let b : ⊥ = omega arith in b)
good_at n (q ∷ qs) zero h l g =
    let e = ((or-eq-false-eq-eq-false-and-eq-false (bad_question n q.kind q.from q.to) (any_bad n qs)).0 h).0 in
    let r : (ltb 3 q.kind || (leb q.to q.from || ltb n q.to)) ≡ false = rw (ne_eqb q.kind 0 g) at e in
    let t = ((or-eq-false-eq-eq-false-and-eq-false (ltb 3 q.kind) (leb q.to q.from || ltb n q.to)).0 r).1 in
    let s = (or-eq-false-eq-eq-false-and-eq-false (leb q.to q.from) (ltb n q.to)).0 t in
    (leb-false q.to q.from s.0, ltb-false n q.to s.1)
good_at n (q ∷ qs) (suc i) h l g =
    good_at n qs i ((or-eq-false-eq-eq-false-and-eq-false (bad_question n q.kind q.from q.to) (any_bad n qs)).0 h).1 (omega arith) g

pub ruleset of_answers = (answers_turn, answers_all)

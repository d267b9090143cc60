-- L8's promises of the answers, in its words; that the code gives these answers is the contract of `answer_questions`.
use Rattle.std.proofs.Common.{ℕ, ◌+◌, ◌-◌, ◌*◌, ◌≤◌, ◌<◌, max, ◌≡◌, refl, sym, ap, ◌∙◌, true, List, [], ◌∷◌, ◌⊎◌, inl, inr, ⊎_elim, ◌↔◌, arith, ltb, length, take_all}
use Rattle.intervals.specs.declared.Interval.{Interval}
use Rattle.intervals.specs.Interval.{Holds, Canonical, covered_in}
use Rattle.intervals.proofs.Order.{lt_or_le}
use Rattle.buffers.proofs.Tabulate.{tabulate_length, tabulate_at}
use Rattle.intervals.proofs.Shape.{covers_below}
use Rattle.intervals.proofs.Counted.{and_agrees, ltb_agrees, covered_none, covered_split}
use Rattle.questions.specs.Answers.{letters_between, nearest, indices, first_and_count, all_that, within, inside, partly, share}
use Rattle.questions.specs.Batch.{blocks, block, summary_of}
use Rattle.std.specs.List.{sum}
use Rattle.questions.specs.Usual.{UsualKind}
use Rattle.questions.specs.Promised.{Some, consecutive, distance, Nearest, over_ends}
use Rattle.questions.specs.Terms.Found.{first_past, first_from}
use Rattle.questions.proofs.Nearest.{index_nearest}
use Rattle.questions.proofs.Ranges.{within_run, run_named, partly_ends}
use Rattle.questions.proofs.Blocks.{total_blocks}
use Rattle.questions.proofs.Share.{share_whole, share_remainder}

-- The letters between are 0 when the interval covers x or is adjacent, and only then.
pub between_none : (x : ℕ) (i : Interval) → i.start < i.end → (letters_between x i ≡ 0) ↔ (Holds i x ⊎ ((x + 1 ≡ i.start) ⊎ (x ≡ i.end)))
between_none x i h = (
  (λ e.
      ⊎_elim (λ l. inr (inl (omega arith)))
      (λ l. ⊎_elim (λ m. inl (l, m)) (λ m. inr (inr (omega arith))) (lt_or_le x i.end))
      (lt_or_le x i.start)),
  (λ e. ⊎_elim (λ o. omega arith) (λ o. ⊎_elim (λ p. omega arith) (λ p. omega arith) o) e),
)

-- No interval of the list is nearer than the nearest, and none as near stands left of it.
pub nearest_law : (x : ℕ) (is : List Interval) → 0 < length is
    → Nearest x is ((nearest x is).first) × ((nearest x is).second ≡ distance x is ((nearest x is).first))
unfolding nearest
nearest_law x [] h = absurd (let b : ⊥ = omega arith in b)
nearest_law x (i ∷ is) h = (index_nearest x i is, refl)

-- Letters both inside and outside: some letter of the interval lies in [a, b), and some letter does not.
pub partly_law : (a b : ℕ) (i : Interval) → (partly a b i ≡ true)
    ↔ (Some (λ x. Holds i x × ((a ≤ x) × (x < b))) × Some (λ x. Holds i x × ((x < a) ⊎ (b ≤ x))))
partly_law a b i =
    let t =
    and_agrees (ltb 0 (inside a b i)) (ltb (inside a b i) (i.end - i.start)) (ltb_agrees 0 (inside a b i))
    (ltb_agrees (inside a b i) (i.end - i.start)) in (
      (λ e.
          let g = t.0 e in (
            record { letter = max i.start a; fact = ((omega arith, omega arith), (omega arith, omega arith)) },
            ⊎_elim (λ l. record { letter = i.start; fact = ((omega arith, omega arith), inl l) })
                (λ l. record { letter = max i.start b; fact = ((omega arith, omega arith), inr (omega arith)) })
                (lt_or_le i.start a),
          )),
      (λ e.
          let x = e.0.letter in
          let y = e.1.letter in
          let f = e.0.fact in
          let g = e.1.fact.0 in
          t.1 (⊎_elim (λ l. (omega arith, omega arith)) (λ l. (omega arith, omega arith)) e.1.fact.1)),
    )

-- Consecutive: first index and how many name all intervals within.
pub within_law : (a b : ℕ) (is : List Interval) → UsualKind is
    → indices (within a b) 0 is ≡ consecutive ((all_that (within a b) is).first) ((all_that (within a b) is).second)
within_law a b is u =
    let e = within_run is u a b in
    e
    ∙ run_named (first_from is a) (first_past is b - first_from is a)
    ∙ ap (λ (l : List ℕ). consecutive (first_and_count l).first (first_and_count l).second) (sym e)

-- At most two have letters both inside and outside: first index and how many name them all, the second of two being the next after the first and all those wholly within.
pub partly_ends_law : (a b : ℕ) (is : List Interval) → UsualKind is → a < b
    → ((all_that (partly a b) is).second ≤ 2)
    × (indices (partly a b) 0 is ≡ over_ends ((all_that (partly a b) is).second) ((all_that (partly a b) is).first) ((all_that (within a b) is).second))
partly_ends_law a b is u h = partly_ends is u a b h

-- Share times length + remainder = 10,000 times masked letters, remainder below the length.
pub share_law : (a b : ℕ) (is : List Interval) → a < b
    → ((share a b is).first * (b - a) + (share a b is).second ≡ 10000 * covered_in is a b) × ((share a b is).second < b - a)
share_law a b is h = (share_whole is a b h, share_remainder is a b h)

-- The sum of the summary is the number of masked letters.
pub summary_law : (n : ℕ) (is : List Interval) → Canonical n 1 is → sum (summary_of n is) ≡ covered_in is 0 n
summary_law n is c =
    let long = tabulate_length (block is) (blocks n) in
    ap sum (sym (take_all (blocks n) (summary_of n is) (omega arith)))
    ∙ total_blocks is (summary_of n is) 0 (blocks n) (omega arith) (λ j l. tabulate_at (block is) (blocks n) j 0 (omega arith))
    ∙ ap (λ (x : ℕ). covered_in is (1024 * 0) x) (let q : 1024 * (0 + blocks n) ≡ 1024 * blocks n = omega arith in q)
    ∙ covered_split is 0 n (1024 * blocks n) (omega arith) (omega arith)
    ∙ (let z : covered_in is n (1024 * blocks n) ≡ 0 =
    covered_none is n (1024 * blocks n) (λ x l m o. let b = covers_below n 1 x 0 is c o in omega arith) in
    omega arith)

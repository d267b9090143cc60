-- Where the window of a run stands in the strand, for any float bits: it is the last of the places read, at most w of them.
use Rattle.std.proofs.Common.{◌≡◌, refl, sym, ap, ◌∙◌, subst, ℕ, zero, suc, ◌+◌, ◌-◌, ◌≤◌, ◌<◌, arith, List, [], ◌∷◌, ◌++◌, length, get_or, take, drop, length-append, length-drop, length-take-le, take-suc, drop-drop, take_at, leb, leb→le}
use lib.Seq.{append_snoc, drop-append-add, drop-append-le, drop-nil}
use lib.Dec.{nleb→lt}
use Rattle.letters.specs.Place.{Place, ambiguous, plain, Below}
use Rattle.scans.specs.Setup.{Setup}
use Rattle.scans.specs.Counts.{count}
use Rattle.scans.specs.Score.{stretch}
use Rattle.scans.specs.Scans.{Find, none, at, Outcome}
use Rattle.scans.proofs.Test.{by_test}
use Rattle.scans.proofs.Counting.{below_left, below_right}
use Rattle.step.specs.Step.{Run, begin, without_oldest, leave, join, search, found_by, found, look, step, run_from, run}
use Rattle.step.specs.ScanFind.{looked_from}

-- After i places: what left the window q, the window, of fewer than m places, and what is to come are the strand ps.
pub record Placed (ps : List Place) (m i : ℕ) (q rest : List Place) : Type 0 where
  pub past : List Place
  pub parts : past ++ (q ++ rest) ≡ ps
  pub placed : length past + length q ≡ i
  pub short : length q < m

module _ {ps : List Place} {m i : ℕ} where
  pub placed_room : {q rest : List Place} → Placed ps (suc m) i q rest → length q < m → Placed ps m i q rest
  placed_room p h = record { past = p.past; parts = p.parts; placed = p.placed; short = h }

  pub placed_leave : {x : Place} {q rest : List Place} → Placed ps (suc m) i (x ∷ q) rest → Placed ps m i q rest
  placed_leave {x} {q} {rest} w =
      record { past = w.past ++ x ∷ []; parts = append_snoc w.past x (q ++ rest) ∙ w.parts; placed = omega (arith, length-append w.past (x ∷ []), w.placed); short = omega (arith, w.short) }

  pub placed_join : (q : List Place) (e : Place) {rest : List Place} → Placed ps m i q (e ∷ rest) → Placed ps (suc m) (i + 1) (q ++ e ∷ []) rest
  placed_join q e {rest} w =
      let l = length-append q (e ∷ []) in
      record { past = w.past; parts = ap (λ (z : List Place). w.past ++ z) (append_snoc q e rest) ∙ w.parts; placed = omega (arith, w.placed); short = omega (arith, w.short) }

  module _ (q rest : List Place) (w : Placed ps m i q rest) where
    pub placed_below : (n : ℕ) → Below n ps → Below n q × Below n rest
    placed_below n B =
        let b = below_right n w.past (q ++ rest) (subst (λ (l : List Place). Below n l) (sym w.parts) B) in
        (below_left n q rest b, below_right n q rest b)

    pub placed_lengths : length w.past + length q + length rest ≡ length ps
    placed_lengths = omega (arith, ap length w.parts, length-append w.past (q ++ rest), length-append q rest)

    -- The window from index j on, as a stretch of the strand.
    pub placed_stretch : (j : ℕ) → j ≤ length q → stretch ps (length w.past + j) (length (drop j q)) ≡ drop j q
    placed_stretch j h =
        let d : List Place = drop j q in
        ap (λ (l : List Place). stretch l (length w.past + j) (length d)) (sym w.parts)
        ∙ ap (λ (l : List Place). take (length d) l) (drop-append-add w.past (q ++ rest) j ∙ drop-append-le j q rest h)
        ∙ take_at d rest (length d) refl

-- ---- The run.
module _ (S : Setup) (some : 0 < S.window_size) (ps : List Place) where
  abbrev w : ℕ
  w = S.window_size

  without_placed : (i : ℕ) (a : Run) (q rest : List Place) → w ≤ length q → Placed ps (suc w) i q rest → Placed ps w i (without_oldest S a q).window rest
  without_placed i a [] rest f p = absurd (omega arith)
  without_placed i a (x ∷ q) rest f p = placed_leave p

  pub leave_placed : (i : ℕ) (a : Run) (rest : List Place) → Placed ps (suc w) i a.window rest → Placed ps w i (leave S a).window rest
  unfolding leave
  leave_placed i a rest p =
      by_test (λ (b : Run). Placed ps w i b.window rest) (leb w (length a.window)) (without_oldest S a a.window) a
      (λ t. without_placed i a a.window rest (leb→le w (length a.window) t) p)
      (λ t. placed_room p (nleb→lt w (length a.window) t))

  pub joined_placed : (i : ℕ) (a : Run) (e : Place) (rest : List Place) → Placed ps (suc w) i a.window (e ∷ rest) → Placed ps (suc w) (i + 1) (join S (leave S a) e).window rest
  unfolding join
  joined_placed i a e rest p = placed_join (leave S a).window e (leave_placed i a (e ∷ rest) p)

  -- A look leaves the window as it is.
  found_window : (i : ℕ) (a : Run) (counts : List ℕ) (f : Find) → (found_by S i a counts f).window ≡ a.window
  unfolding found_by
  found_window i a counts none = refl
  found_window i a counts (at j) = refl

  look_window : (i : ℕ) (a : Run) (e : Place) → (look S i a e).window ≡ a.window
  unfolding look found
  look_window i a ambiguous = refl
  look_window i a (plain x) =
      let r : Outcome = search S i a x in
      by_test (λ (b : Run). b.window ≡ a.window) (leb S.min_start_cnt (count x a.window)) (found_by S i a r.counts r.find) a (λ _. found_window i a r.counts r.find) (λ _. refl)

  from_placed : (i : ℕ) (a : Run) (es rest : List Place) → Placed ps (suc w) i a.window (es ++ rest) → Placed ps (suc w) (i + length es) (run_from S i a es).window rest
  unfolding run_from step
  from_placed i a [] rest p = subst (λ (n : ℕ). Placed ps (suc w) n a.window rest) (omega arith) p
  from_placed i a (e ∷ es) rest p =
      let b : Run = join S (leave S a) e in
      subst (λ (n : ℕ). Placed ps (suc w) n (run_from S (i + 1) (look S i b e) es).window rest) (omega arith)
      (from_placed (i + 1) (look S i b e) es rest (subst (λ (q : List Place). Placed ps (suc w) (i + 1) q (es ++ rest)) (sym (look_window i b e)) (joined_placed i a e (es ++ rest) p)))

  pub run_placed : (es rest : List Place) → es ++ rest ≡ ps → Placed ps (suc w) (length es) (run S es).window rest
  unfolding run begin
  run_placed es rest q = subst (λ (n : ℕ). Placed ps (suc w) n (run S es).window rest) (omega arith) (from_placed 0 (begin S) es rest (record { past = []; parts = q; placed = refl; short = omega arith }))

-- ---- The window by indices.
-- The newest of the first i places, at most w of them.
abbrev pub newest : ℕ → ℕ → List Place → List Place
newest w i ps = drop (i - w) (take i ps)

pub newest_length : (w i : ℕ) (ps : List Place) → i ≤ length ps → length (newest w i ps) ≡ i - (i - w)
newest_length w i ps h = length-drop (i - w) (take i ps) ∙ ap (λ (n : ℕ). n - (i - w)) (length-take-le i ps h)

module _ (S : Setup) (some : 0 < S.window_size) (ps : List Place) where
  without_newest : (a : Run) (q : List Place) → 0 < length q → (without_oldest S a q).window ≡ drop 1 q
  without_newest a [] h = absurd (let b : ⊥ = omega arith in b)
  without_newest a (x ∷ q) h = refl

  leave_newest : (i : ℕ) (a : Run) → i ≤ length ps → a.window ≡ newest S.window_size i ps → (leave S a).window ≡ drop (i + 1 - S.window_size) (take i ps)
  unfolding leave
  leave_newest i a h e =
      let w = S.window_size in
      let n : length a.window ≡ i - (i - w) = ap length e ∙ newest_length w i ps h in
      by_test (λ (b : Run). b.window ≡ drop (i + 1 - w) (take i ps)) (leb w (length a.window)) (without_oldest S a a.window) a
      (λ t.
      let full = leb→le w (length a.window) t in
      without_newest a a.window (omega arith)
      ∙ ap (λ (q : List Place). drop 1 q) e
      ∙ drop-drop 1 (i - w) (take i ps)
      ∙ ap (λ (m : ℕ). drop m (take i ps)) (let m : i - w + 1 ≡ i + 1 - w = omega arith in m))
      (λ t.
      let room = nleb→lt w (length a.window) t in
      e ∙ ap (λ (m : ℕ). drop m (take i ps)) (let m : i - w ≡ i + 1 - w = omega arith in m))

  pub enters_newest : (i : ℕ) (a : Run) (e : Place) → take (i + 1) ps ≡ take i ps ++ e ∷ [] → i ≤ length ps → a.window ≡ newest S.window_size i ps
      → (join S (leave S a) e).window ≡ newest S.window_size (i + 1) ps
  unfolding join
  enters_newest i a e more h q =
      let m = i + 1 - S.window_size in
      ap (λ (z : List Place). z ++ e ∷ []) (leave_newest i a h q)
      ∙ sym (drop-append-le m (take i ps) (e ∷ []) (omega (arith, length-take-le i ps h, some)))
      ∙ ap (λ (z : List Place). drop m z) (sym more)

-- ---- What a run looks from at a letter is `looked_from` of the places before.
from_cut : (S : Setup) (i : ℕ) (a : Run) (es rest : List Place) → run_from S i a (es ++ rest) ≡ run_from S (i + length es) (run_from S i a es) rest
unfolding run_from
from_cut S i a [] rest = ap (λ (n : ℕ). run_from S n a rest) (omega arith)
from_cut S i a (e ∷ es) rest = from_cut S (i + 1) (step S i a e) es rest ∙ ap (λ (n : ℕ). run_from S n (run_from S (i + 1) (step S i a e) es) rest) (omega arith)

pub run_looks : (S : Setup) (before : List Place) (e : Place) (after : List Place)
    → run S (before ++ e ∷ after) ≡ run_from S (length before + 1) (look S (length before) (looked_from S before e) e) after
unfolding run run_from step looked_from
run_looks S before e after = from_cut S 0 (begin S) before (e ∷ after) ∙ ap (λ (n : ℕ). run_from S n (run_from S 0 (begin S) before) (e ∷ after)) (let z : 0 + length before ≡ length before = omega arith in z)

-- The next letter is a step.
pub run_next : (S : Setup) (before : List Place) (e : Place) {i : ℕ} → length before ≡ i → run S (before ++ e ∷ []) ≡ step S i (run S before) e
unfolding run_from step looked_from
run_next S before e n = run_looks S before e [] ∙ ap (λ (i : ℕ). step S i (run S before) e) n

-- The window after i places is the newest of them.
module _ (S : Setup) (some : 0 < S.window_size) (ps : List Place) where
  pub window_newest : (i : ℕ) → i ≤ length ps → (run S (take i ps)).window ≡ newest S.window_size i ps
  unfolding run run_from begin step
  window_newest zero h = sym (drop-nil (0 - S.window_size))
  window_newest (suc i) h =
      let e = get_or ps i ambiguous in
      let more = take-suc ps i ambiguous (omega arith) in
      let a = run S (take i ps) in
      ap (λ (z : List Place). (run S z).window) more
      ∙ ap (λ (z : Run). z.window) (run_next S (take i ps) e (length-take-le i ps (omega arith)))
      ∙ look_window S some ps i (join S (leave S a) e) e
      ∙ subst (λ (n : ℕ). take n ps ≡ take i ps ++ e ∷ [] → (join S (leave S a) e).window ≡ newest S.window_size n ps) (let n : i + 1 ≡ suc i = omega arith in n)
      (λ more. enters_newest S some ps i a e more (omega arith) (window_newest i (omega arith))) more

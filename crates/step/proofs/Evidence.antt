-- With tables in range, every letter that a strand's list covers lies in a stretch with an exact score of at least -(n + w + 4) / 2^32.
use Rattle.std.proofs.Common.{◌≡◌, refl, sym, subst, ℕ, suc, ◌+◌, ◌*◌, ◌≤◌, ◌<◌, mul-le-mul_right, arith, ⊎_elim, cond, List, [], ◌∷◌, length, drop, length-drop, T, leb, leb→le, ltb→lt, ℤ, pos, negsuc}
use lib.Dec.{nleb→lt}
use lib.Signed.{lt_z}
use lib.Ieee.{binary64}
use Rattle.floats.proofs.Binary64.{near_as}
use Rattle.floats.proofs.Sums.{err_small, zero_near}
use Rattle.floats.specs.Terms.Rounded.{Near, eps, err, half}
use Rattle.letters.specs.Place.{Place, ambiguous, plain, Below, ReadAt, ReadFrom}
use Rattle.intervals.specs.declared.Interval.{Interval}
use Rattle.intervals.specs.Interval.{Covers}
use Rattle.intervals.proofs.Order.{lt_or_le}
use Rattle.intervals.proofs.Saving.{save_covers}
use Rattle.scans.specs.Setup.{Setup, kmers}
use Rattle.scans.specs.Counts.{count}
use Rattle.scans.specs.Score.{Evidence}
use Rattle.scans.specs.Scans.{Find, none, at, Outcome}
use Rattle.scans.proofs.Test.{by_test}
use Rattle.scans.proofs.Gain.{InRange, gain, loss, gain_none}
use Rattle.scans.proofs.Evidence.{evidence}
use Rattle.scans.proofs.ForwardScore.{forward_inside, forward_find}
use Rattle.step.specs.Step.{Run, begin, sum_without, without_oldest, leave, join, search, first_letter, start_after, whole, save_from, saved_after, found_by, found, look, step, run_from, run, intervals_of_places}
use Rattle.step.proofs.Finds.{search_facts}
use Rattle.step.specs.Terms.Finding.{ShapedList}
use Rattle.step.proofs.Shape.{ShapedAt, first_is, begin_shaped, leave_shaped, join_shaped, join_some, step_shaped}
use Rattle.step.proofs.WindowSum.{leave_near, join_near, window_above_lem}
use Rattle.step.proofs.Placing.{Placed, placed_room, placed_leave, placed_join, placed_below, placed_lengths, placed_stretch}

-- ---- A find is backed when its place is in the window and the score from there to the newest place is at least -err c.
abbrev Backed : Setup → ℕ → List Place → Find → Type 0
Backed S c q none = Unit {0}
Backed S c q (at j) = (j < length q) × (loss S (length (drop j q)) ≤ gain S (drop j q) + err c)

-- How far the float scores can be off, in 2^-33.
abbrev off : Setup → List Place → ℕ
off S ps = length ps + S.window_size + 4

wider : (L G c d : ℕ) → L ≤ G + err c → c ≤ d → L ≤ G + err d
wider L G c d a b = let e : c * eps ≤ d * eps = mul-le-mul_right eps b in omega arith

module _ (S : Setup) (R : InRange S) (ps : List Place) (B : Below (kmers S) ps) (N : length ps < 2147483648) where
  abbrev w : ℕ
  w = S.window_size

  -- The letters from its first to the newest lie in the stretch of a backed find.
  stretch_evidence : (i j : ℕ) (q rest : List Place) → Placed ps (suc w) i q rest → j < length q → loss S (length (drop j q)) ≤ gain S (drop j q) + err (off S ps)
      → (x : ℕ) → i + j + 1 ≤ length q + x + S.kmer → x < i → Evidence S ps x
  stretch_evidence i j q rest p h l x from to =
      let d : List Place = drop j q in
      let first : ℕ = length p.past + j in
      let ld = length-drop j q in
      let lp = placed_lengths q rest p in
      let b = p.placed in
      let c = p.short in
      evidence S R ps first (length d) x (omega arith) (omega arith) (omega arith) (omega arith) (omega arith)
      (subst (λ (z : List Place). loss S (length d) ≤ gain S z + err (off S ps)) (sym (placed_stretch q rest p j (omega arith))) l)

  -- ---- The window and its sum.
  -- After i letters: where the window stands, and the sum is within E of the window's gain.
  record Tracked (m i E : ℕ) (a : Run) (rest : List Place) : Type 0 where
    stands : Placed ps m i a.window rest
    near : Near binary64 a.sum (gain S a.window) 0 E

  without_tracked : (i : ℕ) (a : Run) (q rest : List Place) → a.window ≡ q → w ≤ length q → Tracked (suc w) i (err i) a rest → Tracked w i (err i + half) (without_oldest S a q) rest
  without_tracked i a [] rest e f h = absurd (omega (arith, R.window_some))
  without_tracked i a (x ∷ q) rest e f h =
      let p : Placed ps (suc w) i (x ∷ q) rest = subst (λ (l : List Place). Placed ps (suc w) i l rest) e h.stands in
      let p' : Placed ps w i q rest = placed_leave p in
      let lp = placed_lengths (x ∷ q) rest p in
      let near : Near binary64 a.sum (gain S (x ∷ q)) 0 (err i) = subst (λ (l : List Place). Near binary64 a.sum (gain S l) 0 (err i)) e h.near in
      record {
        stands = p';
        near = subst (λ (l : List Place). Near binary64 (sum_without S l a.sum x) (gain S q) 0 (err i + half)) (sym e)
            (leave_near S R a.sum x q (err i) (placed_below (x ∷ q) rest p (kmers S) B).0 p'.short (omega (arith, err_small i (omega (arith, p.placed)))) near);
      }

  leave_tracked : (i : ℕ) (a : Run) (rest : List Place) → Tracked (suc w) i (err i) a rest → Tracked w i (err i + half) (leave S a) rest
  unfolding leave
  leave_tracked i a rest h =
      by_test (λ (b : Run). Tracked w i (err i + half) b rest) (leb w (length a.window)) (without_oldest S a a.window) a
      (λ t. without_tracked i a a.window rest refl (leb→le w (length a.window) t) h)
      (λ t. record { stands = placed_room h.stands (nleb→lt w (length a.window) t); near = near_as h.near refl (omega arith) })

  join_tracked : (i : ℕ) (a : Run) (e : Place) (rest : List Place) → Tracked w i (err i + half) a (e ∷ rest) → Tracked (suc w) (i + 1) (err (i + 1)) (join S a e) rest
  unfolding join
  join_tracked i a e rest h =
      let q : List Place = a.window in
      let p = h.stands in
      let b = placed_below q (e ∷ rest) p (kmers S) B in
      let lp = placed_lengths q (e ∷ rest) p in
      record {
        stands = placed_join q e p;
        near = near_as (join_near S R a.sum e q (err i + half) b.0 b.1.0 p.short (err_small i (omega (arith, p.placed))) h.near) refl (omega arith);
      }

  -- A look changes neither the window nor its sum.
  found_tracked : (i c E : ℕ) (a : Run) (rest : List Place) (counts : List ℕ) (f : Find) → Tracked (suc w) c E a rest → Tracked (suc w) c E (found_by S i a counts f) rest
  unfolding found_by
  found_tracked i c E a rest counts none h = record { stands = h.stands; near = h.near }
  found_tracked i c E a rest counts (at j) h = record { stands = h.stands; near = h.near }

  look_tracked : (i c E : ℕ) (a : Run) (e : Place) (rest : List Place) → Tracked (suc w) c E a rest → Tracked (suc w) c E (look S i a e) rest
  unfolding look found
  look_tracked i c E a ambiguous rest h = h
  look_tracked i c E a (plain x) rest h =
      let r : Outcome = search S i a x in
      by_test (λ (b : Run). Tracked (suc w) c E b rest) (leb S.min_start_cnt (count x a.window)) (found_by S i a r.counts r.find) a
      (λ _. found_tracked i c E a rest r.counts r.find h) (λ _. h)

  -- ---- Every find is backed.
  search_backed : (i : ℕ) (a : Run) (rest : List Place) (x : ℕ) → 0 < length a.window → Tracked (suc w) (i + 1) (err (i + 1)) a rest → Backed S (off S ps) a.window (search S i a x).find
  search_backed i a rest x some h =
      let q : List Place = a.window in
      let p = h.stands in
      let b = (placed_below q rest p (kmers S) B).0 in
      let lp = placed_lengths q rest p in
      let short : length q ≤ w = omega (arith, p.short) in
      search_facts S i a x (Backed S (off S ps) q) tt
      (λ j m e.
      let d : List Place = drop j q in
      let ld = length-drop j q in
      (forward_inside S q j m some e, wider (loss S (length d)) (gain S d) (length d + 1) (off S ps) (forward_find S R q j m b short some e) (omega arith)))
      (λ t.
      (some, wider (loss S (length q)) (gain S q) (i + 1 + 3) (off S ps) (window_above_lem S R a (i + 1) b short some (omega (arith, p.placed)) h.near t) (omega (arith, p.placed))))

  -- ---- The letters covered: those of what is saved, and those from start to end.
  abbrev Open : ℤ → ℤ → ℕ → Type 0
  Open (pos s) end x = (s ≤ x) × (x < whole end)
  Open (negsuc s) end x = ⊥

  record Evidenced (start end : ℤ) (saved : List Interval) : Type 0 where
    in_saved : (x : ℕ) → Covers saved x → Evidence S ps x
    in_open : (x : ℕ) → Open start end x → Evidence S ps x

  -- s <= x
  abbrev From : ℤ → ℕ → Type 0
  From (pos s) x = s ≤ x
  From (negsuc s) x = Unit {0}

  saved_evidence : (k i : ℕ) (start end : ℤ) (saved : List Interval) → ShapedList k i start end saved → Evidenced start end saved → (x : ℕ) → Covers (save_from saved start end) x → Evidence S ps x
  saved_evidence k i (pos s) end saved h g x c =
      ⊎_elim (λ d. g.in_saved x d) (λ d. g.in_open x d) ((save_covers i k s (whole end) saved x h.canonical h.ends_below).0 c)
  saved_evidence k i (negsuc s) end saved h g x c = g.in_saved x c

  -- A find whose letters s .. i have evidence.
  module _ (i : ℕ) where
    abbrev Letters : ℤ → Type 0
    Letters s = (x : ℕ) → From s x → x < i + 1 → Evidence S ps x

    open_new : (s : ℤ) → Letters s → (x : ℕ) → Open s (pos (i + 1)) x → Evidence S ps x
    open_new (pos a) f x c = f x c.0 c.1
    open_new (negsuc a) f x c = absurd c

    open_old : (start s end : ℤ) → T (lt_z s end) → Letters s → ((x : ℕ) → Open start end x → Evidence S ps x) → (x : ℕ) → Open start (pos (i + 1)) x → Evidence S ps x
    open_old (negsuc b) s end t f g x c = absurd c
    open_old (pos b) (negsuc a) end t f g x c = f x tt c.1
    open_old (pos b) (pos a) (negsuc e) t f g x c = absurd t
    open_old (pos b) (pos a) (pos e) t f g x c = ⊎_elim (λ (l : x < a). g x (c.0, omega (arith, ltb→lt a e t))) (λ (l : a ≤ x). f x l c.1) (lt_or_le x a)

    evidenced_find : (k : ℕ) (start end s : ℤ) (saved : List Interval) → ShapedList k i start end saved → Evidenced start end saved → Letters s
        → Evidenced (start_after start end s) (pos (i + 1)) (saved_after saved start end s)
    evidenced_find k start end s saved h g f =
        record {
          in_saved = by_test (λ (l : List Interval). (x : ℕ) → Covers l x → Evidence S ps x) (lt_z s end) saved (save_from saved start end) (λ _. g.in_saved) (λ _. saved_evidence k i start end saved h g);
          in_open = by_test (λ (z : ℤ). (x : ℕ) → Open z (pos (i + 1)) x → Evidence S ps x) (lt_z s end) (cond (lt_z s start) s start) s
              (λ t. by_test (λ (z : ℤ). (x : ℕ) → Open z (pos (i + 1)) x → Evidence S ps x) (lt_z s start) s start
              (λ _. open_new s f) (λ _. open_old start s end t f g.in_open))
              (λ _. open_new s f);
        }

  -- ---- The letters, one by one.
  abbrev EvidencedAt : Run → Type 0
  EvidencedAt a = Evidenced a.start a.end a.saved

  from_first : (i j len k x : ℕ) → From (first_letter k i len j) x → i + j + 2 ≤ len + k + x
  from_first i j len k x f = let g = subst (λ (z : ℤ). From z x) (first_is k i len j) f in omega arith

  found_evidenced : (i : ℕ) (a : Run) (rest : List Place) (counts : List ℕ) (f : Find) → Tracked (suc w) (i + 1) (err (i + 1)) a rest → Backed S (off S ps) a.window f → ShapedAt S i a → EvidencedAt a
      → EvidencedAt (found_by S i a counts f)
  unfolding found_by
  found_evidenced i a rest counts none p b h g = record { in_saved = g.in_saved; in_open = g.in_open }
  found_evidenced i a rest counts (at j) p b h g =
      let q : List Place = a.window in
      let k : ℕ = S.kmer in
      evidenced_find i k a.start a.end (first_letter k i (length q) j) a.saved h g
      (λ x f l.
      let y = from_first i j (length q) k x f in
      stretch_evidence (i + 1) j q rest p.stands b.0 b.1 x (omega arith) l)

  look_evidenced : (i : ℕ) (a : Run) (e : Place) (rest : List Place) → 0 < length a.window → Tracked (suc w) (i + 1) (err (i + 1)) a rest → ShapedAt S i a → EvidencedAt a → EvidencedAt (look S i a e)
  unfolding look found
  look_evidenced i a ambiguous rest some p h g = g
  look_evidenced i a (plain x) rest some p h g =
      let r : Outcome = search S i a x in
      by_test (λ (b : Run). EvidencedAt b) (leb S.min_start_cnt (count x a.window)) (found_by S i a r.counts r.find) a
      (λ _. found_evidenced i a rest r.counts r.find p (search_backed i a rest x some p) h g) (λ _. g)

  -- Leaving and joining change neither start and end nor what is saved.
  without_evidenced : (a : Run) (q : List Place) → EvidencedAt a → EvidencedAt (without_oldest S a q)
  without_evidenced a [] g = g
  without_evidenced a (e ∷ q) g = record { in_saved = g.in_saved; in_open = g.in_open }

  leave_evidenced : (a : Run) → EvidencedAt a → EvidencedAt (leave S a)
  unfolding leave
  leave_evidenced a g = by_test (λ (b : Run). EvidencedAt b) (leb S.window_size (length a.window)) (without_oldest S a a.window) a (λ _. without_evidenced a a.window g) (λ _. g)

  join_evidenced : (a : Run) (e : Place) → EvidencedAt a → EvidencedAt (join S a e)
  unfolding join
  join_evidenced a e g = record { in_saved = g.in_saved; in_open = g.in_open }

  -- After i letters.
  record Sound (i : ℕ) (a : Run) (rest : List Place) : Type 0 where
    tracked : Tracked (suc w) i (err i) a rest
    shaped : ShapedAt S i a
    evidenced : EvidencedAt a

  step_sound : (i : ℕ) (a : Run) (e : Place) (rest : List Place) → ReadAt S.kmer i e → Sound i a (e ∷ rest) → Sound (i + 1) (step S i a e) rest
  unfolding step
  step_sound i a e rest r h =
      let b : Run = join S (leave S a) e in
      let p : Tracked (suc w) (i + 1) (err (i + 1)) b rest = join_tracked i (leave S a) e rest (leave_tracked i a (e ∷ rest) h.tracked) in
      let s : ShapedAt S i b = join_shaped S i (leave S a) e (leave_shaped S i a h.shaped) in
      let g : EvidencedAt b = join_evidenced (leave S a) e (leave_evidenced a h.evidenced) in
      record {
        tracked = look_tracked i (i + 1) (err (i + 1)) b e rest p;
        shaped = step_shaped S i a e r h.shaped;
        evidenced = look_evidenced i b e rest (join_some S (leave S a) e) p s g;
      }

  run_sound : (i : ℕ) (a : Run) (es : List Place) → ReadFrom S.kmer i es → Sound i a es → Sound (i + length es) (run_from S i a es) []
  unfolding run_from
  run_sound i a [] r h = subst (λ (z : ℕ). Sound z a []) (omega arith) h
  run_sound i a (e ∷ es) r h =
      subst (λ (z : ℕ). Sound z (run_from S (i + 1) (step S i a e) es) []) (omega arith) (run_sound (i + 1) (step S i a e) es r.1 (step_sound i a e es r.0 h))

  begin_sound : Sound 0 (begin S) ps
  unfolding begin
  begin_sound =
      record {
        tracked = record { stands = record { past = []; parts = refl; placed = refl; short = omega arith }; near = near_as zero_near (omega (arith, gain_none S)) (omega arith) };
        shaped = begin_shaped S;
        evidenced = record { in_saved = λ x c. absurd c; in_open = λ x c. absurd c };
      }

  pub places_evidence : ReadFrom S.kmer 0 ps → (x : ℕ) → Covers (intervals_of_places S ps) x → Evidence S ps x
  unfolding intervals_of_places run
  places_evidence r x c =
      let a : Run = run S ps in
      let h : Sound (0 + length ps) a [] = run_sound 0 (begin S) ps r begin_sound in
      saved_evidence S.kmer (0 + length ps) a.start a.end a.saved h.shaped h.evidenced x c

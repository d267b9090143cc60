-- Runs that agree but for scan counts that are not read (`Like`): a letter keeps them so, and a find makes them equal.
use Rattle.std.proofs.Common.{◌≡◌, refl, sym, ap, ◌∙◌, subst, Bool, true, false, cond, true≢false, List, [], ◌∷◌, ℕ, zero, suc, ◌+◌, ◌≤◌, ◌<◌, arith, length, leb, ℤ, pos, negsuc}
use borrow.Author.Tests.{ne_eqb}
use Rattle.letters.specs.Place.{Place, ambiguous, plain}
use Rattle.scans.specs.Setup.{Setup}
use Rattle.scans.specs.Counts.{count}
use Rattle.scans.specs.Scans.{Find, none, at, Outcome, if_backward, dust_backward}
use Rattle.scans.specs.Terms.Window.{find_of}
use Rattle.scans.proofs.Test.{by_test, by_test_both}
use Rattle.step.specs.Step.{Run, whole, without_oldest, leave, join, is_at, extend_tried, search, found_by, found, look, step}
use Rattle.step.specs.Terms.Like.{with_counts, Like}

-- No find ends past the letters that were read.
pub ended : {i : ℕ} (end : ℤ) → whole end ≤ i → is_at end (i + 1) ≡ false
ended {i} (pos e) l = ne_eqb (i + 1) e (λ h. omega arith)
ended (negsuc e) l = refl

pub like_refl : {i : ℕ} {a : Run} → Like i a a
like_refl = record { run_is = refl; counts_are = λ _. refl }

like_same : {i : ℕ} {a b : Run} → a ≡ b → Like i a b
like_same {i} {a} e = subst (λ (z : Run). Like i a z) e like_refl

pub like_end : {i : ℕ} {a b : Run} → Like i a b → a.end ≡ b.end
like_end l = ap (λ (z : Run). z.end) l.run_is

pub like_start : {i : ℕ} {a b : Run} → Like i a b → a.start ≡ b.start
like_start l = ap (λ (z : Run). z.start) l.run_is

pub like_saved : {i : ℕ} {a b : Run} → Like i a b → a.saved ≡ b.saved
like_saved l = ap (λ (z : Run). z.saved) l.run_is

pub like_window : {i : ℕ} {a b : Run} → Like i a b → a.window ≡ b.window
like_window l = ap (λ (z : Run). z.window) l.run_is

pub like_trans : {i : ℕ} {a b c : Run} → Like i a b → Like i b c → Like i a c
like_trans {i} {a} l m =
    record {
      run_is = l.run_is ∙ ap (λ (z : Run). with_counts z a.counts) m.run_is;
      counts_are = λ t. l.counts_are (rw (like_end m) t) ∙ m.counts_are t;
    }

-- Whatever the counts are, if the last letter was not a find.
like_unread : {i : ℕ} {b : Run} (counts : List ℕ) → is_at b.end i ≡ false → Like i (with_counts b counts) b
like_unread counts n = record { run_is = refl; counts_are = λ t. absurd (true≢false (sym t ∙ n)) }

-- A search that finds what the outcome says, with its counts where that is something.
module _ (S : Setup) (i : ℕ) (b : Run) (n : is_at b.end (i + 1) ≡ false) where
  found_alike : (o : Outcome) (counts : List ℕ) (r : ℕ) → (0 < r → counts ≡ o.counts) → Like (i + 1) (found_by S i b counts (find_of r)) (found_by S i b o.counts (find_of r))
  unfolding found_by
  found_alike o counts zero c = record { run_is = refl; counts_are = λ t. absurd (true≢false (sym t ∙ n)) }
  found_alike o counts (suc j) c = like_same (ap (λ (z : List ℕ). found_by S i b z (at j)) (c (omega arith)))

pub like_found : (S : Setup) (i : ℕ) (b : Run) (counts : List ℕ) (o : Outcome) (r : ℕ) → is_at b.end (i + 1) ≡ false → find_of r ≡ o.find
    → (0 < r → counts ≡ o.counts) → Like (i + 1) (found_by S i b counts (find_of r)) (found_by S i b o.counts o.find)
like_found S i b counts o r n f c =
    subst (λ (z : Find). Like (i + 1) (found_by S i b counts (find_of r)) (found_by S i b o.counts z)) f (found_alike S i b n o counts r c)

-- ---- A letter after one that was not a find, from other counts.
module _ (S : Setup) (b : Run) (counts : List ℕ) where
  abbrev b' : Run
  b' = with_counts b counts

  without_like : (q : List Place) → without_oldest S b' q ≡ with_counts (without_oldest S b q) (without_oldest S b' q).counts
  without_like [] = refl
  without_like (e ∷ q) = refl

  leave_like : leave S b' ≡ with_counts (leave S b) (leave S b').counts
  unfolding leave
  leave_like =
      by_test_both (λ (x y : Run). x ≡ with_counts y x.counts) (leb S.window_size (length b.window)) (without_oldest S b' b.window) b' (without_oldest S b b.window) b
      (λ _. without_like b.window) (λ _. refl)

  without_end : (q : List Place) → (without_oldest S b q).end ≡ b.end
  without_end [] = refl
  without_end (e ∷ q) = refl

  leave_end : (leave S b).end ≡ b.end
  unfolding leave
  leave_end = by_test (λ (x : Run). x.end ≡ b.end) (leb S.window_size (length b.window)) (without_oldest S b b.window) b (λ _. without_end b.window) (λ _. refl)

  join_like : (e : Place) → join S b' e ≡ with_counts (join S b e) counts
  unfolding join
  join_like e = refl

  join_end : (e : Place) → (join S b e).end ≡ b.end
  unfolding join
  join_end e = refl

  module _ (i : ℕ) where
    same_found : (o : Outcome) → found S i b' o ≡ found S i b o
    unfolding found
    same_found o = go o.find
      where
        go : (f : Find) → found_by S i b' o.counts f ≡ found_by S i b o.counts f
        go none = refl
        go (at j) = refl

    module _ (m : is_at b.end i ≡ false) (n : is_at b.end (i + 1) ≡ false) where
      abbrev searched : Run → Outcome
      searched a = cond (if_backward S a.window) (dust_backward S a.window) (record { find = none; counts = a.counts })

      search_untried : (a : Run) (x : ℕ) → a.end ≡ b.end → search S i a x ≡ searched a
      unfolding search extend_tried
      search_untried a x e = rw (e, m)

      look_like : (e : Place) → Like (i + 1) (look S i b' e) (look S i b e)
      unfolding look found found_by
      look_like ambiguous = like_unread counts n
      look_like (plain x) =
          by_test_both (λ (y z : Run). Like (i + 1) y z) (leb S.min_start_cnt (count x b.window)) (found S i b' (search S i b' x)) b' (found S i b (search S i b x)) b
          (λ _. rw (search_untried b' x refl, search_untried b x refl)
          (by_test_both (λ (y z : Outcome). Like (i + 1) (found S i b' y) (found S i b z)) (if_backward S b.window) (dust_backward S b.window) (record { find = none; counts = counts })
          (dust_backward S b.window) (record { find = none; counts = b.counts })
          (λ _. like_same (same_found (dust_backward S b.window)))
          (λ _. like_unread counts n)))
          (λ _. like_unread counts n)

pub like_step : (S : Setup) (e : Place) {i : ℕ} {a b : Run} → Like i a b → is_at b.end (i + 1) ≡ false → Like (i + 1) (step S i a e) (step S i b e)
unfolding step
like_step S e {i} {a} {b} l n = go (is_at b.end i) refl
  where
    go : (t : Bool) → is_at b.end i ≡ t → Like (i + 1) (step S i a e) (step S i b e)
    go true t = like_same (ap (λ (z : Run). step S i z e) (l.run_is ∙ ap (λ (z : List ℕ). with_counts b z) (l.counts_are t)))
    go false m =
        let c : List ℕ = a.counts in
        let d : List ℕ = (leave S (with_counts b c)).counts in
        let B : Run = leave S b in
        let same : (join S B e).end ≡ b.end = join_end S B d e ∙ leave_end S b c in
        let moved : join S (leave S a) e ≡ with_counts (join S B e) d =
        ap (λ (z : Run). join S (leave S z) e) l.run_is ∙ ap (λ (z : Run). join S z e) (leave_like S b c) ∙ join_like S B d e in
        rw moved (look_like S (join S B e) d i (rw same m) (rw same n) e)

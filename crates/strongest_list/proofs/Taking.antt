-- A stretch has no barred letter exactly when it is inside the regions and apart from the entries; so the best of those without one is the definition's.
use Rattle.std.proofs.Common.{◌≡◌, ℕ, zero, suc, ◌+◌, ◌-◌, ◌<◌, ◌≤◌, max, Bool, true, false, not, cond, ltb, leb, ◌&&◌, ◌||◌, List, [], ◌∷◌, length, get_or, Option, option_map, ℤ, pos, refl, sym, ap, ap₂, ◌∙◌, subst, arith, inl, ⊎_elim, true≢false, le-leb, ltb-true, ltb-false}
use lib.Signed.{lt_z}
use borrow.Author.Tests.{lt-leb}
use Rattle.letters.specs.Code.{code, codes}
use Rattle.letters.proofs.Codes.{codes_at}
use Rattle.intervals.specs.declared.Interval.{Interval}
use Rattle.intervals.specs.Interval.{covered}
use Rattle.intervals.proofs.Order.{lt_or_le}
use Rattle.strongest_list.specs.declared.Request.{Request}
use Rattle.strongest_list.specs.declared.search.Candidate.{Candidate}
use Rattle.strongest_list.specs.Stretches.{Asked, Stretch, letters, score, all_covered, inside, apart, apart_from, allowed, best}
use Rattle.strongest_list.specs.Call.{asked_of}
use Rattle.strongest_list.specs.Terms.Codes.{clear_of, clear_of_all, free, Shows}
use Rattle.strongest_list.specs.Terms.Best.{score_of_codes, Before, Picks, stretch_of}
use Rattle.strongest_list.specs.Terms.Tiles.{Agrees, true_score}
use Rattle.strongest_list.proofs.Same.{scored_alike}
use Rattle.strongest_list.proofs.Choosing.{chosen_once, chosen_as, Candid, definition_is}

and_both : (a b : Bool) → a && b ≡ true → (a ≡ true) × (b ≡ true)
and_both true b e = (refl, e)
and_both false b e = absurd (true≢false (sym e))

both_and : (a b : Bool) → a ≡ true → b ≡ true → a && b ≡ true
both_and a b e g = rw (e, g) refl

-- ---- Inside.
pub covered_all : (is : List Interval) (m a x : ℕ) → all_covered is a m ≡ true → a ≤ x → x < a + m → covered is x ≡ true
unfolding all_covered
covered_all is zero a x e h k = absurd (let z : ⊥ = omega arith in z)
covered_all is (suc m) a x e h k =
    let p = and_both (covered is a) (all_covered is (suc a) m) e in
    ⊎_elim (λ i. covered_all is m (suc a) x p.1 (omega arith) (omega arith)) (λ i. subst (λ (n : ℕ). covered is n ≡ true) (let z : a ≡ x = omega arith in z) p.0) (lt_or_le a x)

pub all_of_covered : (is : List Interval) (m a : ℕ) → ((x : ℕ) → a ≤ x → x < a + m → covered is x ≡ true) → all_covered is a m ≡ true
unfolding all_covered
all_of_covered is zero a h = refl
all_of_covered is (suc m) a h = both_and (covered is a) (all_covered is (suc a) m) (h a (omega arith) (omega arith)) (all_of_covered is m (suc a) (λ x i j. h x (omega arith) (omega arith)))

-- ---- Apart.
module _ (a e p q : ℕ) where
  clear_apart : ltb e p || ltb q a ≡ true → (x : ℕ) → a ≤ x → x < e → not (leb p (x + 1) && leb x q) ≡ true
  clear_apart h x i j = go (ltb e p) (ltb q a) refl refl h
    where
      go : (b c : Bool) → ltb e p ≡ b → ltb q a ≡ c → b || c ≡ true → not (leb p (x + 1) && leb x q) ≡ true
      go true c k l m = let n = ltb-true e p k in ap (λ (z : Bool). not (z && leb x q)) (lt-leb p (x + 1) (omega arith))
      go false true k l m = let n = ltb-true q a l in ap (λ (z : Bool). not (leb p (x + 1) && z)) (lt-leb x q (omega arith)) ∙ false_right (leb p (x + 1))
        where
          false_right : (z : Bool) → not (z && false) ≡ true
          false_right true = refl
          false_right false = refl
      go false false k l m = absurd (true≢false (sym m))

  apart_clear : a < e → p ≤ q + 1 → ((x : ℕ) → a ≤ x → x < e → not (leb p (x + 1) && leb x q) ≡ true) → ltb e p || ltb q a ≡ true
  apart_clear h k f = go (ltb e p) (ltb q a) refl refl
    where
      go : (b c : Bool) → ltb e p ≡ b → ltb q a ≡ c → b || c ≡ true
      go true c i j = refl
      go false true i j = refl
      go false false i j =
          let l = ltb-false e p i in
          let m = ltb-false q a j in
          let x : ℕ = max a (p - 1) in
          let g = f x (omega arith) (omega arith) in
          absurd (true≢false (sym g ∙ ap₂ (λ (y z : Bool). not (y && z)) (le-leb p (x + 1) (omega arith)) (le-leb x q (omega arith))))

module _ (k : ℕ) (s : Stretch) where
  abbrev i : Interval
  i = letters k s

  clear_from : (ss : List Stretch) → apart_from k i ss ≡ true → (x : ℕ) → i.start ≤ x → x < i.end → clear_of_all k ss x ≡ true
  unfolding apart_from clear_of_all
  clear_from [] h x l m = refl
  clear_from (t ∷ ss) h x l m =
      let p = and_both (apart i (letters k t)) (apart_from k i ss) h in
      both_and (clear_of (letters k t) x) (clear_of_all k ss x)
      (clear_apart i.start i.end (letters k t).start (letters k t).end p.0 x l m) (clear_from ss p.1 x l m)

  apart_of_clear : (ss : List Stretch) → i.start < i.end → ((x : ℕ) → i.start ≤ x → x < i.end → clear_of_all k ss x ≡ true) → apart_from k i ss ≡ true
  unfolding apart_from clear_of_all
  apart_of_clear [] h f = refl
  apart_of_clear (t ∷ ss) h f =
      both_and (apart i (letters k t)) (apart_from k i ss)
      (apart_clear i.start i.end (letters k t).start (letters k t).end h (omega arith) (λ x l m. (and_both (clear_of (letters k t) x) (clear_of_all k ss x) (f x l m)).0))
      (apart_of_clear ss h (λ x l m. (and_both (clear_of (letters k t) x) (clear_of_all k ss x) (f x l m)).1))

-- ---- Codes lie below 5.
cond_small : (t : Bool) (x y : ℕ) → x < 5 → y < 5 → cond t x y < 5
cond_small true x y h k = h
cond_small false x y h k = k

code_small : (b : ℕ) → code b < 5
unfolding code
code_small b = cond_small _ 0 _ (omega arith) (cond_small _ 1 _ (omega arith) (cond_small _ 2 _ (omega arith) (cond_small _ 3 _ (omega arith) (cond_small _ 3 4 (omega arith) (omega arith)))))

codes_small : (s : List ℕ) (x : ℕ) → x < length s → get_or (codes s) x 4 < 5
codes_small s x h = omega (arith, codes_at s x h, code_small (get_or s x 0))

module _ (q : Request) (found : List Stretch) (cs : List ℕ) (S : Shows (asked_of q) found cs) (some : 0 < q.kmer) where
  abbrev A : Asked
  A = asked_of q

  abbrev Free : Stretch → Type 0
  Free s = (x : ℕ) → s.first + 1 ≤ x + q.kmer → x < s.first + s.size → free A found x ≡ true

  -- A letter is free exactly when its code is below 5.
  shown : (x : ℕ) → x < length cs → free A found x ≡ true → get_or cs x 5 ≡ get_or (codes q.sequence.now) x 4
  shown x h e = S.at x h ∙ ap (λ (b : Bool). cond b (get_or (codes q.sequence.now) x 4) 5) e

  small_code : (x : ℕ) → x < length cs → free A found x ≡ true → get_or cs x 5 < 5
  small_code x h e = omega (arith, shown x h e, codes_small q.sequence.now x (omega (arith, S.long)))

  free_code : (x : ℕ) → x < length cs → get_or cs x 5 < 5 → free A found x ≡ true
  free_code x h l = go (free A found x) refl
    where
      go : (b : Bool) → free A found x ≡ b → b ≡ true
      go true e = refl
      go false e = let z : get_or cs x 5 ≡ 5 = S.at x h ∙ ap (λ (b : Bool). cond b (get_or (codes q.sequence.now) x 4) 5) e in absurd (let y : ⊥ = omega arith in y)

  pub agrees : Agrees q cs
  agrees = record { long = S.long; at = λ x h l. shown x h (free_code x h l) }

  same_score : (s : Stretch) → 0 < s.size → s.first + s.size ≤ length cs → Free s → score A s ≡ score_of_codes q cs s
  same_score s size_some within F = scored_alike q cs agrees some s size_some within (λ x h k. small_code x (omega arith) (F x h k))

  -- ---- The two sets are one.
  abbrev P : Stretch → Type 0
  P = Before q cs (length cs)

  abbrev Q : Stretch → Type 0
  Q = Candid (score A) (allowed A found) q.window_size (length q.sequence.now) 0

  free_of : (s : Stretch) → P s → Free s
  free_of s p x h k = free_code x (omega (arith, p.eligible.within)) (p.eligible.free x h k)

  forth : (s : Stretch) → P s → Q s
  forth s p =
      let F = free_of s p in
      let i : Interval = letters q.kmer s in
      let g = p.eligible in
      let some' = g.some in
      record {
        some = g.some;
        short = g.short;
        allowed = both_and (inside q.regions.now i) _
            (all_of_covered q.regions.now (i.end - i.start) i.start (λ x h k. (and_both (covered q.regions.now x) (clear_of_all q.kmer found x) (F x (omega arith) (omega arith))).0))
            (both_and (apart_from q.kmer i found) _
            (apart_of_clear q.kmer s found (omega arith) (λ x h k. (and_both (covered q.regions.now x) (clear_of_all q.kmer found x) (F x (omega arith) (omega arith))).1))
            (ap (λ (z : ℤ). lt_z (pos q.floor) z) (same_score s g.some g.within F) ∙ g.high));
        ends = inl (omega (arith, g.within, S.long));
      }

  within_of : (s : Stretch) → Q s → s.first + s.size ≤ length cs
  within_of s c = let some' = c.some in ⊎_elim (λ h. omega (arith, S.long)) (λ h. absurd (let l = h.1 in let z : ⊥ = omega arith in z)) c.ends

  back : (s : Stretch) → Q s → P s
  back s c =
      let i : Interval = letters q.kmer s in
      let within = within_of s c in
      let p = and_both (inside q.regions.now i) _ c.allowed in
      let r = and_both (apart_from q.kmer i found) _ p.1 in
      let F : Free s =
      λ x h k. both_and (covered q.regions.now x) (clear_of_all q.kmer found x)
      (covered_all q.regions.now (i.end - i.start) i.start x p.0 (omega arith) (omega arith))
      (clear_from q.kmer s found r.0 x (omega arith) k) in
      record {
        eligible = record {
          some = c.some;
          short = c.short;
          within = within;
          free = λ x h k. small_code x (omega arith) (F x h k);
          high = ap (λ (z : ℤ). lt_z (pos q.floor) z) (sym (same_score s c.some within F)) ∙ r.1;
        };
        ends = within;
      }

  pub best_is : (o : Option Candidate) → Picks (true_score q) P o → option_map stretch_of o ≡ best A found
  best_is o h =
      chosen_once (score A) Q (option_map stretch_of o) (best A found)
      (chosen_as (score A) (score A) P Q (option_map stretch_of o) forth back (λ s p. refl) h.chosen)
      (definition_is (score A) (allowed A found) q.window_size (length q.sequence.now))

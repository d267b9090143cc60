-- What a request has that no check refuses, and its regions one by one.
use Rattle.std.proofs.Common.{◌≡◌, ℕ, zero, suc, ◌+◌, ◌^◌, ◌<◌, ◌≤◌, Bool, true, false, cond, ltb, leb, ◌&&◌, ◌||◌, List, [], ◌∷◌, length, get_or, drop, refl, sym, ap, ◌∙◌, arith, drop_of_length-le, ltb-false, leb-false}
use Rattle.checks.proofs.Passing.{passes}
use Rattle.scans.proofs.Test.{neither}
use Rattle.letters.specs.Code.{codes}
use Rattle.intervals.specs.declared.Interval.{Interval}
use Rattle.intervals.specs.Interval.{interval, covered}
use Rattle.intervals.proofs.Slice.{list_next}
use Rattle.strongest.specs.Strongest.{largest}
use Rattle.strongest.specs.Checks.{too_short_of, too_wide}
use Rattle.strongest.specs.Terms.Reading.{Narrow}
use Rattle.strongest_list.specs.declared.Request.{Request}
use Rattle.strongest_list.specs.Stretches.{Asked}
use Rattle.strongest_list.specs.Checks.{bad_region, any_bad_region, n_places, n_tiles, checks, refusal}
use Rattle.strongest_list.specs.Call.{asked_of}
use Rattle.strongest_list.specs.Terms.Codes.{clear_of_all, Shows, Opens, Bars}
use Rattle.strongest_list.specs.Terms.Best.{Searchable}

-- ---- The test of the regions, from the front.
module _ (n : ℕ) (rs : List Interval) where
  bad_next : (i : ℕ) → i < length rs → any_bad_region n (drop i rs) ≡ bad_region n (get_or rs i (interval 0 0)) || any_bad_region n (drop (i + 1) rs)
  unfolding any_bad_region
  bad_next i h = ap (any_bad_region n) (list_next rs i h)

  pub bad_found : (i : ℕ) → any_bad_region n rs ≡ any_bad_region n (drop i rs) → i < length rs → true ≡ bad_region n (get_or rs i (interval 0 0)) → true ≡ any_bad_region n rs
  bad_found i e h b = sym (e ∙ bad_next i h ∙ ap (λ (t : Bool). t || any_bad_region n (drop (i + 1) rs)) (sym b))

  pub bad_turn : (i : ℕ) → any_bad_region n rs ≡ any_bad_region n (drop i rs) → i < length rs → false ≡ bad_region n (get_or rs i (interval 0 0)) → any_bad_region n rs ≡ any_bad_region n (drop (i + 1) rs)
  bad_turn i e h b = e ∙ bad_next i h ∙ ap (λ (t : Bool). t || any_bad_region n (drop (i + 1) rs)) (sym b)

  pub bad_end : (i : ℕ) → any_bad_region n rs ≡ any_bad_region n (drop i rs) → length rs ≤ i → false ≡ any_bad_region n rs
  unfolding any_bad_region
  bad_end i e h = sym (e ∙ ap (any_bad_region n) (drop_of_length-le rs h))

good_at : (n : ℕ) (rs : List Interval) (i : ℕ) → any_bad_region n rs ≡ false → i < length rs → bad_region n (get_or rs i (interval 0 0)) ≡ false
unfolding any_bad_region
good_at n [] i e h = absurd (let z : ⊥ = omega arith in z)
good_at n (r ∷ rs) zero e h = (neither (bad_region n r) (any_bad_region n rs) e).0
good_at n (r ∷ rs) (suc i) e h = good_at n rs i (neither (bad_region n r) (any_bad_region n rs) e).1 (omega arith)

pub good_region : (n : ℕ) (rs : List Interval) (i : ℕ) → any_bad_region n rs ≡ false → i < length rs → ((get_or rs i (interval 0 0)).start ≤ (get_or rs i (interval 0 0)).end) × ((get_or rs i (interval 0 0)).end ≤ n)
good_region n rs i e h =
    let r : Interval = get_or rs i (interval 0 0) in
    let p = neither (leb r.end r.start) (ltb n r.end) (good_at n rs i e h) in
    (omega (arith, leb-false r.end r.start p.0), ltb-false n r.end p.1)

-- ---- The regions are shown one by one.
module _ (s : List ℕ) (rs : List Interval) where
  -- What is left to show, from region i on.
  abbrev Rest : ℕ → List ℕ → Type 0
  Rest i cs = (x : ℕ) → x < length cs → cond (covered rs x) (get_or (codes s) x 4) 5 ≡ cond (covered (drop i rs) x) (get_or (codes s) x 4) (get_or cs x 5)

  pub rest_start : (n : ℕ) (cs cs' : List ℕ) → n ≡ length cs → length cs' ≡ length cs → Bars 0 n cs cs' → Rest 0 cs'
  rest_start n cs cs' e l B x h =
      ap (λ (v : ℕ). cond (covered rs x) (get_or (codes s) x 4) v)
      (sym (B.at x ∙ ap (λ (t : Bool). cond (leb 0 x && t) 5 (get_or cs x 5)) (borrow.Author.Tests.lt-ltb x n (omega arith)) ∙ ap (λ (t : Bool). cond (t && true) 5 (get_or cs x 5)) (borrow.Author.Tests.le-leb 0 x (omega arith))))

  joined : (a b : Bool) (v w : ℕ) → cond (a || b) v w ≡ cond b v (cond a v w)
  joined true true v w = refl
  joined true false v w = refl
  joined false b v w = refl

  pub rest_turn : (i : ℕ) (cs cs' : List ℕ) → i < length rs → length cs' ≡ length cs → Rest i cs → Opens s (get_or rs i (interval 0 0)) cs cs' → Rest (i + 1) cs'
  unfolding covered
  rest_turn i cs cs' h l R O x k =
      let r : Interval = get_or rs i (interval 0 0) in
      let v : ℕ = get_or (codes s) x 4 in
      R x (omega arith)
      ∙ ap (λ (q : List Interval). cond (covered q x) v (get_or cs x 5)) (list_next rs i h)
      ∙ joined (leb r.start x && ltb x r.end) (covered (drop (i + 1) rs) x) v (get_or cs x 5)
      ∙ ap (λ (n : ℕ). cond (covered (drop (i + 1) rs) x) v n) (sym (O.at x))

  rest_none : (i : ℕ) (cs : List ℕ) → length rs ≤ i → Rest i cs → (x : ℕ) → x < length cs → get_or cs x 5 ≡ cond (covered rs x) (get_or (codes s) x 4) 5
  unfolding covered
  rest_none i cs h R x k = sym (R x k ∙ ap (λ (q : List Interval). cond (covered q x) (get_or (codes s) x 4) (get_or cs x 5)) (drop_of_length-le rs h))

pub rest_end : (q : Request) (i : ℕ) (cs : List ℕ) → length cs ≡ length q.sequence.now → length q.regions.now ≤ i → Rest q.sequence.now q.regions.now i cs → Shows (asked_of q) [] cs
unfolding clear_of_all
rest_end q i cs l h R =
    record {
      long = l;
      at = λ x k. rest_none q.sequence.now q.regions.now i cs h R x k ∙ ap (λ (t : Bool). cond t (get_or (codes q.sequence.now) x 4) 5) (sym (and_true (covered q.regions.now x)));
    }
  where
    and_true : (b : Bool) → b && true ≡ b
    and_true true = refl
    and_true false = refl

-- ---- No check refuses.
pub record Admitted (A : Asked) (codes_len newest_len places_len tiles_len : ℕ) : Type 0 where
  pub kmer_low : 1 ≤ A.kmer
  pub kmer_high : A.kmer ≤ 12
  pub window_low : A.kmer + 1 ≤ A.window_size
  pub window_high : A.window_size ≤ 65535
  pub letters_high : length A.sequence ≤ 2147483647
  pub regions_good : any_bad_region (length A.sequence) A.regions ≡ false
  pub codes_long : length A.sequence ≤ codes_len
  pub newest_long : 4 ^ A.kmer ≤ newest_len
  pub places_long : n_places A ≤ places_len
  pub tiles_long : n_tiles A ≤ tiles_len
  pub narrow : Narrow A.threshold A.ln A.f A.window_size

pub admitted : (A : Asked) (codes_len newest_len places_len tiles_len : ℕ) → refusal A codes_len newest_len places_len tiles_len ≡ 0 → Admitted A codes_len newest_len places_len tiles_len
unfolding too_short_of too_wide
admitted A codes_len newest_len places_len tiles_len e =
    let n = length A.sequence in
    let k = A.kmer in
    let w = A.window_size in
    let passed = passes (checks A codes_len newest_len places_len tiles_len) refl e in
    let inside = neither (ltb k 1) (ltb 12 k) (passed 0) in
    let p5 = neither _ (ltb tiles_len (n_tiles A)) (passed 8) in
    let p4 = neither _ (ltb places_len (n_places A)) p5.0 in
    let p3 = neither _ (ltb newest_len (4 ^ k)) p4.0 in
    let p2 = neither _ (ltb codes_len n) p3.0 in
    let p1 = neither (ltb (length A.ln) (w + 1)) (ltb (length A.f) (w + 2)) p2.0 in
    let q2 = neither _ (leb (2 ^ 52) (largest A.f w)) (passed 9) in
    let q1 = neither (leb (2 ^ 36) A.threshold) (leb (2 ^ 36) (largest A.ln w)) q2.0 in
    record {
      kmer_low = ltb-false k 1 inside.0;
      kmer_high = ltb-false 12 k inside.1;
      window_low = ltb-false w (k + 1) (passed 4);
      window_high = ltb-false 65535 w (passed 5);
      letters_high = ltb-false 2147483647 n (passed 6);
      regions_good = passed 7;
      codes_long = ltb-false codes_len n p2.1;
      newest_long = ltb-false newest_len (4 ^ k) p3.1;
      places_long = ltb-false places_len (n_places A) p4.1;
      tiles_long = ltb-false tiles_len (n_tiles A) p5.1;
      narrow = record {
        ln_long = omega (arith, ltb-false (length A.ln) (w + 1) p1.0);
        f_long = omega (arith, ltb-false (length A.f) (w + 2) p1.1);
        t_small = leb-false (2 ^ 36) A.threshold q1.0;
        ln_small = leb-false (2 ^ 36) (largest A.ln w) q1.1;
        f_small = leb-false (2 ^ 52) (largest A.f w) q2.1;
      };
    }

pub searchable : (q : Request) (codes_len newest_len places_len tiles_len : ℕ) → Admitted (asked_of q) codes_len newest_len places_len tiles_len → Searchable q
searchable q codes_len newest_len places_len tiles_len A =
    record {
      kmer_low = A.kmer_low;
      kmer_high = A.kmer_high;
      window_low = omega (arith, A.window_low);
      window_high = A.window_high;
      narrow = A.narrow;
    }

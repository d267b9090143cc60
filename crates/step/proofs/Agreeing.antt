-- Tables that agree on entries 1..m give a strand the same list of intervals, if w or the number of letters is at most m, and with m = w the same flag: no run reads ln[0], f[0], or an entry past w or past the number of letters.
use Rattle.std.proofs.Common.{◌≡◌, refl, sym, ap, ◌∙◌, subst, ℕ, zero, suc, ◌+◌, ◌≤◌, ◌<◌, min, arith, Bool, true, false, cond, ◌&&◌, List, [], ◌∷◌, ◌++◌, append-nil, length, get_or, length-append, T, leb, leb→le, ℤ, pos, negsuc, Float}
use lib.Seq.{append_snoc}
use Rattle.floats.specs.Binary64.{sixteen, two_to20}
use Rattle.letters.specs.Place.{Place, ambiguous, plain, Below, places}
use Rattle.letters.proofs.Places.{places_length, places_below}
use Rattle.scans.specs.Setup.{Setup, kmers}
use Rattle.scans.specs.Counts.{count, raise, cleared}
use Rattle.scans.specs.Scans.{Find, none, at, Outcome, extends, if_backward, dust_backward}
use Rattle.scans.specs.Terms.Parts.{UpTo}
use Rattle.scans.proofs.Test.{by_test}
use Rattle.scans.proofs.Counting.{hit_self, count_le, count_snoc}
use Rattle.scans.proofs.ScanCounts.{up_to_cleared, up_to_more, up_to_raise, up_to_lower, dust_up_to}
use Rattle.scans.proofs.Agreeing.{AgreeTo, Agree, with_tables, agree_as, extends_agree, if_backward_agree, dust_backward_agree}
use Rattle.step.specs.Step.{Run, begin, sum_without, counts_without, without_oldest, leave, sum_with, join, window_score, extend_tried, search, found_by, found, look, run_from, run, intervals_of_places, intervals_of}
use Rattle.scans.specs.Range.{table_in_range, in_range}
use Rattle.step.specs.ScanFind.{looked_from}
use Rattle.step.proofs.Placing.{placed_below, placed_lengths, leave_placed, joined_placed, run_placed, run_looks}

-- ---- The flag.
table_agree : (high : Float) (w m : ℕ) {table table' : List Float} → AgreeTo w table table' → m ≤ w → table_in_range high table m ≡ table_in_range high table' m
unfolding table_in_range
table_agree high w zero a l = refl
table_agree high w (suc m) a l = rw (table_agree high w m a (omega arith), a.same (suc m) (omega arith) l)

pub in_range_agree : (S S' : Setup) → Agree S.window_size S S' → in_range S ≡ in_range S'
unfolding in_range
in_range_agree S S' a =
    let w : ℕ = S.window_size in
    rw (table_agree sixteen w w a.ln (omega arith), table_agree two_to20 w w a.f (omega arith), a.window_size, a.score_threshold)

-- ---- The scan counts of a run: none is above the number of places read.
without_up_to : (n : ℕ) (last : ℤ) (counts : List ℕ) (e : Place) → UpTo n counts → UpTo n (counts_without last counts e)
without_up_to n (pos zero) counts e u = up_to_lower counts e n u
without_up_to n (pos (suc j)) counts e u = u
without_up_to n (negsuc j) counts e u = u

oldest_up_to : (S : Setup) (n : ℕ) (a : Run) (q : List Place) → UpTo n a.counts → UpTo n (without_oldest S a q).counts
oldest_up_to S n a [] u = u
oldest_up_to S n a (e ∷ q) u = without_up_to n a.last_q a.counts e u

leave_up_to : (S : Setup) (n : ℕ) (a : Run) → UpTo n a.counts → UpTo n (leave S a).counts
unfolding leave
leave_up_to S n a u =
    by_test (λ (b : Run). UpTo n b.counts) (leb S.window_size (length a.window)) (without_oldest S a a.window) a (λ _. oldest_up_to S n a a.window u) (λ _. u)

search_up_to : (S : Setup) (n i : ℕ) (a : Run) (x : ℕ) → length a.window ≤ n + 1 → UpTo n a.counts → UpTo (n + 1) (search S i a x).counts
unfolding search
search_up_to S n i a x l u =
    let extended : Outcome = record { find = at 0; counts = raise a.counts (plain x) } in
    let scanned : Outcome = dust_backward S a.window in
    let unscanned : Outcome = record { find = none; counts = a.counts } in
    by_test (λ (o : Outcome). UpTo (n + 1) o.counts) (extend_tried S i a && extends S a.counts (length a.window) x) extended (cond (if_backward S a.window) scanned unscanned)
    (λ _. up_to_raise a.counts (plain x) n u)
    (λ _. by_test (λ (o : Outcome). UpTo (n + 1) o.counts) (if_backward S a.window) scanned unscanned
    (λ _. up_to_more l (dust_up_to S a.window))
    (λ _. up_to_more (omega arith) u))

found_counts : (S : Setup) (i : ℕ) (a : Run) (counts : List ℕ) (find : Find) → (found_by S i a counts find).counts ≡ counts
unfolding found_by
found_counts S i a counts none = refl
found_counts S i a counts (at j) = refl

look_up_to : (S : Setup) (n i : ℕ) (a : Run) (e : Place) → length a.window ≤ n + 1 → UpTo n a.counts → UpTo (n + 1) (look S i a e).counts
unfolding look found
look_up_to S n i a ambiguous l u = up_to_more (omega arith) u
look_up_to S n i a (plain x) l u =
    let r : Outcome = search S i a x in
    by_test (λ (b : Run). UpTo (n + 1) b.counts) (leb S.min_start_cnt (count x a.window)) (found_by S i a r.counts r.find) a
    (λ _. subst (λ (counts : List ℕ). UpTo (n + 1) counts) (sym (found_counts S i a r.counts r.find)) (search_up_to S n i a x l u))
    (λ _. up_to_more (omega arith) u)

-- ---- The run of S and of S with other tables, over the places ps. A k-mer that is searched from stands twice or more in the window.
module _ (S : Setup) (m : ℕ) (ln f : List Float) (al : AgreeTo m S.ln ln) (af : AgreeTo m S.f f) (some : 0 < S.window_size) (twice : 2 ≤ S.min_start_cnt) where
  abbrev S' : Setup
  S' = with_tables S ln f

  -- The oldest entry leaves.
  sum_without_agree : (e : Place) (q : List Place) (sum : Float) → length (e ∷ q) ≤ m → sum_without S (e ∷ q) sum e ≡ sum_without S' (e ∷ q) sum e
  sum_without_agree ambiguous q sum l = refl
  sum_without_agree (plain x) q sum l = rw (al.same (count x (plain x ∷ q)) (omega (arith, hit_self x)) (omega (arith, count_le x (plain x ∷ q))))

  without_agree : (a : Run) (q : List Place) → a.window ≡ q → length q ≤ m → without_oldest S a q ≡ without_oldest S' a q
  without_agree a [] e l = refl
  without_agree a (p ∷ q) e l =
      rw (e, sum_without_agree p q a.sum l)

  leave_agree : (a : Run) → length a.window ≤ m → leave S a ≡ leave S' a
  unfolding leave
  leave_agree a l = ap (λ (b : Run). cond (leb S.window_size (length a.window)) b a) (without_agree a a.window refl l)

  -- The new entry joins.
  sum_with_agree : (q : List Place) (e : Place) (sum : Float) → length q < m → sum_with S (q ++ e ∷ []) sum e ≡ sum_with S' (q ++ e ∷ []) sum e
  sum_with_agree q ambiguous sum l = refl
  sum_with_agree q (plain x) sum l =
      rw (al.same (count x (q ++ plain x ∷ [])) (omega (arith, count_snoc x q (plain x), hit_self x)) (omega (arith, count_snoc x q (plain x), hit_self x, count_le x q)))

  join_agree : (a : Run) (e : Place) → length a.window < m → join S a e ≡ join S' a e
  unfolding join
  join_agree a e l = rw (sum_with_agree a.window e a.sum l)

  -- A scan count that an extension reads is at most m.
  record FewCounts (a : Run) : Type 0 where
    reach : (x : ℕ) → get_or a.counts x 0 + 1 ≤ S.window_size → get_or a.counts x 0 + 1 ≤ m

  -- The letter is searched from.
  search_agree : (i : ℕ) (a : Run) (x : ℕ) → Below (kmers S) a.window → length a.window ≤ m → 2 ≤ length a.window → FewCounts a → search S i a x ≡ search S' i a x
  unfolding search extend_tried window_score
  search_agree i a x b l t few =
      let q : List Place = a.window in
      rw (af.same (length q) (omega arith) l, extends_agree S m ln f al af a.counts (length q) x t l (few.reach x), if_backward_agree S m ln f al af q l, dust_backward_agree S m ln f al af q l b)

  found_agree : (i : ℕ) (a : Run) (counts : List ℕ) (find : Find) → found_by S i a counts find ≡ found_by S' i a counts find
  unfolding found_by
  found_agree i a counts none = refl
  found_agree i a counts (at j) = refl

  look_agree : (i : ℕ) (a : Run) (e : Place) → Below (kmers S) a.window → length a.window ≤ m → FewCounts a → look S i a e ≡ look S' i a e
  unfolding look found
  look_agree i a ambiguous b l few = refl
  look_agree i a (plain x) b l few =
      go (leb S.min_start_cnt (count x a.window))
      (λ t.
      let c = leb→le S.min_start_cnt (count x a.window) t in
      rw (search_agree i a x b l (omega (arith, count_le x a.window)) few) (found_agree i a (search S' i a x).counts (search S' i a x).find))
    where
      go : (t : Bool) {b b' : Run} → (T t → b ≡ b') → cond t b a ≡ cond t b' a
      go true h = h tt
      go false h = refl

  -- The places `before` are read, `es` are to come; no window and no count is then above m.
  module _ (ps : List Place) (reach : min S.window_size (length ps) ≤ m) (b : Below (kmers S) ps) where
    short : {n : ℕ} → n ≤ S.window_size → n ≤ length ps → n ≤ m
    short l k = omega arith

    run_agree : (before es : List Place) → before ++ es ≡ ps → UpTo (length before) (run S before).counts → run S before ≡ run S' before → run S ps ≡ run S' ps
    unfolding run_from looked_from join
    run_agree before [] e u h = let z : before ≡ ps = sym (append-nil before) ∙ e in rw (← z) h
    run_agree before (p ∷ es) e u h =
        let a : Run = run S before in
        let placed = run_placed S some ps before (p ∷ es) e in
        let left = leave_placed S some ps (length before) a (p ∷ es) placed in
        let joined = joined_placed S some ps (length before) a p es placed in
        let c : Run = join S (leave S a) p in
        let all = placed_lengths c.window es joined in
        let few : UpTo (length before) c.counts = leave_up_to S (length before) a u in
        let counts : FewCounts c = record { reach = λ x l. short l (omega (arith, few.at_most x, ap length e, length-append before (p ∷ es))) } in
        let same : c ≡ join S' (leave S' (run S' before)) p =
        join_agree (leave S a) p (omega (arith, short left.short (omega (arith, placed_lengths (leave S a).window (p ∷ es) left))))
        ∙ ap (λ (d : Run). join S' d p) (leave_agree a (short (omega (arith, placed.short)) (omega (arith, placed_lengths a.window (p ∷ es) placed))) ∙ ap (λ (d : Run). leave S' d) h) in
        let looked : run S (before ++ p ∷ []) ≡ look S (length before) c p = run_looks S before p [] in
        run_agree (before ++ p ∷ []) es (append_snoc before p es ∙ e)
        (rw looked (subst (λ (n : ℕ). UpTo n (look S (length before) c p).counts) (sym (length-append before (p ∷ [])))
        (look_up_to S (length before) (length before) c p (omega (arith, joined.placed)) few)))
        (looked ∙ look_agree (length before) c p (placed_below c.window es joined (kmers S) b).0 (short (omega (arith, joined.short)) (omega arith)) counts
        ∙ ap (λ (d : Run). look S' (length before) d p) same ∙ sym (run_looks S' before p []))

    places_agree : intervals_of_places S ps ≡ intervals_of_places S' ps
    unfolding intervals_of_places run run_from begin
    places_agree = rw (run_agree [] ps refl (up_to_cleared (cleared S) (kmers S) 0 refl) refl)

-- The list of a strand.
pub intervals_agree : (m : ℕ) (S S' : Setup) → Agree m S S' → 0 < S.window_size → 2 ≤ S.min_start_cnt → (codes : List ℕ) → min S.window_size (length codes) ≤ m → intervals_of S codes ≡ intervals_of S' codes
unfolding intervals_of
intervals_agree m S S' a some twice codes reach =
    let ps : List Place = places S.kmer codes in
    places_agree S m S'.ln S'.f a.ln a.f some twice ps (rw (places_length S.kmer codes) reach) (places_below S.kmer codes)
    ∙ ap (λ (R : Setup). intervals_of_places R (places R.kmer codes)) (sym (agree_as a))

-- Tables that agree on entries 1..m: no other entry of them is read over a window of at most m places, so the back check, extend and both scans are the same; and what of them max_test reads.
use Rattle.std.proofs.Common.{◌≡◌, refl, ap, ◌∙◌, ℕ, zero, suc, ◌+◌, ◌-◌, ◌≤◌, ◌<◌, arith, Bool, true, false, cond, ◌&&◌, ◌≢◌, List, [], ◌∷◌, length, get_or, drop, length-drop, replicate, get_or-set_same, T, leb, leb→le, ℤ, pos, Float}
use lib.ListN.{length-replicate}
use lib.Ieee.{nan, lt, to_signed}
use Rattle.floats.specs.Arithmetic.{◌⊕◌, ◌⊖◌, ◌⊗◌, ◌⊘◌}
use Rattle.floats.specs.Binary64.{zero64, slack, number}
use Rattle.letters.specs.Place.{Place, ambiguous, plain, BelowAt, Below}
use Rattle.scans.specs.Setup.{Setup, kmers, max_test_from, max_test}
use Rattle.scans.specs.Counts.{count, raise, cleared}
use Rattle.scans.specs.Scans.{extends, window_value, if_backward_from, if_backward, max_steps, value, ForwardSums, forward_start, forward_from, dust_forward, Candidate, second_value, BackwardSums, backward_start, backward_from, try_from, tried, dust_backward}
use Rattle.scans.specs.Terms.Parts.{UpTo}
use Rattle.scans.proofs.Counting.{hit_self, count_le, raise_length}
use Rattle.scans.proofs.ScanCounts.{up_to_cleared, up_to_raise}

-- Entries 1..m of two tables are the same.
pub record AgreeTo (m : ℕ) (table table' : List Float) : Type 0 where
  pub same : (i : ℕ) → 1 ≤ i → i ≤ m → get_or table i nan ≡ get_or table' i nan

-- Two setups with the same numbers, whose tables agree on entries 1..m.
pub record Agree (m : ℕ) (S S' : Setup) : Type 0 where
  pub kmer : S.kmer ≡ S'.kmer
  pub window_size : S.window_size ≡ S'.window_size
  pub score_threshold : S.score_threshold ≡ S'.score_threshold
  pub min_start_cnt : S.min_start_cnt ≡ S'.min_start_cnt
  pub drop_limit : S.drop_limit ≡ S'.drop_limit
  pub approx : S.approx ≡ S'.approx
  pub max_test : S.max_test ≡ S'.max_test
  pub ln : AgreeTo m S.ln S'.ln
  pub f : AgreeTo m S.f S'.f

-- ---- max_test.
module _ (w : ℕ) (t : Float) {ln ln' f f' : List Float} (al : AgreeTo w ln ln') (af : AgreeTo w f f') where
  max_from : (m i : ℕ) → 1 ≤ i → i + m ≤ w + 1 → (s : Float) → max_test_from t ln f m i s ≡ max_test_from t ln' f' m i s
  unfolding max_test_from
  max_from zero i a b s = refl
  max_from (suc m) i a b s =
      let later : (s' : Float) → max_test_from t ln f m (suc i) s' ≡ max_test_from t ln' f' m (suc i) s' = max_from m (suc i) (omega arith) (omega arith) in
      rw (al.same i (omega arith) (omega arith), af.same i (omega arith) (omega arith), later)

  pub max_test_agree : max_test w t ln f ≡ max_test w t ln' f'
  unfolding max_test
  max_test_agree = max_from w 1 (omega arith) (omega arith) zero64

-- An entry found among the first m decides, however many more there are.
module _ (t : Float) (ln f : List Float) where
  found_first : (b : Bool) (x : ℤ) {later later' : ℤ} → cond b x later ≢ pos 0 → (later ≢ pos 0 → later' ≡ later) → cond b x later' ≡ cond b x later
  found_first true x h g = refl
  found_first false x h g = g h

  max_longer : (m r i : ℕ) (s : Float) → max_test_from t ln f m i s ≢ pos 0 → max_test_from t ln f (m + r) i s ≡ max_test_from t ln f m i s
  unfolding max_test_from
  max_longer zero r i s h = absurd (h refl)
  max_longer (suc m) r i s h =
      let s' : Float = s ⊕ (get_or ln i nan ⊖ t) in
      let e : suc m + r ≡ suc (m + r) = omega arith in
      rw e (found_first (lt zero64 (s' ⊖ get_or f i nan)) (to_signed 31 (number i ⊗ get_or ln i nan ⊘ t)) h (max_longer m r (suc i) s'))

  pub max_test_longer : (m w : ℕ) → m ≤ w → max_test m t ln f ≢ pos 0 → max_test w t ln f ≡ max_test m t ln f
  unfolding max_test
  max_test_longer m w l h = ap (λ (n : ℕ). max_test_from t ln f n 1 zero64) (let e : w ≡ m + (w - m) = omega arith in e) ∙ max_longer m (w - m) 1 zero64 h

-- The setup S with other tables.
abbrev pub with_tables : Setup → List Float → List Float → Setup
with_tables S ln f =
    record {
      kmer = S.kmer;
      window_size = S.window_size;
      score_threshold = S.score_threshold;
      min_start_cnt = S.min_start_cnt;
      drop_limit = S.drop_limit;
      approx = S.approx;
      max_test = S.max_test;
      ln = ln;
      f = f;
    }

pub agree_as : {m : ℕ} {S S' : Setup} → Agree m S S' → S' ≡ with_tables S S'.ln S'.f
agree_as {m} {S} {S'} a = rw (a.kmer, a.window_size, a.score_threshold, a.min_start_cnt, a.drop_limit, a.approx, a.max_test)

-- A k-mer that stands in a window is counted there.
count_some : (q : List Place) (i x : ℕ) → get_or q i ambiguous ≡ plain x → 1 ≤ count x q
count_some [] i x e = absurd (let z : ◌≡◌ {A = ℕ} 0 1 = cc in omega arith)
count_some (p ∷ q) zero x e = rw e (omega (arith, hit_self x))
count_some (p ∷ q) (suc i) x e = omega (arith, count_some q i x e)

-- ---- Scan counts: none is above the number of places read, and there is one for each of the k-mers.
record Read (kmers n : ℕ) (counts : List ℕ) : Type 0 where
  long : length counts ≡ kmers
  few : UpTo n counts

read_more : (kmers n : ℕ) (counts : List ℕ) (e : Place) → Read kmers n counts → Read kmers (n + 1) (raise counts e)
read_more kmers n counts e r = record { long = raise_length counts e ∙ r.long; few = up_to_raise counts e n r.few }

read_none : (kmers : ℕ) → Read kmers 0 (replicate kmers 0)
read_none kmers = record { long = length-replicate kmers 0; few = up_to_cleared (replicate kmers 0) kmers 0 refl }

-- ---- The scans of S and of S with other tables, over a window of at most m places.
module _ (S : Setup) (m : ℕ) (ln f : List Float) (al : AgreeTo m S.ln ln) (af : AgreeTo m S.f f) where
  abbrev S' : Setup
  S' = with_tables S ln f

  -- A raised scan count that is at most w must be at most m.
  pub extends_agree : (counts : List ℕ) (len x : ℕ) → 2 ≤ len → len ≤ m → (get_or counts x 0 + 1 ≤ S.window_size → get_or counts x 0 + 1 ≤ m) → extends S counts len x ≡ extends S' counts len x
  unfolding extends
  extends_agree counts len x some l few =
      let c : ℕ = get_or counts x 0 + 1 in
      let w : ℕ = S.window_size in
      go (leb c w) (λ t. rw (al.same c (omega arith) (few (leb→le c w t)), af.same len (omega arith) l, af.same (len - 1) (omega arith) (omega arith)))
    where
      go : (b : Bool) {x y : Bool} → (T b → x ≡ y) → b && x ≡ b && y
      go true h = h tt
      go false h = refl

  value_agree : (n : ℕ) (counts : List ℕ) (e : Place) → Read (kmers S) n counts → n < m → value S counts e ≡ value S' counts e
  value_agree n counts ambiguous r h = refl
  value_agree n counts (plain x) r h = al.same (get_or counts x 0 + 1) (omega arith) (omega (arith, r.few.at_most x))

  forward_agree : (limit : Float) (es : List Place) (n l i : ℕ) (counts : List ℕ) → l ≡ n + 1 → n + length es ≤ m → Read (kmers S) n counts → (a : ForwardSums)
      → forward_from S limit es l i a counts ≡ forward_from S' limit es l i a counts
  unfolding forward_from
  forward_agree limit [] n l i counts e h r a = refl
  forward_agree limit (p ∷ es) n l i counts e h r a =
      let later : (a' : ForwardSums) → forward_from S limit es (l + 1) (i + 1) a' (raise counts p) ≡ forward_from S' limit es (l + 1) (i + 1) a' (raise counts p) =
      forward_agree limit es (n + 1) (l + 1) (i + 1) (raise counts p) (omega arith) (omega arith) (read_more (kmers S) n counts p r) in
      rw (value_agree n counts p r (omega arith), af.same l (omega arith) (omega arith), later)

  module _ (q : List Place) (short : length q ≤ m) where
    -- ---- The back check.
    window_value_agree : (i : ℕ) (e : Place) → get_or q i ambiguous ≡ e → window_value S q e ≡ window_value S' q e
    window_value_agree i ambiguous e = refl
    window_value_agree i (plain x) e = al.same (count x q) (count_some q i x e) (omega (arith, count_le x q))

    back_agree : (left i : ℕ) (s : Float) → if_backward_from S q left i s ≡ if_backward_from S' q left i s
    unfolding if_backward_from
    back_agree zero i s = refl
    back_agree (suc left) i s =
        let later : (s' : Float) → if_backward_from S q left (i - 1) s' ≡ if_backward_from S' q left (i - 1) s' = back_agree left (i - 1) in
        rw (window_value_agree (i - 1) (get_or q (i - 1) ambiguous) refl, later)

    pub if_backward_agree : if_backward S q ≡ if_backward S' q
    unfolding if_backward
    if_backward_agree = back_agree (max_steps S.max_test (length q)) (length q) zero64

    -- ---- The forward scan.
    pub dust_forward_agree : (j : ℕ) (max_back : Float) → dust_forward S q j max_back ≡ dust_forward S' q j max_back
    unfolding dust_forward
    dust_forward_agree j max_back = forward_agree (max_back ⊕ slack) (drop j q) 0 1 j (cleared S) refl (omega (arith, length-drop j q)) (read_none (kmers S)) forward_start

    -- ---- The backward scan.
    second_value_agree : (i : ℕ) (counts : List ℕ) (e : Place) → length counts ≡ kmers S → BelowAt (kmers S) e → get_or q i ambiguous ≡ e
        → second_value S q (raise counts e) e ≡ second_value S' q (raise counts e) e
    second_value_agree i counts ambiguous l b e = refl
    second_value_agree i counts (plain x) l b e =
        al.same (count x q - get_or (raise counts (plain x)) x 0 + 1) (omega arith)
        (omega (arith, count_le x q, count_some q i x e, get_or-set_same counts x (get_or counts x 0 + 1) 0 (omega arith)))

    module _ (below : Below (kmers S) q) where
      below_at : (i : ℕ) (r : List Place) → Below (kmers S) r → BelowAt (kmers S) (get_or r i ambiguous)
      below_at i [] b = tt
      below_at zero (e ∷ r) b = b.0
      below_at (suc i) (e ∷ r) b = below_at i r b.1

      backward_agree : (i n l : ℕ) (counts : List ℕ) → l ≡ n + 1 → n + i ≤ m → Read (kmers S) n counts → (a : BackwardSums) (cs : List Candidate)
          → backward_from S q i l a counts cs ≡ backward_from S' q i l a counts cs
      unfolding backward_from
      backward_agree zero n l counts e h r a cs = refl
      backward_agree (suc i) n l counts e h r a cs =
          let p : Place = get_or q i ambiguous in
          let later : (a' : BackwardSums) (cs' : List Candidate) → backward_from S q i (l + 1) a' (raise counts p) cs' ≡ backward_from S' q i (l + 1) a' (raise counts p) cs' =
          backward_agree i (n + 1) (l + 1) (raise counts p) (omega arith) (omega arith) (read_more (kmers S) n counts p r) in
          rw (value_agree n counts p r (omega arith), af.same l (omega arith) (omega arith), second_value_agree i counts p r.long (below_at i q below) refl, later)

      try_agree : (cs : List Candidate) (i furthest : ℕ) (counts : List ℕ) → try_from S q cs i furthest counts ≡ try_from S' q cs i furthest counts
      unfolding try_from
      try_agree cs zero furthest counts = refl
      try_agree cs (suc i) furthest counts =
          let later : (furthest' : ℕ) (counts' : List ℕ) → try_from S q cs i furthest' counts' ≡ try_from S' q cs i furthest' counts' = try_agree cs i in
          simp (dust_forward_agree, later)

      pub dust_backward_agree : dust_backward S q ≡ dust_backward S' q
      unfolding dust_backward tried
      dust_backward_agree =
          simp (backward_agree (length q) 0 1 (cleared S) refl (omega arith) (read_none (kmers S)) backward_start [], try_agree)

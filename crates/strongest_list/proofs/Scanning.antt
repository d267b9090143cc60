-- A row of letters in the buffer of codes: its places, its stretches, and the ceiling that rises with it.
use Rattle.std.proofs.Common.{◌≡◌, ℕ, zero, suc, ◌+◌, ◌-◌, ◌*◌, ◌/◌, ◌^◌, ◌<◌, ◌≤◌, min, max, true, List, [], ◌∷◌, ◌++◌, length, get_or, replicate, Option, ℤ, pos, ◌-ℤ◌, refl, sym, ap, ap₂, ◌∙◌, subst, arith, ◌⊎◌, ⊎_elim, eq-or-lt_of_le}
use lib.Signed.{lt_z}
use Rattle.floats.proofs.Whole.{Is}
use Rattle.intervals.proofs.Order.{lt_or_le}
use Rattle.letters.specs.declared.Kmer.{Kmer}
use Rattle.letters.specs.Place.{Place, ambiguous, plain, place_at, places_from, places, Below, BelowAt}
use Rattle.letters.specs.Terms.Rolling.{no_letter, rolled_on, kmer_after, entry_of}
use Rattle.letters.proofs.Rolling.{kmer_none, kmer_next, value_small, entry_below, entry_place}
use Rattle.letters.proofs.Places.{place_below}
use Rattle.letters.specs.Terms.Entry.{decode}
use Rattle.scans.specs.Counts.{count}
use Rattle.scans.specs.Score.{stretch}
use Rattle.scans.proofs.Counting.{count_append}
use Rattle.strongest.specs.Terms.Reading.{Narrow}
use Rattle.strongest.proofs.Backward.{place_part}
use Rattle.strongest.proofs.Order.{is_same, difference_is}
use Rattle.strongest_list.specs.declared.Request.{Request}
use Rattle.strongest_list.specs.declared.search.Candidate.{Candidate}
use Rattle.strongest_list.specs.declared.linked.LinkedPlace.{LinkedPlace}
use Rattle.strongest_list.specs.declared.rows.Row.{Row}
use Rattle.strongest_list.specs.declared.blocks.Block.{Block}
use Rattle.strongest_list.specs.Mirrored.{Rises}
use Rattle.strongest_list.specs.Stretches.{Stretch}
use Rattle.strongest_list.specs.Terms.Best.{Eligible, score_of_codes, EndsAt, Exact, Picks, stretch_of}
use Rattle.strongest_list.specs.Terms.Tiles.{EndsIn}
use Rattle.strongest_list.specs.Terms.Blocks.{no_block, high, entry_at, order_at, value, gains, Blocked}
use Rattle.strongest_list.specs.Terms.Linked.{order, places_in, order_in, Linked, Joins}
use Rattle.strongest_list.specs.Terms.Rows.{loss_of, gained, found, offers, Capped, low_in_row, RowOf}
use Rattle.strongest_list.proofs.Orders.{worth, gain, gain_snoc, rises_to, score_is}
use Rattle.strongest_list.proofs.Turning.{from_length, stretch_from}
use Rattle.strongest_list.proofs.Gains.{value_plain, le_or_lt, blocked_none}
use Rattle.strongest_list.proofs.Counting.{linked_from}
use Rattle.strongest_list.proofs.Linking.{in_snoc, in_same}
use Rattle.strongest_list.proofs.Rowing.{loss_small, gains_small}
use Rattle.strongest_list.proofs.Offering.{end_joins}

-- ---- What places gain by their orders, as a list of places.
worth_is : (ln : List ℕ) (q : List Place) (e : Place) → value ln (order q e) ≡ worth ln q e
worth_is ln q ambiguous = refl
worth_is ln q (plain x) = value_plain ln (suc (count x q)) (omega arith)

module _ (ln : List ℕ) (ps : List LinkedPlace) where
  pub gains_are : (p l n : ℕ) → p + l ≡ n → ((i : ℕ) → p ≤ i → i < n → order_at ps i ≡ order_in ps i n) → gains ln (order_at ps) p l ≡ gain ln (places_in ps p l)
  unfolding gains places_in
  gains_are p zero n e h = refl
  gains_are p (suc l) n e h =
      let r = gains_are (suc p) l n (omega arith) (λ i a b. h i (omega arith) b) in
      let v : value ln (order_at ps p) ≡ worth ln (places_in ps (suc p) l) (decode (entry_at ps p)) =
      ap (value ln) (h p (omega arith) (omega arith) ∙ ap (λ (k : ℕ). order (places_in ps (suc p) k) (decode (entry_at ps p))) (let z : n - suc p ≡ l = omega arith in z))
      ∙ worth_is ln (places_in ps (suc p) l) (decode (entry_at ps p)) in
      ap₂ (λ (a b : ℕ). a + b) v r

in_none : (ps : List LinkedPlace) (p : ℕ) → places_in ps p 0 ≡ []
unfolding places_in
in_none ps p = refl

in_below : (ps : List LinkedPlace) (m p l : ℕ) → ((i : ℕ) → p ≤ i → i < p + l → BelowAt m (decode (entry_at ps i))) → Below m (places_in ps p l)
unfolding places_in
in_below ps m p zero h = tt
in_below ps m p (suc l) h = (h p (omega arith) (omega arith), in_below ps m (suc p) l (λ i a b. h i (omega arith) (omega arith)))

in_split : (ps : List LinkedPlace) (p l m n : ℕ) → n ≡ l + m → places_in ps p n ≡ places_in ps p l ++ places_in ps (p + l) m
unfolding places_in
in_split ps p zero m n e = ap₂ (λ (a b : ℕ). places_in ps a b) (let z : p ≡ p + 0 = omega arith in z) (let z : n ≡ m = omega arith in z)
in_split ps p (suc l) m zero e = absurd (let z : ⊥ = omega arith in z)
in_split ps p (suc l) m (suc n) e =
    ap (λ (r : List Place). decode (entry_at ps p) ∷ r) (in_split ps (suc p) l m n (omega arith) ∙ ap (λ (a : ℕ). places_in ps (suc p) l ++ places_in ps a m) (let z : suc p + l ≡ p + suc l = omega arith in z))

order_up_to : (q r : List Place) (e : Place) → order r e ≤ order (q ++ r) e
order_up_to q r ambiguous = omega arith
order_up_to q r (plain x) = omega (arith, count_append x q r)

value_up : (ln : List ℕ) (w c d : ℕ) → Rises ln w → c ≤ d → d ≤ w → value ln c ≤ value ln d
value_up ln w zero d R h k = omega arith
value_up ln w (suc c) zero R h k = absurd (let z : ⊥ = omega arith in z)
value_up ln w (suc c) (suc d) R h k = omega (arith, value_plain ln (suc c) (omega arith), value_plain ln (suc d) (omega arith), rises_to ln w (suc c) (suc d) R (omega arith) h k)

-- ---- The ceiling with one place more.
module _ (q : Request) (ps ps' : List LinkedPlace) (n low low' r ceiling m : ℕ) (L : Rises q.scoring.ln.now q.window_size) (F : Rises q.scoring.f.now q.window_size)
    (same : (p : ℕ) → p < n → entry_at ps' p ≡ entry_at ps p)
    (older : (p : ℕ) → low ≤ p → p < n → order_at ps p ≡ order_in ps p n) (newer : (p : ℕ) → low' ≤ p → p < suc n → order_at ps' p ≡ order_in ps' p (suc n))
    (up : low ≤ low') (near : suc n ≤ low' + q.window_size) (below : (p : ℕ) → p < suc n → BelowAt m (decode (entry_at ps' p)))
    (least : order (places_in ps low' (n - low')) (decode (entry_at ps' n)) ≤ r) (most : r ≤ q.window_size) (C : Capped q ps n ceiling 0 (n - low)) where
  abbrev ln : List ℕ
  ln = q.scoring.ln.now

  abbrev t : ℕ
  t = q.scoring.threshold

  abbrev e : Place
  e = decode (entry_at ps' n)

  -- The l places before it and itself.
  joined : (p l : ℕ) → low' ≤ p → p + l ≡ n → gains ln (order_at ps') p (suc l) ≤ gain ln (places_in ps p l) + value ln r
  joined p l h k =
      let a = gains_are ln ps' p (suc l) (suc n) (omega arith) (λ i x y. newer i (omega arith) y) in
      let b = ap (gain ln) (in_snoc ps' p l n (sym k)) in
      let c = gain_snoc ln m (places_in ps' p l) e (in_below ps' m p l (λ i x y. below i (omega arith))) (below n (omega arith)) in
      let d : places_in ps' p l ≡ places_in ps p l = in_same ps ps' p l (λ i x y. same i (omega arith)) in
      let g = ap (gain ln) d in
      let w = ap (λ (z : List Place). worth ln z e) d in
      let v = worth_is ln (places_in ps p l) e in
      let s : places_in ps low' (n - low') ≡ places_in ps low' (p - low') ++ places_in ps p l =
      in_split ps low' (p - low') l (n - low') (omega arith) ∙ ap (λ (z : ℕ). places_in ps low' (p - low') ++ places_in ps z l) (let z : low' + (p - low') ≡ p = omega arith in z) in
      let o : order (places_in ps p l) e ≤ r = omega (arith, order_up_to (places_in ps low' (p - low')) (places_in ps p l) e, ap (λ (z : List Place). order z e) s, least) in
      let u = value_up ln q.window_size (order (places_in ps p l) e) r L o most in
      omega (arith, a, b, c, g, w, v, u)

  pub ceiling_next : (next : ℕ) → next ≡ ceiling + value ln r - t → Capped q ps' (suc n) next 0 (suc n - low')
  ceiling_next next next_is =
      record {
        at = λ i a b. by i (suc n - i) refl a b;
      }
    where
      numbers : (g v c n t l l' f f' : ℕ) → g ≤ c + (l + f) + v → n ≡ c + v - t → l' ≡ l + t → f ≤ f' → g ≤ n + (l' + f')
      numbers g v c n t l l' f f' h1 h2 h3 h4 = omega arith

      one : (g v c n t l' f : ℕ) → g ≤ v → n ≡ c + v - t → l' ≡ t → g ≤ n + (l' + f)
      one g v c n t l' f h1 h2 h3 = omega arith

      by : (i p : ℕ) → p ≡ suc n - i → 0 < i → i ≤ 0 + (suc n - low') → gained q ps' (suc n) i ≤ next + loss_of q i
      by zero p e a b = absurd (let z : ⊥ = omega arith in z)
      by (suc zero) p e a b =
          let p_is : p ≡ n = omega arith in
          let g : gained q ps' (suc n) 1 ≡ gains ln (order_at ps') n 1 = ap (λ (k : ℕ). gains ln (order_at ps') k 1) (let z : suc n - 1 ≡ n = omega arith in z) in
          let j : gains ln (order_at ps') n (suc 0) ≤ gain ln (places_in ps n 0) + value ln r = joined n 0 (omega arith) (omega arith) in
          let k : gain ln (places_in ps n 0) ≡ 0 = ap (gain ln) (in_none ps n) in
          one (gained q ps' (suc n) 1) (value ln r) ceiling next t (1 * t) (get_or q.scoring.f.now 1 0) (omega (arith, g, j, k)) next_is (let z : 1 * t ≡ t = omega arith in z)
      by (suc (suc l)) p e a b =
          let k : ℕ = suc l in
          let at : p ≡ n - k = omega arith in
          let g : gained q ps' (suc n) (suc k) ≡ gains ln (order_at ps') p (suc k) = ap (λ (x : ℕ). gains ln (order_at ps') x (suc k)) (let z : suc n - suc k ≡ p = omega arith in z) in
          let j : gains ln (order_at ps') p (suc k) ≤ gain ln (places_in ps p k) + value ln r = joined p k (omega arith) (omega arith) in
          let o : gains ln (order_at ps) p k ≡ gain ln (places_in ps p k) = gains_are ln ps p k n (omega arith) (λ i x y. older i (omega arith) y) in
          let c : gained q ps n k ≤ ceiling + loss_of q k = C.at k (omega arith) (omega arith) in
          let d : gained q ps n k ≡ gains ln (order_at ps) p k = ap (λ (x : ℕ). gains ln (order_at ps) x k) (sym at) in
          let f = F.step k (omega arith) (omega arith) in
          numbers (gained q ps' (suc n) (suc k)) (value ln r) ceiling next t (k * t) (suc k * t) (get_or q.scoring.f.now k 0) (get_or q.scoring.f.now (suc k) 0) (omega (arith, g, j, o, c, d)) next_is
          (let z : suc k * t ≡ k * t + t = omega arith in z) f

-- ---- The stretches of a row.
module _ (q : Request) (cs : List ℕ) (row : Row) (letters : List ℕ) (R : RowOf q cs row letters) (kmer : 0 < q.kmer) (w : q.window_size ≤ 65535) (N : Narrow q.scoring.threshold q.scoring.ln.now q.scoring.f.now q.window_size)
    (ps : List LinkedPlace) (n N' low : ℕ) (N'_is : N' ≡ suc n) (inside : n < length letters) (low_is : low ≡ N' - min q.window_size (N' - row.skipped))
    (places_are : (p : ℕ) → p < N' → decode (entry_at ps p) ≡ place_at q.kmer letters p) (orders : (p : ℕ) → low ≤ p → p < N' → order_at ps p ≡ order_in ps p N') (few : (p : ℕ) → p < N' → order_at ps p ≤ q.window_size) where
  abbrev score : Stretch → ℤ
  score = score_of_codes q cs

  abbrev c : ℕ → Candidate
  c l = found q ps row.first N' l

  -- From its first place on, those of the row are those of the buffer.
  place_is : (i : ℕ) → row.skipped ≤ i → i < N' → decode (entry_at ps i) ≡ place_at q.kmer cs (row.first + i)
  place_is i h k =
      places_are i k
      ∙ ap (λ (s : List ℕ). place_at q.kmer s i) R.letters_are
      ∙ place_part cs row.first (length letters) q.kmer i (row.first + i) refl (omega arith) (λ z. let l = R.later z in omega arith)

  same_places : (p l a : ℕ) → a ≡ row.first + p → row.skipped ≤ p → p + l ≤ N' → places_in ps p l ≡ places_from q.kmer cs a l
  unfolding places_in places_from
  same_places p zero a e h k = refl
  same_places p (suc l) a e h k =
      ap₂ (λ (x : Place) (r : List Place). x ∷ r) (place_is p h (omega arith) ∙ ap (place_at q.kmer cs) (sym e)) (same_places (suc p) l (suc a) (omega arith) (omega arith) (omega arith))

  steps_in : (l : ℕ) → 0 < l → l ≤ N' - low → (l ≤ q.window_size) × (l + row.skipped ≤ N')
  steps_in l a b = (omega arith, omega arith)

  is : (l : ℕ) → 0 < l → l ≤ N' - low → Is (score (stretch_of (c l))) (c l).gain (c l).loss
  is l a b =
      let s = steps_in l a b in
      let s0 = s.0 in
      let s1 = s.1 in
      let within = R.inside in
      let p : ℕ = N' - l in
      let first : ℕ = row.first + p in
      let e : stretch (places q.kmer cs) first l ≡ places_from q.kmer cs first l = stretch_from q.kmer cs first l (omega arith) in
      let g : gained q ps N' l ≡ gain q.scoring.ln.now (places_from q.kmer cs first l) =
      gains_are q.scoring.ln.now ps p l N' (omega arith) (λ i x y. orders i (omega arith) y)
      ∙ ap (gain q.scoring.ln.now) (same_places p l first refl (omega arith) (omega arith)) in
      subst (λ (x : ℕ). Is (score (stretch_of (c l))) x (c l).loss) (sym g)
      (subst (λ (r : List Place). Is (score (stretch_of (c l))) (gain q.scoring.ln.now r) (c l).loss) e
      (score_is q.kmer q.scoring.threshold q.scoring.ln.now q.scoring.f.now cs (stretch_of (c l)) (ap (λ (r : List Place). length r) e ∙ from_length q.kmer cs first l)))

  exact : (l : ℕ) → 0 < l → l ≤ N' - low → Exact score (c l)
  exact l a b =
      let s = steps_in l a b in
      let s0 = s.0 in
      record {
        is = is_same (score (stretch_of (c l))) (pos (c l).gain -ℤ pos (c l).loss) (c l).gain (c l).loss (is l a b) (difference_is (c l).gain (c l).loss);
        gain_small = omega (arith, gains_small q ps N' N few (N' - l) l (omega arith));
        loss_small = loss_small q.scoring.threshold q.scoring.ln.now q.scoring.f.now q.window_size l N w a s0;
      }

  free : (l : ℕ) → 0 < l → l ≤ N' - low → lt_z (pos q.floor) (score (stretch_of (c l))) ≡ true → Eligible q cs (stretch_of (c l))
  free l a b high =
      let s = steps_in l a b in
      let s0 = s.0 in
      let s1 = s.1 in
      let within = R.inside in
      record {
        some = a;
        short = s0;
        within = omega arith;
        free = λ x d e. R.free x (by x d (lt_or_le 0 row.first)) (omega arith);
        high = high;
      }
    where
      by : (x : ℕ) → row.first + (N' - l) + 1 ≤ x + q.kmer → (0 < row.first) ⊎ (row.first ≤ 0) → row.first ≤ x
      by x d h = ⊎_elim (λ z. let k = R.later z in let s = (steps_in l a b).1 in omega arith) (λ z. omega arith) h

  most : row.before < N' → (s : Stretch) → EndsAt q cs (row.first + n) s → s.size ≤ N' - low
  most h s E =
      let ends = E.ends in
      let short = E.eligible.short in
      let some = E.eligible.some in
      let skip : s.size + row.skipped ≤ N' = by (lt_or_le 0 row.first) in
      omega arith
    where
      by : (0 < row.first) ⊎ (row.first ≤ 0) → s.size + row.skipped ≤ N'
      by z =
          ⊎_elim
          (λ (z : 0 < row.first).
          let ends = E.ends in
          let short = E.eligible.short in
          let some = E.eligible.some in
          let later = R.later z in
          ⊎_elim
          (λ (y : s.size + row.skipped ≤ N'). y)
          (λ (y : N' < s.size + row.skipped).
          let near : row.before < q.window_size + q.kmer = omega arith in
          let barred = R.edge z near in
          let unbarred = E.eligible.free (row.first - 1) (omega arith) (omega arith) in
          absurd (let v : ⊥ = omega arith in v))
          (le_or_lt (s.size + row.skipped) N'))
          (λ (z : row.first ≤ 0). let k = R.at_start (omega arith) in let ends = E.ends in omega arith)
          z

  pub row_end : (lo : ℕ) (o : Option Candidate) → row.before < N' → lo ≤ row.first + n → Picks score (EndsIn q cs lo (row.first + n)) o
      → Picks score (EndsIn q cs lo (row.first + N')) (offers q ps row.first N' o 0 (N' - low))
  row_end lo o h l p =
      end_joins q cs ps row.first N' lo (row.first + n) (N' - low) l exact (λ l a b. let s = (steps_in l a b).1 in omega arith) free (most h) (row.first + N') o (omega arith) p

-- ---- A row, place by place.
pub all_none : (n j : ℕ) → get_or (replicate n no_block) j no_block ≡ no_block
all_none zero j = refl
all_none (suc n) zero = refl
all_none (suc n) (suc j) = all_none n j

pub record Scanned (q : Request) (row : Row) (letters : List ℕ) (first best : Option Candidate) (n : ℕ) (kmer : Kmer) (ceiling : ℕ) (ps : List LinkedPlace) (nw : List ℕ) (bs : List Block) : Type 0 where
  pub kmer_is : kmer ≡ kmer_after q.kmer letters n
  pub linked : Linked q.window_size q.scoring.ln.now q.scoring.threshold (low_in_row row q.window_size n) n ps nw bs
  pub places_are : (p : ℕ) → p < n → decode (entry_at ps p) ≡ place_at q.kmer letters p
  pub capped : row.steady ≡ true → Capped q ps n ceiling 0 (n - low_in_row row q.window_size n)
  pub picks : (cs : List ℕ) (lo : ℕ) → RowOf q cs row letters → lo ≤ row.first + row.before → Picks (score_of_codes q cs) (EndsIn q cs lo (row.first + row.before)) first
      → Picks (score_of_codes q cs) (EndsIn q cs lo (row.first + max row.before n)) best

pub scanned_none : (q : Request) (row : Row) (letters : List ℕ) (first : Option Candidate) (kmer : Kmer) (ps : List LinkedPlace) (nw : List ℕ) (bs : List Block) → kmer ≡ no_letter → ((j : ℕ) → j < length bs → get_or bs j no_block ≡ no_block)
    → Scanned q row letters first first 0 kmer 0 ps nw bs
scanned_none q row letters first kmer ps nw bs e h =
    record {
      kmer_is = e ∙ kmer_none q.kmer letters;
      linked = record {
        chained = record { at = λ i a b. absurd (let z : ⊥ = omega arith in z) };
        newest = record { above = λ i a b. absurd (let z : ⊥ = omega arith in z); below = λ i a b. absurd (let z : ⊥ = omega arith in z); same = λ i a b. absurd (let z : ⊥ = omega arith in z) };
        orders = λ p a b. absurd (let z : ⊥ = omega arith in z);
        few = λ p a. absurd (let z : ⊥ = omega arith in z);
        blocked = blocked_none q.scoring.ln.now q.scoring.threshold (low_in_row row q.window_size 0) (order_at ps) bs h;
      };
      places_are = λ p a. absurd (let z : ⊥ = omega arith in z);
      capped = λ s. record { at = λ i a b. absurd (let z : ⊥ = omega arith in z) };
      picks = λ cs lo R h p. subst (λ (m : ℕ). Picks (score_of_codes q cs) (EndsIn q cs lo (row.first + m)) first) (let z : row.before ≡ max row.before 0 = omega arith in z) p;
    }

module _ (q : Request) (row : Row) (letters : List ℕ) (first best : Option Candidate) (n : ℕ) (kmer : Kmer) (ceiling : ℕ) (ps : List LinkedPlace) (nw : List ℕ) (bs : List Block) (S : Scanned q row letters first best n kmer ceiling ps nw bs)
    (inside : n < length letters) (some : 0 < q.kmer) (few : q.kmer ≤ 12) (w : q.window_size ≤ 65535) (N : Narrow q.scoring.threshold q.scoring.ln.now q.scoring.f.now q.window_size) where
  -- What `join` asks.
  pub join_linked : (low : ℕ) → low ≡ n + 1 - min q.window_size (n + 1 - row.skipped) → Linked q.window_size q.scoring.ln.now q.scoring.threshold low n ps nw bs
  join_linked low e =
      linked_from q.window_size q.scoring.ln.now q.scoring.threshold (low_in_row row q.window_size n) low n ps nw bs (omega arith) S.linked

  module _ (next : Kmer) (next_is : next ≡ rolled_on q.kmer kmer (get_or letters n 0)) where
    pub next_after : next ≡ kmer_after q.kmer letters (n + 1)
    next_after = kmer_next q.kmer letters n kmer S.kmer_is next inside next_is

    pub next_small : next.value < 16777216
    next_small = value_small q.kmer letters (n + 1) next next_after few

    pub entry_small : entry_of q.kmer next / 2 < 4 ^ q.kmer
    entry_small = entry_below q.kmer letters (n + 1) next next_after

    module _ (low entry order' : ℕ) (low_is : low ≡ n + 1 - min q.window_size (n + 1 - row.skipped)) (entry_is : entry ≡ entry_of q.kmer next) (ps' : List LinkedPlace) (nw' : List ℕ) (bs' : List Block)
        (L : Linked q.window_size q.scoring.ln.now q.scoring.threshold low (suc n) ps' nw' bs') (J : Joins entry n ps ps') (least : order (places_in ps low (n - low)) (decode entry) ≤ order') (most : order' ≤ q.window_size) where
      one : suc n ≡ n + 1
      one = omega arith

      pub linked_now : Linked q.window_size q.scoring.ln.now q.scoring.threshold low (n + 1) ps' nw' bs'
      linked_now = subst (λ (m : ℕ). Linked q.window_size q.scoring.ln.now q.scoring.threshold low m ps' nw' bs') one L

      places_now : (p : ℕ) → p < n + 1 → decode (entry_at ps' p) ≡ place_at q.kmer letters p
      places_now p h =
          ⊎_elim
          (λ (e : p ≡ n).
          subst (λ (i : ℕ). decode (entry_at ps' i) ≡ place_at q.kmer letters i) (sym e)
          (ap decode (J.new ∙ entry_is) ∙ entry_place q.kmer letters n next next_after))
          (λ (l : suc p ≤ n). ap decode (J.others p (λ z. let v : ⊥ = omega arith in v)) ∙ S.places_are p l)
          (eq-or-lt_of_le (let z : p ≤ n = omega arith in z))

      pub capped_now : row.steady ≡ true → Rises q.scoring.ln.now q.window_size → Rises q.scoring.f.now q.window_size → (c : ℕ) → c ≡ min ceiling high + value q.scoring.ln.now order' - q.scoring.threshold
          → Capped q ps' (n + 1) c 0 (n + 1 - low)
      capped_now s R F c c_is =
          subst (λ (m : ℕ). Capped q ps' m c 0 (m - low)) one
          (ceiling_next q ps ps' n (low_in_row row q.window_size n) low order' (min ceiling high) (4 ^ q.kmer) R F
          (λ p h. J.others p (λ z. let v : ⊥ = omega arith in v))
          S.linked.orders L.orders (omega arith) (omega arith)
          (λ p h. subst (BelowAt (4 ^ q.kmer)) (sym (places_now p (omega arith))) (place_below q.kmer letters p))
          (subst (λ (d : ℕ). order (places_in ps low (n - low)) (decode d) ≤ order') (sym J.new) least)
          most
          (record {
            at = λ i a b. let g = gains_small q ps n N S.linked.few (n - i) i (omega arith) in omega (arith, (S.capped s).at i a b);
          })
          c c_is)

      module _ (best' : Option Candidate) (ceiling' : ℕ) (bs'' : List Block) (early : n + 1 ≤ row.before → best' ≡ best) (late : row.before < n + 1 → best' ≡ offers q ps' row.first (n + 1) best 0 (n + 1 - low))
          (capped' : row.steady ≡ true → Capped q ps' (n + 1) ceiling' 0 (n + 1 - low)) (blocked' : Blocked q.scoring.ln.now q.scoring.threshold low (n + 1) (order_at ps') bs'') where
        pub scanned_more : Scanned q row letters first best' (n + 1) next ceiling' ps' nw' bs''
        scanned_more =
            record {
              kmer_is = next_after;
              linked = subst (λ (l : ℕ). Linked q.window_size q.scoring.ln.now q.scoring.threshold l (n + 1) ps' nw' bs'') low_is
                  (record { chained = linked_now.chained; newest = linked_now.newest; orders = linked_now.orders; few = linked_now.few; blocked = blocked' });
              places_are = places_now;
              capped = λ s. subst (λ (l : ℕ). Capped q ps' (n + 1) ceiling' 0 (n + 1 - l)) low_is (capped' s);
              picks = λ cs lo R h p.
                  ⊎_elim
                  (λ (z : n + 1 ≤ row.before).
                  subst (λ (m : ℕ). Picks (score_of_codes q cs) (EndsIn q cs lo (row.first + m)) best') (let y : max row.before n ≡ max row.before (n + 1) = omega arith in y)
                  (subst (λ (o : Option Candidate). Picks (score_of_codes q cs) (EndsIn q cs lo (row.first + max row.before n)) o) (sym (early z)) (S.picks cs lo R h p)))
                  (λ (z : row.before < n + 1).
                  subst (λ (m : ℕ). Picks (score_of_codes q cs) (EndsIn q cs lo (row.first + m)) best') (let y : n + 1 ≡ max row.before (n + 1) = omega arith in y)
                  (subst (λ (o : Option Candidate). Picks (score_of_codes q cs) (EndsIn q cs lo (row.first + (n + 1))) o) (sym (late z))
                  (row_end q cs row letters R some w N ps' n (n + 1) low (omega arith) inside low_is places_now linked_now.orders linked_now.few lo best z (omega arith)
                  (subst (λ (m : ℕ). Picks (score_of_codes q cs) (EndsIn q cs lo (row.first + m)) best) (let y : max row.before n ≡ n = omega arith in y) (S.picks cs lo R h p)))))
                  (le_or_lt (n + 1) row.before);
            }

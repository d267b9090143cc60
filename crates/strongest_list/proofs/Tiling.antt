-- What is known of tiles: after a search, of the best of all tiles, and after letters were barred.
use Rattle.std.proofs.Common.{◌≡◌, ℕ, zero, suc, ◌+◌, ◌-◌, ◌*◌, ◌/◌, ◌<◌, ◌≤◌, min, Bool, true, false, cond, ltb, leb, ◌&&◌, ◌||◌, List, [], ◌∷◌, length, get_or, set, Option, None, Some, ℤ, pos, ◌-ℤ◌, refl, sym, ap, ap₂, ◌∙◌, subst, arith, ⊎_elim, true≢false, eqb, mul-le-mul_right, mod-lt, eqb-true, length-set, get_or-set_same, get_or-set_other, ltb-true, ltb-false, leb-true, le-leb}
use lib.Signed.{lt_z, le_z}
use Rattle.std.proofs.lemmas.Nat.{div-add-mod'}
use borrow.Author.Tests.{eqb-false}
use Rattle.floats.proofs.Whole.{le_is}
use Rattle.strongest.proofs.Order.{difference_is, lt_is}
use Rattle.intervals.proofs.Order.{lt_or_le}
use Rattle.strongest_list.specs.declared.Request.{Request}
use Rattle.strongest_list.specs.declared.search.Candidate.{Candidate}
use Rattle.strongest_list.specs.declared.tiles.Tile.{Tile}
use Rattle.strongest_list.specs.Stretches.{Stretch, beats}
use Rattle.strongest_list.specs.Terms.Codes.{Bars}
use Rattle.strongest_list.specs.Terms.Best.{score_of_codes, Eligible, Before, Exact, Picks, stretch_of}
use Rattle.strongest_list.specs.Terms.Tiles.{span, true_score, Agrees, EndsIn, candidate_of, no_tile, tile_of, TileKnows, Knows, AllScored, AllFit, Top, stale_count, tile_beats, touches, staled, Staled}
use Rattle.strongest_list.proofs.Ranking.{below, above, not_beats, below_refl, below_trans}
use Rattle.strongest_list.proofs.Same.{scored_alike, eligible_alike, picks_true}
use Rattle.scans.proofs.Test.{neither}

abbrev stretch_in : Tile → Stretch
stretch_in t = stretch_of (candidate_of t)

-- ---- After a search.
pub searched : (q : Request) (cs : List ℕ) (lo hi : ℕ) (o : Option Candidate) → Agrees q cs → 0 < q.kmer → hi ≡ min (length cs) (lo + span q)
    → Picks (score_of_codes q cs) (EndsIn q cs lo hi) o → TileKnows q cs lo (lo + span q) (tile_of o)
searched q cs lo hi o G some h P = by o (picks_true q cs G some (EndsIn q cs lo hi) o (λ s e. e.eligible) P)
  where
    cut : (s : Stretch) → EndsIn q cs lo (lo + span q) s → EndsIn q cs lo hi s
    cut s e = record { eligible = e.eligible; from = e.from; to = omega (arith, e.to, e.eligible.within) }

    by : (o : Option Candidate) → Picks (true_score q) (EndsIn q cs lo hi) o → TileKnows q cs lo (lo + span q) (tile_of o)
    by None p =
        record {
          fits = omega arith;
          none = λ z s e. p.chosen s (cut s e);
          bound = λ z. absurd (let y : ⊥ = omega arith in y);
          fresh = λ z. absurd (let y : ⊥ = omega arith in y);
          exact = λ z. absurd (let y : ⊥ = omega arith in y);
        }
    by (Some c) p =
        let e = p.chosen.0 in
        let n = e.eligible.some in
        record {
          fits = e.eligible.within;
          none = λ z. absurd (let y : ⊥ = omega arith in y);
          bound = λ z s d. p.chosen.1 s (cut s d);
          fresh = λ z f. record { eligible = e.eligible; from = e.from; to = omega (arith, e.to) };
          exact = λ z. p.exact;
        }

-- ---- The test of two tiles.
pub tile_test : (q : Request) (x y : Tile) → Exact (true_score q) (candidate_of x) → Exact (true_score q) (candidate_of y) → beats (true_score q) (stretch_in x) (stretch_in y) ≡ tile_beats x y
tile_test q x y e g =
    let f : Stretch → ℤ = true_score q in
    let dx = difference_is x.gain x.loss in
    let dy = difference_is y.gain y.loss in
    ap₂ (λ (i j : ℤ). lt_z j i || (le_z j i && (ltb y.size x.size || (eqb y.size x.size && ltb x.first y.first)))) e.is g.is
    ∙ ap₂ (λ (a b : Bool). a || (b && (ltb y.size x.size || (eqb y.size x.size && ltb x.first y.first))))
    (lt_is (pos y.gain -ℤ pos y.loss) (pos x.gain -ℤ pos x.loss) y.gain y.loss x.gain x.loss dy dx)
    (le_is (pos y.gain -ℤ pos y.loss) (pos x.gain -ℤ pos x.loss) y.gain y.loss x.gain x.loss dy dx)

-- ---- Each end lies in a tile.
div_in : (b c : ℕ) → 0 < c → (b / c * c ≤ b) × (b < b / c * c + c)
div_in b c h = let e = div-add-mod' b c in let l = mod-lt b h in (omega arith, omega arith)

pub div_most : (t n c : ℕ) → 0 < c → t < n / c + 1 → t * c ≤ n
div_most t n c p h = let d = div_in n c p in let m : t * c ≤ n / c * c = mul-le-mul_right c (omega arith) in omega arith

div_below : (b n c : ℕ) → 0 < c → b < n → b / c < n / c + 1
div_below b n c p h =
    ⊎_elim (λ l. l)
    (λ l.
    let d = div_in b c p in
    let e = div_in n c p in
    let m : (n / c + 1) * c ≤ b / c * c = mul-le-mul_right c l in
    absurd (let z : ⊥ = omega arith in z))
    (lt_or_le (b / c) (n / c + 1))

-- ---- The best of all.
pub top_picks : (q : Request) (cs : List ℕ) (tiles : List Tile) (r : ℕ) → Knows q cs tiles → Top q tiles (length tiles) (length tiles) r
    → ltb r (length tiles) && (get_or tiles r no_tile).stale ≡ false
    → Picks (true_score q) (Before q cs (length cs)) (cond (ltb r (length tiles)) (Some (candidate_of (get_or tiles r no_tile))) None)
top_picks q cs tiles r K T f = by (ltb r (length tiles)) refl f
  where
    -- The tile of a stretch.
    tile : (s : Stretch) → ℕ
    tile s = (s.first + s.size - 1) / span q

    tile_low : (s : Stretch) → Before q cs (length cs) s → tile s < length tiles
    tile_low s e =
        let some = e.eligible.some in
        let w = e.eligible.within in
        omega (arith, div_below (s.first + s.size - 1) (length cs) (span q) (omega arith) (omega arith), K.count)

    tile_in : (s : Stretch) → Before q cs (length cs) s → EndsIn q cs (tile s * span q) (tile s * span q + span q) s
    tile_in s e =
        let some = e.eligible.some in
        let d = div_in (s.first + s.size - 1) (span q) (omega arith) in
        record { eligible = e.eligible; from = omega arith; to = omega arith }

    absent : r ≡ length tiles → (s : Stretch) → Before q cs (length cs) s → ⊥
    absent h s e = (K.at (tile s) (tile_low s e)).none (T.all_none h (tile s) (tile_low s e)) s (tile_in s e)

    best : Tile
    best = get_or tiles r no_tile

    under : (r ≡ length tiles → ⊥) → (s : Stretch) → Before q cs (length cs) s → beats (true_score q) s (stretch_in best) ≡ false
    under h s e =
        let u : ℕ = tile s in
        let k = K.at u (tile_low s e) in
        let x : Tile = get_or tiles u no_tile in
        ⊎_elim
        (λ (z : 0 < x.size).
        not_beats (true_score q) s (stretch_in best)
        (below_trans (true_score q) s (stretch_in x) (stretch_in best) (below (true_score q) s (stretch_in x) (k.bound z s (tile_in s e)))
        (below (true_score q) (stretch_in x) (stretch_in best) (T.unbeaten h u (tile_low s e) z))))
        (λ (z : x.size ≤ 0). absurd (k.none (omega arith) s (tile_in s e)))
        (lt_or_le 0 x.size)

    by : (t : Bool) → ltb r (length tiles) ≡ t → t && (get_or tiles r no_tile).stale ≡ false → Picks (true_score q) (Before q cs (length cs)) (cond t (Some (candidate_of (get_or tiles r no_tile))) None)
    by false e f =
        let l = ltb-false r (length tiles) e in
        record { chosen = none (eqb r (length tiles)) refl; exact = tt }
      where
        none : (t : Bool) → eqb r (length tiles) ≡ t → (s : Stretch) → Before q cs (length cs) s → ⊥
        none true g = absent (eqb-true r (length tiles) g)
        none false g = λ s d. let h = (T.some (eqb-false r (length tiles) g)).0 in let l = ltb-false r (length tiles) e in let z : ⊥ = omega arith in z
    by true e f =
        let l = ltb-true r (length tiles) e in
        let ne : r ≡ length tiles → ⊥ = λ g. let z : ⊥ = omega arith in z in
        let k = K.at r l in
        let size = (T.some ne).1 in
        let d = k.fresh size f in
        record { chosen = (record { eligible = d.eligible; ends = d.eligible.within }, under ne); exact = k.exact size }

-- ---- The search for it, tile by tile.
module _ (q : Request) (tiles : List Tile) (none : ℕ) where
  abbrev at : ℕ → Tile
  at u = get_or tiles u no_tile

  pub top_start : Top q tiles 0 none none
  top_start =
      record {
        all_none = λ e u h. absurd (let z : ⊥ = omega arith in z);
        some = λ h. absurd (h refl);
        unbeaten = λ h. absurd (h refl);
      }

  pub top_skip : (t m r : ℕ) → m ≡ t + 1 → (at t).size ≡ 0 → Top q tiles t none r → Top q tiles m none r
  top_skip t m r e z T =
      record {
        all_none = λ h u k. ⊎_elim (λ l. T.all_none h u l) (λ l. subst (λ (n : ℕ). (at n).size ≡ 0) (let y : t ≡ u = omega arith in y) z) (lt_or_le u t);
        some = λ h. let p = T.some h in (omega (arith, p.0), p.1);
        unbeaten = λ h u k p. ⊎_elim (λ l. T.unbeaten h u l p) (λ l. absurd (let y : t ≡ u = omega arith in let x = subst (λ (n : ℕ). (at n).size ≡ 0) y z in let w : ⊥ = omega arith in w)) (lt_or_le u t);
      }

  pub top_first : (t m r : ℕ) → m ≡ t + 1 → t < none → 0 < (at t).size → r ≡ none → Top q tiles t none r → Top q tiles m none t
  top_first t m r e l z d T =
      record {
        all_none = λ h. absurd (let y : ⊥ = omega arith in y);
        some = λ h. (omega arith, z);
        unbeaten = λ h u k p.
            ⊎_elim
            (λ i. absurd (let y = T.all_none d u i in let w : ⊥ = omega arith in w))
            (λ i. subst (λ (n : ℕ). beats (true_score q) (stretch_in (at n)) (stretch_in (at t)) ≡ false) (let y : t ≡ u = omega arith in y) (not_beats (true_score q) (stretch_in (at t)) (stretch_in (at t)) (below_refl (true_score q) (stretch_in (at t)))))
            (lt_or_le u t);
      }

  pub top_new : (t m r : ℕ) → m ≡ t + 1 → t < none → 0 < (at t).size → (r ≡ none → ⊥) → beats (true_score q) (stretch_in (at t)) (stretch_in (at r)) ≡ true → Top q tiles t none r → Top q tiles m none t
  top_new t m r e l z d b T =
      let f = true_score q in
      record {
        all_none = λ h. absurd (let y : ⊥ = omega arith in y);
        some = λ h. (omega arith, z);
        unbeaten = λ h u k p.
            ⊎_elim
            (λ i. not_beats f (stretch_in (at u)) (stretch_in (at t)) (below_trans f (stretch_in (at u)) (stretch_in (at r)) (stretch_in (at t)) (below f (stretch_in (at u)) (stretch_in (at r)) (T.unbeaten d u i p)) (above f (stretch_in (at t)) (stretch_in (at r)) b)))
            (λ i. subst (λ (n : ℕ). beats f (stretch_in (at n)) (stretch_in (at t)) ≡ false) (let y : t ≡ u = omega arith in y) (not_beats f (stretch_in (at t)) (stretch_in (at t)) (below_refl f (stretch_in (at t)))))
            (lt_or_le u t);
      }

  pub top_keep : (t m r : ℕ) → m ≡ t + 1 → (r ≡ none → ⊥) → beats (true_score q) (stretch_in (at t)) (stretch_in (at r)) ≡ false → Top q tiles t none r → Top q tiles m none r
  top_keep t m r e d b T =
      record {
        all_none = λ h. absurd (d h);
        some = λ h. let p = T.some h in (omega (arith, p.0), p.1);
        unbeaten = λ h u k p.
            ⊎_elim (λ i. T.unbeaten h u i p)
            (λ i. subst (λ (n : ℕ). beats (true_score q) (stretch_in (at n)) (stretch_in (at r)) ≡ false) (let y : t ≡ u = omega arith in y) b)
            (lt_or_le u t);
      }

-- ---- One tile searched.
pub all_scored : (q : Request) (cs : List ℕ) (tiles : List Tile) → Knows q cs tiles → AllScored q tiles
all_scored q cs tiles K = record { at = λ t h z. (K.at t h).exact z }

pub all_fit : (q : Request) (cs : List ℕ) (tiles : List Tile) → length cs ≤ 2147483647 → Knows q cs tiles → AllFit tiles
all_fit q cs tiles few K = record { at = λ t h. omega (arith, (K.at t h).fits) }

pub knows_set : (q : Request) (cs : List ℕ) (tiles : List Tile) (t : ℕ) (v : Tile) → t < length tiles → TileKnows q cs (t * span q) (t * span q + span q) v → Knows q cs tiles → Knows q cs (set tiles t v)
knows_set q cs tiles t v l k K =
    record {
      count = length-set tiles t v ∙ K.count;
      at = λ u h.
          by u (omega (arith, length-set tiles t v)) (eqb u t) refl;
    }
  where
    by : (u : ℕ) → u < length tiles → (b : Bool) → eqb u t ≡ b → TileKnows q cs (u * span q) (u * span q + span q) (get_or (set tiles t v) u no_tile)
    by u h true e =
        let same : t ≡ u = omega (arith, eqb-true u t e) in
        subst (λ (n : ℕ). TileKnows q cs (n * span q) (n * span q + span q) (get_or (set tiles t v) n no_tile)) same
        (subst (λ (x : Tile). TileKnows q cs (t * span q) (t * span q + span q) x) (sym (get_or-set_same tiles t v no_tile l)) k)
    by u h false e = subst (λ (x : Tile). TileKnows q cs (u * span q) (u * span q + span q) x) (sym (get_or-set_other tiles t u v no_tile (eqb-false u t e))) (K.at u h)

pub fewer_stale : (tiles : List Tile) (t : ℕ) (v : Tile) → t < length tiles → (get_or tiles t no_tile).stale ≡ true → v.stale ≡ false → stale_count (set tiles t v) < stale_count tiles
fewer_stale [] t v h e f = absurd (let z : ⊥ = omega arith in z)
fewer_stale (x ∷ xs) zero v h e f = rw (e, f) (omega arith)
fewer_stale (x ∷ xs) (suc t) v h e f = let r = fewer_stale xs t v (omega arith) e f in omega arith

-- ---- Letters barred, and the tiles marked.
module _ (q : Request) (cs cs' : List ℕ) (p e : ℕ) (some : 0 < q.kmer) (G : Agrees q cs) (G' : Agrees q cs') (same : length cs' ≡ length cs) (B : Bars (p - 1) (min (e + 1) (length cs)) cs cs') where
  abbrev barred : ℕ → Bool
  barred x = leb (p - 1) x && ltb x (min (e + 1) (length cs))

  kept : (x : ℕ) → get_or cs' x 5 < 5 → get_or cs x 5 < 5
  kept x h = by (barred x) (subst (λ (n : ℕ). n < 5) (B.at x) h)
    where
      by : (b : Bool) → cond b 5 (get_or cs x 5) < 5 → get_or cs x 5 < 5
      by true k = absurd (let z : ⊥ = omega arith in z)
      by false k = k

  fewer_eligible : (s : Stretch) → Eligible q cs' s → Eligible q cs s
  fewer_eligible s g =
      let w = g.within in
      let F : (x : ℕ) → s.first + 1 ≤ x + q.kmer → x < s.first + s.size → get_or cs x 5 < 5 = λ x h k. kept x (g.free x h k) in
      record {
        some = g.some;
        short = g.short;
        within = omega arith;
        free = F;
        high = ap (λ (z : ℤ). lt_z (pos q.floor) z) (sym (scored_alike q cs G some s g.some (omega arith) F) ∙ eligible_alike q cs' G' some s g) ∙ g.high;
      }

  still_eligible : (s : Stretch) → leb (s.first + 1 - q.kmer) e && leb p (s.first + s.size) ≡ false → Eligible q cs s → Eligible q cs' s
  still_eligible s t g =
      let w = g.within in
      let F : (x : ℕ) → s.first + 1 ≤ x + q.kmer → x < s.first + s.size → get_or cs' x 5 < 5 =
      λ x h k. subst (λ (n : ℕ). n < 5) (sym (B.at x ∙ ap (λ (b : Bool). cond b 5 (get_or cs x 5)) (by x h k (leb (p - 1) x) (ltb x (min (e + 1) (length cs))) refl refl))) (g.free x h k) in
      record {
        some = g.some;
        short = g.short;
        within = omega arith;
        free = F;
        high = ap (λ (z : ℤ). lt_z (pos q.floor) z) (sym (scored_alike q cs' G' some s g.some (omega arith) F) ∙ eligible_alike q cs G some s g) ∙ g.high;
      }
    where
      by : (x : ℕ) → s.first + 1 ≤ x + q.kmer → x < s.first + s.size → (a b : Bool) → leb (p - 1) x ≡ a → ltb x (min (e + 1) (length cs)) ≡ b → a && b ≡ false
      by x h k false b i j = refl
      by x h k true false i j = refl
      by x h k true true i j =
          let l = leb-true (p - 1) x i in
          let m = ltb-true x (min (e + 1) (length cs)) j in
          absurd (true≢false (sym (ap₂ (λ (y z : Bool). y && z) (le-leb (s.first + 1 - q.kmer) e (omega arith)) (le-leb p (s.first + s.size) (omega arith))) ∙ t))

  knows_staled : (lo hi : ℕ) (t : Tile) → TileKnows q cs lo hi t → TileKnows q cs' lo hi (staled q.kmer p e t)
  knows_staled lo hi t k =
      record {
        fits = omega (arith, k.fits);
        none = λ z s d. k.none z s (record { eligible = fewer_eligible s d.eligible; from = d.from; to = d.to });
        bound = λ z s d. k.bound z s (record { eligible = fewer_eligible s d.eligible; from = d.from; to = d.to });
        fresh = λ z f.
            let n = neither t.stale (touches q.kmer p e t) f in
            let d = k.fresh z n.0 in
            record { eligible = still_eligible (stretch_in t) n.1 d.eligible; from = d.from; to = d.to };
        exact = k.exact;
      }

  pub knows_barred : (tiles tiles' : List Tile) → Knows q cs tiles → Staled q.kmer p e tiles tiles' → Knows q cs' tiles'
  knows_barred tiles tiles' K S =
      record {
        count = S.long ∙ K.count ∙ ap (λ (n : ℕ). n / span q + 1) (sym same);
        at = λ u h.
            let l : u < length tiles = omega (arith, S.long) in
            subst (λ (x : Tile). TileKnows q cs' (u * span q) (u * span q + span q) x) (sym (S.at u l)) (knows_staled (u * span q) (u * span q + span q) (get_or tiles u no_tile) (K.at u l));
      }

-- ---- A stale top tile.
both : (a b : Bool) → a && b ≡ true → (a ≡ true) × (b ≡ true)
both true b e = (refl, e)
both false b e = absurd (true≢false (sym e))

pub stale_here : (tiles : List Tile) (t : ℕ) → ltb t (length tiles) && (get_or tiles t no_tile).stale ≡ true → (t < length tiles) × ((get_or tiles t no_tile).stale ≡ true)
stale_here tiles t e = let p = both (ltb t (length tiles)) (get_or tiles t no_tile).stale e in (ltb-true t (length tiles) p.0, p.1)

pub top_at : (q : Request) (ts : List Tile) (n m r : ℕ) → n ≡ m → Top q ts n n r → Top q ts m m r
top_at q ts n m r e T = subst (λ (j : ℕ). Top q ts j j r) e T

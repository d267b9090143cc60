-- Terms of contracts: the ends of a contig in tiles, and what is known of each.
use Rattle.std.specs.Prelude.{◌≡◌, ℕ, ◌+◌, ◌-◌, ◌*◌, ◌/◌, ◌≤◌, ◌<◌, Bool, false, ◌&&◌, ◌||◌, cond, List, [], ◌∷◌, ltb, leb, eqb, length, get_or, Option, None, Some, ℤ}
use Rattle.letters.specs.Code.{codes}
use Rattle.strongest_list.specs.declared.Request.{Request}
use Rattle.strongest_list.specs.declared.search.Candidate.{Candidate}
use Rattle.strongest_list.specs.declared.tiles.Tile.{Tile}
use Rattle.strongest_list.specs.Stretches.{Stretch, score, beats}
use Rattle.strongest_list.specs.Call.{asked_of}
use Rattle.strongest_list.specs.Terms.Best.{Eligible, stretch_of, Exact}

-- How many ends a tile has.
abbrev pub span : Request → ℕ
span q = q.window_size + 4096

-- The score by the sequence, which no barring changes.
abbrev pub true_score : Request → Stretch → ℤ
true_score q s = score (asked_of q) s

-- The letters that are not barred have the sequence's codes.
pub record Agrees (q : Request) (cs : List ℕ) : Type 0 where
  pub long : length cs ≡ length q.sequence.now
  pub at : (x : ℕ) → x < length cs → get_or cs x 5 < 5 → get_or cs x 5 ≡ get_or (codes q.sequence.now) x 4

-- It ends at one of the places lo .. hi - 1.
pub record EndsIn (q : Request) (cs : List ℕ) (lo hi : ℕ) (s : Stretch) : Type 0 where
  pub eligible : Eligible q cs s
  pub from : lo < s.first + s.size
  pub to : s.first + s.size ≤ hi

abbrev pub candidate_of : Tile → Candidate
candidate_of t = record { first = t.first; size = t.size; gain = t.gain; loss = t.loss }

abbrev pub no_tile : Tile
no_tile = record { first = 0; size = 0; gain = 0; loss = 0; stale = false }

abbrev pub tile_of : Option Candidate → Tile
tile_of None = no_tile
tile_of (Some c) = record { first = c.first; size = c.size; gain = c.gain; loss = c.loss; stale = false }

-- Of the free stretches that end in a tile: with no best there is none; none beats the best; one that is not stale is one of them.
pub record TileKnows (q : Request) (cs : List ℕ) (lo hi : ℕ) (t : Tile) : Type 0 where
  pub fits : t.first + t.size ≤ length cs
  pub none : t.size ≡ 0 → (s : Stretch) → EndsIn q cs lo hi s → ⊥
  pub bound : 0 < t.size → (s : Stretch) → EndsIn q cs lo hi s → beats (true_score q) s (stretch_of (candidate_of t)) ≡ false
  pub fresh : 0 < t.size → t.stale ≡ false → EndsIn q cs lo hi (stretch_of (candidate_of t))
  pub exact : 0 < t.size → Exact (true_score q) (candidate_of t)

pub record Knows (q : Request) (cs : List ℕ) (tiles : List Tile) : Type 0 where
  pub count : length tiles ≡ length cs / span q + 1
  pub at : (t : ℕ) → t < length tiles → TileKnows q cs (t * span q) (t * span q + span q) (get_or tiles t no_tile)

-- Each tile with a best has its exact score.
pub record AllScored (q : Request) (tiles : List Tile) : Type 0 where
  pub at : (t : ℕ) → t < length tiles → 0 < (get_or tiles t no_tile).size → Exact (true_score q) (candidate_of (get_or tiles t no_tile))

-- Of the first n tiles r is the one whose best no other beats; n0 if none has a best.
pub record Top (q : Request) (tiles : List Tile) (n none r : ℕ) : Type 0 where
  pub all_none : r ≡ none → (u : ℕ) → u < n → (get_or tiles u no_tile).size ≡ 0
  pub some : (r ≡ none → ⊥) → (r < n) × (0 < (get_or tiles r no_tile).size)
  pub unbeaten : (r ≡ none → ⊥) → (u : ℕ) → u < n → 0 < (get_or tiles u no_tile).size
      → beats (true_score q) (stretch_of (candidate_of (get_or tiles u no_tile))) (stretch_of (candidate_of (get_or tiles r no_tile))) ≡ false

-- There is a tile t, and it is stale.
abbrev pub stale_at : List Tile → ℕ → Bool
stale_at tiles t = ltb t (length tiles) && (get_or tiles t no_tile).stale

-- The best of tile t, none where there is no tile t.
abbrev pub best_at : List Tile → ℕ → Option Candidate
best_at tiles t = cond (ltb t (length tiles)) (Some (candidate_of (get_or tiles t no_tile))) None

-- How many are stale.
abbrev pub stale_count : List Tile → ℕ
stale_count [] = 0
stale_count (t ∷ ts) = cond t.stale 1 0 + stale_count ts

-- The test of two tiles, in naturals.
abbrev pub tile_beats : Tile → Tile → Bool
tile_beats x y = ltb (y.gain + x.loss) (x.gain + y.loss) || (leb (y.gain + x.loss) (x.gain + y.loss) && (ltb y.size x.size || (eqb y.size x.size && ltb x.first y.first)))

-- A tile's best that shares or touches letters p .. q - 1 makes it stale.
abbrev pub touches : ℕ → ℕ → ℕ → Tile → Bool
touches k p q t = leb (t.first + 1 - k) q && leb p (t.first + t.size)

abbrev pub staled : ℕ → ℕ → ℕ → Tile → Tile
staled k p q t = record { first = t.first; size = t.size; gain = t.gain; loss = t.loss; stale = t.stale || touches k p q t }

pub record Staled (k p q : ℕ) (ts ts' : List Tile) : Type 0 where
  pub long : length ts' ≡ length ts
  pub at : (u : ℕ) → u < length ts → get_or ts' u no_tile ≡ staled k p q (get_or ts u no_tile)

pub record AllFit (ts : List Tile) : Type 0 where
  pub at : (u : ℕ) → u < length ts → (get_or ts u no_tile).first + (get_or ts u no_tile).size ≤ 2147483647

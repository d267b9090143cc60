-- Terms of contracts: the best of a set of stretches, as a search has it at hand.
use Rattle.std.specs.Prelude.{◌≡◌, ℕ, ◌+◌, ◌≤◌, ◌<◌, true, false, List, length, get_or, Option, None, Some, option_map, ℤ, pos, ◌-ℤ◌}
use Rattle.std.specs.Int.Signed.{lt_z}
use Rattle.strongest.specs.Terms.Reading.{Narrow}
use Rattle.strongest_list.specs.declared.Request.{Request}
use Rattle.strongest_list.specs.declared.search.Candidate.{Candidate}
use Rattle.strongest_list.specs.Stretches.{Stretch, score_in, beats}

-- No stretch of the set P beats x; none at all is in P.
abbrev pub Chosen : (Stretch → ℤ) → (Stretch → Type 0) → Option Stretch → Type 0
Chosen score P None = (s : Stretch) → P s → ⊥
Chosen score P (Some x) = P x × ((s : Stretch) → P s → beats score s x ≡ false)

-- ---- What is asked of a buffer of codes.
abbrev pub score_of_codes : Request → List ℕ → Stretch → ℤ
score_of_codes q cs s = score_in q.kmer q.scoring.threshold q.scoring.ln.now q.scoring.f.now cs s

-- A stretch of 1 to w places, none of whose letters is barred, above the floor.
pub record Eligible (q : Request) (cs : List ℕ) (s : Stretch) : Type 0 where
  pub some : 0 < s.size
  pub short : s.size ≤ q.window_size
  pub within : s.first + s.size ≤ length cs
  pub free : (x : ℕ) → s.first + 1 ≤ x + q.kmer → x < s.first + s.size → get_or cs x 5 < 5
  pub high : lt_z (pos q.floor) (score_of_codes q cs s) ≡ true

-- It ends before place e; it ends at place b.
pub record Before (q : Request) (cs : List ℕ) (e : ℕ) (s : Stretch) : Type 0 where
  pub eligible : Eligible q cs s
  pub ends : s.first + s.size ≤ e

pub record EndsAt (q : Request) (cs : List ℕ) (b : ℕ) (s : Stretch) : Type 0 where
  pub eligible : Eligible q cs s
  pub ends : s.first + s.size ≡ b + 1

-- ---- What a search has at hand.
abbrev pub stretch_of : Candidate → Stretch
stretch_of c = record { first = c.first; size = c.size }

-- Gain and loss are below 2^53.
pub record Small (c : Candidate) : Type 0 where
  pub gain_small : c.gain < 9007199254740992
  pub loss_small : c.loss < 9007199254740992

pub record Exact (score : Stretch → ℤ) (c : Candidate) : Type 0 where
  pub is : score (stretch_of c) ≡ pos c.gain -ℤ pos c.loss
  pub gain_small : c.gain < 9007199254740992
  pub loss_small : c.loss < 9007199254740992

abbrev pub AllExact : (Stretch → ℤ) → Option Candidate → Type 0
AllExact score None = Unit {0}
AllExact score (Some c) = Exact score c

pub record Picks (score : Stretch → ℤ) (P : Stretch → Type 0) (o : Option Candidate) : Type 0 where
  pub chosen : Chosen score P (option_map stretch_of o)
  pub exact : AllExact score o

-- What the searches ask of a request.
pub record Searchable (q : Request) : Type 0 where
  pub kmer_low : 1 ≤ q.kmer
  pub kmer_high : q.kmer ≤ 12
  pub window_low : 0 < q.window_size
  pub window_high : q.window_size ≤ 65535
  pub narrow : Narrow q.scoring.threshold q.scoring.ln.now q.scoring.f.now q.window_size

-- What is written of a record's strongest stretches: a line each, by rank, below a head.
use Rattle.std.specs.Prelude.{◌≡◌, ℕ, ◌+◌, ◌-◌, ◌/◌, ◌*◌, ◌^◌, min, max, Bool, cond, ◌&&◌, List, [], ◌∷◌, ◌++◌, map, take, drop, length, get_or, ltb, leb, eqb, ℤ, pos, negsuc, Result, Ok, Err, Float}
use Rattle.std.specs.List.{count_by}
use Rattle.checks.specs.declared.refusal.Refusal.{Refusal}
use Rattle.checks.specs.Refusal.{number}
use Rattle.intervals.specs.declared.Interval.{Interval}
use Rattle.intervals.specs.Interval.{interval}
use Rattle.report.specs.Ascii.{ascii}
use Rattle.strongest_list.specs.Stretches.{Asked, Stretch, strongest}
use Rattle.strongest_list.specs.Call.{asked, letters_of, scores_of}
use Rattle.strongest_list.specs.Checks.{refusal}
use Rattle.ranking.specs.declared.ranker.Record.{Record}
use Rattle.ranking.specs.declared.ranker.Means.{Means}
use Rattle.ranking.specs.declared.ranker.Wanted.{Wanted}
use Rattle.ranking.specs.Text.{each, column, ten_thousandths, four_decimals}
use Rattle.ranking.specs.Units.{units}
use Rattle.ranking.specs.Kmers.{most_frequent}

-- ---- The head.
abbrev pub head : List ℕ
head = ascii "#name\tstart\tend\trank\tscore\tscore_a_place\tplaces\tregion_start\tregion_end\trank_in_region\tmost_frequent_kmer\tletters\n"

-- ---- A line: name, start, end; rank, score, score a place, places; the region's start and end, the rank within it;
-- the count of its most frequent k-mer, its first 40 letters.
abbrev pub place : List ℕ → Interval → List ℕ
place name i = name ++ (column i.start ++ column i.end)

-- How many k-mers the letters have: the places of the stretch, where it begins at letter 1 or later.
abbrev pub places_of : ℕ → Interval → ℕ
places_of k i = i.end + 1 - i.start - k

-- A score in units of 2^-32; none of a list is below 0.
abbrev pub amount : ℤ → ℕ
amount (pos n) = n
amount (negsuc n) = 0

abbrev pub scores : ℕ → ℕ → ℕ → List ℕ
scores rank score places =
    let m : ℕ = ten_thousandths score in
    column rank ++ (four_decimals m ++ (four_decimals (m / max places 1) ++ column places))

-- The first region that ends past letter x.
unfoldable pub region_at : List Interval → ℕ → Interval
region_at [] x = interval 0 0
region_at (i ∷ is) x = cond (ltb x i.end) i (region_at is x)

-- How many stretches of a list begin in the region.
abbrev pub begun_in : Interval → List Interval → ℕ
begun_in r is = count_by (λ i. leb r.start i.start && ltb i.start r.end) is

abbrev pub within : Interval → ℕ → List ℕ
within r rank = column r.start ++ (column r.end ++ column rank)

abbrev pub letters_in : List ℕ → Interval → List ℕ
letters_in sequence i = drop i.start (take i.end sequence)

-- By all its letters.
abbrev pub ending : ℕ → List ℕ → List ℕ
ending k letters = column (most_frequent k letters) ++ (ascii "\t" ++ (take 40 letters ++ ascii "\n"))

-- Of the stretch with index i, among all with their scores.
abbrev pub line : List ℕ → Asked → List Interval → List ℤ → ℕ → List ℕ
line name A is zs i =
    let here : Interval = get_or is i (interval 0 0) in
    let r : Interval = region_at A.regions here.start in
    place name here
    ++ (scores (i + 1) (amount (get_or zs i (pos 0))) (places_of A.kmer here)
    ++ (within r (begun_in r (take (i + 1) is)) ++ ending A.kmer (letters_in A.sequence here)))

-- ---- All lines, of at most N stretches.
unfoldable pub ranking : List ℕ → Asked → ℕ → List ℕ
ranking name A N =
    let found : List Stretch = strongest A N in
    each (line name A (letters_of A found) (scores_of A found)) (length found)

-- ---- What is asked of a record: its mask is the regions, or all its letters are one; more than 2,147,483,647 are refused.
abbrev pub regions : Bool → ℕ → List Interval → List Interval
regions whole n mask = cond whole (interval 0 (min n 2147483647) ∷ []) mask

-- By k, w, T and the tables of its mask.
abbrev pub asked_for : Wanted → ℕ → ℕ → Float → List Float → List Float → List ℕ → List Interval → Asked
asked_for wanted k w t ln f sequence mask =
    asked sequence k w (units t) (map units ln) (map units f) (regions wanted.whole (length sequence) mask) wanted.floor

abbrev pub asked_of : Wanted → Means → Record → Asked
asked_of wanted m r = asked_for wanted m.kmer m.window_size m.score_threshold m.ln.now m.f.now r.letters.now r.mask.now

-- N, or n if that is less: n letters never hold more than n stretches apart from each other.
abbrev pub most : Wanted → List ℕ → ℕ
most wanted sequence = min wanted.most (length sequence)

-- Buffers of the listed sizes, by k and w within their bounds; the number of the first check that fails, 0 if none does.
abbrev pub refusal_of : Asked → ℕ
refusal_of A =
    let n : ℕ = length A.sequence in
    let k : ℕ = min A.kmer 12 in
    let w : ℕ = min A.window_size 65535 in
    refusal A n (4 ^ k) (2 * w + 4096 + k) (n / (w + 4096) + 1)

-- The lines of a record; none where it is refused.
abbrev pub listing : List ℕ → Asked → ℕ → List ℕ
listing name A N = cond (eqb (refusal_of A) 0) (ranking name A N) []

-- What a record is answered, and what stands in the text then.
pub record Ranked (name : List ℕ) (A : Asked) (N : ℕ) (before after : List ℕ) : Type 0 where
  pub accepted : refusal_of A ≡ 0
  pub appended : after ≡ before ++ ranking name A N

pub record Refused (A : Asked) (r : Refusal) (before after : List ℕ) : Type 0 where
  pub refused : refusal_of A ≡ number r
  pub unchanged : after ≡ before

abbrev pub Answers : List ℕ → Asked → ℕ → List ℕ → List ℕ → Result Unit Refusal → Type 0
Answers name A N before after (Ok _) = Ranked name A N before after
Answers name A N before after (Err r) = Refused A r before after

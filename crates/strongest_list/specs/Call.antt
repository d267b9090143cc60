-- What is asked, and what an accepted request answers.
use Rattle.std.specs.Prelude.{List, ℕ, ℤ, min, length, map}
use Rattle.intervals.specs.declared.Interval.{Interval}
use Rattle.strongest_list.specs.declared.Request.{Request}
use Rattle.strongest_list.specs.Stretches.{Asked, Stretch, letters, score, strongest}

abbrev pub asked : List ℕ → ℕ → ℕ → ℕ → List ℕ → List ℕ → List Interval → ℕ → Asked
asked sequence kmer window_size threshold ln f regions floor =
    record {
      sequence = sequence;
      kmer = kmer;
      window_size = window_size;
      threshold = threshold;
      ln = ln;
      f = f;
      regions = regions;
      floor = floor;
    }

abbrev pub asked_of : Request → Asked
asked_of q = asked q.sequence.now q.kmer q.window_size q.scoring.threshold q.scoring.ln.now q.scoring.f.now q.regions.now q.floor

-- The entries, where lists of so many letters and scores are lent: N is the length of the shorter.
abbrev pub entries : Asked → List Interval → List ℤ → List Stretch
entries A list scores = strongest A (min (length list) (length scores))

-- Their letters, and their scores, in the order found.
abbrev pub letters_of : Asked → List Stretch → List Interval
letters_of A found = map (letters A.kmer) found

abbrev pub scores_of : Asked → List Stretch → List ℤ
scores_of A found = map (score A) found

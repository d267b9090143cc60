-- What is asked, what an accepted request answers, and what it leaves in the lent buffers.
use Rattle.std.specs.Prelude.{◌≡◌, List, ℕ, ◌^◌, length}
use Rattle.buffers.specs.Free.{Free}
use Rattle.strongest.specs.declared.Request.{Request}
use Rattle.strongest.specs.declared.Strongest.{Strongest}
use Rattle.strongest.specs.Strongest.{Asked, steps, start, best_score, gap}

abbrev pub asked : List ℕ → ℕ → ℕ → ℕ → ℕ → ℕ → List ℕ → List ℕ → Asked
asked sequence kmer window_size place budget threshold ln f =
    record {
      sequence = sequence;
      kmer = kmer;
      window_size = window_size;
      place = place;
      budget = budget;
      threshold = threshold;
      ln = ln;
      f = f;
    }

abbrev pub asked_of : Request → Asked
asked_of q = asked q.sequence.now q.kmer q.window_size q.place q.budget q.scoring.threshold q.scoring.ln.now q.scoring.f.now

-- Codes and scan counts hold free content within the listed sizes.
pub record Found (Q : Asked) (cs cs' counts counts' : List ℕ) (r : Strongest) : Type 0 where
  pub start : r.start ≡ start Q
  pub score : r.score ≡ best_score Q
  pub steps : r.steps ≡ steps Q
  pub gap : r.gap ≡ gap Q
  pub codes : Free (length Q.sequence) cs cs'
  pub scan_counts : Free (4 ^ Q.kmer) counts counts'

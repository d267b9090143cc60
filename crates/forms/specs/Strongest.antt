-- The strongest stretches of a record: a line each, by rank, below a head.
use Rattle.std.specs.Prelude.{ℕ, List}
use Rattle.intervals.specs.declared.Interval.{Interval}
use Rattle.longdust.specs.declared.LongdustOptions.{LongdustOptions}
use Rattle.masker.specs.Run.{ln_of, f_of}
use Rattle.ranking.specs.declared.ranker.Wanted.{Wanted}
use Rattle.ranking.specs.Ranking.{asked_for, listing, most}

-- Of letters s with this mask, by the k, w, T and tables of its masker.
unfoldable pub strongest_lines : LongdustOptions → Wanted → (name s : List ℕ) → List Interval → List ℕ
strongest_lines o wanted name s mask = listing name (asked_for wanted o.kmer o.window_size o.score_threshold (ln_of o) (f_of o s) s mask) (most wanted s)

-- The first n places joined, and the ends among them were searched.
use Rattle.strongest_list.proofs.Scanning.{Scanned}
use Rattle.strongest_list.proofs.rows.search_row.Given as goal

abbrev pub invariant-loop-n : goal.invariant-loop-n
invariant-loop-n l = Scanned l.request l.row l.letters l.fn.best l.reached.best l.n l.kmer l.reached.ceiling l.places l.newest l.blocks

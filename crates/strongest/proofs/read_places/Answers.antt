-- The letters are encoded over the front of the buffer, and the search goes over that front.
use Rattle.std.proofs.Common.{ℕ, List, subst, arith}
use Rattle.buffers.proofs.Lent.{part_free, free_at}
use Rattle.strongest.specs.Terms.Reading.{Reads}
use Rattle.strongest.proofs.Answers.{front_codes, front_free}
use Rattle.strongest.proofs.read_places.Goals as goal

pub returns : goal.returns
returns c =
    let a = c.args in
    let p = c.requires in
    let m = c.min-m in
    let e = c.encode_sequence in
    let r = c.search_back in
    record {
      reads = subst (λ (l : List ℕ). Reads a.request.now.kmer a.request.now.scoring.threshold a.request.now.scoring.ln.now a.request.now.scoring.f.now l a.steps r.result)
          (front_codes a.request.now.sequence.now a.codes.now e.new.encoded a.request.now.kmer a.end a.steps m.result m.ensures p.end_inside p.codes_room e.ensures) r.ensures;
      codes = front_free a.request.now.sequence.now a.codes.now e.new.encoded a.request.now.kmer a.end a.steps m.result m.ensures p.end_inside p.codes_room e.ensures;
      scan_counts = free_at _ _ _ _ c.n_kmers-size.ensures
          (part_free c.n_kmers-size.result a.scan_counts.now r.new.counts (omega (arith, c.n_kmers-size.ensures, p.counts_room)) r.auto.counts);
    }

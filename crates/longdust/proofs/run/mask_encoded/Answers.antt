use Rattle.std.proofs.Common.{◌+◌, arith, length-take-le}
use Rattle.longdust.proofs.Setups.{prepared_kmer, prepared_window}
use Rattle.longdust.proofs.Parts.{forward_room, reverse_room, out_room}
use Rattle.longdust.proofs.Answers.{ran}
use Rattle.longdust.proofs.run.mask_encoded.Goals as goal

pub both_strands-count-requires-clause-runs : goal.both_strands-count-requires-clause-runs
both_strands-count-requires-clause-runs c =
    let q = c.prepare.ensures in
    let w = c.args.options.window_size in
    let b = c.requires.bounds in
    let g = c.requires.enough in
    record {
      kmer_some = omega (arith, prepared_kmer q, b.kmer_low);
      kmer_small = omega (arith, prepared_kmer q, b.kmer_high);
      letters_in = omega (arith, c.requires.letters_high);
      wide = omega (arith, prepared_window q, b.window_low, b.kmer_low);
      small = omega (arith, prepared_window q, b.window_high);
      ln_long = omega (arith, prepared_window q, length-take-le (w + 1) c.args.tables.now.ln.now g.ln, g.ln);
      f_long = omega (arith, prepared_window q, length-take-le (w + 2) c.args.tables.now.f.now g.f, g.f);
      shaped = q.shaped;
    }

pub both_strands-count-requires-clause-forward_room : goal.both_strands-count-requires-clause-forward_room
both_strands-count-requires-clause-forward_room c =
    let q = c.prepare.ensures in
    let A = c.args in
    forward_room A.options _ c.prepare.result (prepared_kmer q) (prepared_window q) A.tables.now.ln.now A.tables.now.f.now A.codes.now A.work.now A.out.now c.requires

pub both_strands-count-requires-clause-reverse_room : goal.both_strands-count-requires-clause-reverse_room
both_strands-count-requires-clause-reverse_room c =
    let q = c.prepare.ensures in
    let A = c.args in
    reverse_room A.options _ c.prepare.result (prepared_kmer q) (prepared_window q) A.tables.now.ln.now A.tables.now.f.now A.codes.now A.work.now A.out.now c.requires

pub both_strands-count-requires-clause-room : goal.both_strands-count-requires-clause-room
both_strands-count-requires-clause-room c =
    let q = c.prepare.ensures in
    let A = c.args in
    out_room A.options _ c.prepare.result (prepared_kmer q) (prepared_window q) A.tables.now.ln.now A.tables.now.f.now A.codes.now A.work.now A.out.now c.requires

pub returns-clause-ran : goal.returns-clause-ran
returns-clause-ran c =
    let q = c.prepare in
    let g = c.in_range-in_range in
    let h = c.both_strands-count in
    let A = c.args in
    ran A.options A.tables.now.ln.now A.tables.now.f.now A.codes.now A.work.now h.new.work A.out.now h.new.out c.requires q.result q.ensures g.result g.ensures h.result h.ensures.mask h.ensures.freed

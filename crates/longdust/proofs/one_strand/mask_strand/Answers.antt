use Rattle.std.proofs.Common.{◌+◌, arith, refl, length-take-le}
use Rattle.longdust.proofs.Setups.{prepared_kmer, prepared_window}
use Rattle.longdust.proofs.Alone.{codes_taken, room_alone, ran_alone}
use Rattle.longdust.proofs.one_strand.mask_strand.Goals as goal

pub strand_list-count-requires-clause-runs : goal.strand_list-count-requires-clause-runs
strand_list-count-requires-clause-runs c =
    let q = c.prepare.ensures in
    let w = c.args.options.window_size in
    let b = c.requires.bounds in
    let g = c.requires.enough in
    let n = codes_taken _ _ _ c.requires _ q in
    record {
      kmer_some = omega (arith, prepared_kmer q, b.kmer_low);
      kmer_small = omega (arith, prepared_kmer q, b.kmer_high);
      letters_in = omega (arith, n, c.requires.letters_high);
      wide = omega (arith, prepared_window q, b.window_low, b.kmer_low);
      small = omega (arith, prepared_window q, b.window_high);
      ln_long = omega (arith, prepared_window q, length-take-le (w + 1) c.args.tables.now.ln.now g.ln, g.ln);
      f_long = omega (arith, prepared_window q, length-take-le (w + 2) c.args.tables.now.f.now g.f, g.f);
      shaped = q.shaped;
    }

pub strand_list-count-requires-clause-room : goal.strand_list-count-requires-clause-room
strand_list-count-requires-clause-room c = room_alone _ _ _ c.requires _ c.prepare.ensures

pub returns-clause-ran : goal.returns-clause-ran
returns-clause-ran c =
    let h = c.strand_list-count in
    let e = h.ensures in
    ran_alone _ _ _ c.requires _ c.prepare.ensures _ _ _ c.in_range-in_range.ensures e.list refl e.rows e.queue e.window_counts e.scan_counts e.candidates

use Rattle.std.specs.Prelude.{◌≡◌, map, IfSome}
use Rattle.entries.proofs.Whole.{Going}
use Rattle.entries.proofs.records.put_records.Given as goal

abbrev pub invariant-loop : goal.invariant-loop
invariant-loop g l = record {
  report : g.T.Recorder.report l.recorder ≡ g.T.Recorder.report l.initial.recorder;
  going : IfSome (g.R.Read.remaining l.initial.reader)
      (λ xs. Going (g.T.Recorder.report l.initial.recorder) l.cr (map (λ w. g.W.Write.contents w) l.initial.outs) (g.N.Write.contents l.initial.notes) l.initial.sums
      xs (g.R.Read.remaining l.reader) (map (λ w. g.W.Write.contents w) l.outs) (g.N.Write.contents l.notes) l.sums);
}

use Rattle.std.proofs.Common.{◌≡◌, ◌≤◌, ◌++◌, length, take}
use Rattle.contigs_text.specs.Text.{mask_lines}
use Rattle.contigs_text.proofs.lines.add_lines.Given as goal

abbrev pub invariant-loop-interval : goal.invariant-loop-interval
invariant-loop-interval l = record {
  inside : l.interval-index ≤ length l.list;
  text : l.text.items ≡ l.initial.text.items ++ mask_lines l.name (take l.interval-index l.list);
}

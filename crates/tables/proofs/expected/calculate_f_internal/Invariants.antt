-- what is left of the classes
use Rattle.std.proofs.Common.{◌≡◌, ◌-◌}
use Rattle.tables.specs.F.{classes_from, f_of}
use Rattle.tables.proofs.expected.calculate_f_internal.Given as goal

abbrev pub invariant-loop-i : goal.invariant-loop-i
invariant-loop-i l = classes_from (l.d.classes - l.i) l.i l.d l.share l.accum ≡ f_of l.k l.d l.l

-- The letters before x are barred.
use Rattle.strongest_list.specs.Terms.Codes.{AllBarred}
use Rattle.strongest_list.proofs.search.free_on.Given as goal

abbrev pub invariant-loop-x : goal.invariant-loop-x
invariant-loop-x l = AllBarred l.codes l.from l.x

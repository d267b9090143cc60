use Rattle.std.proofs.Common.{rules}
use Rattle.std.proofs.lemmas.List.Sorted.{IsPartitionPoint-from_clause}
use Rattle.intervals.specs.Terms.Leading.{ends_by}
use Rattle.questions.proofs.Searching.{of_test, ended_first, past_found}
use Rattle.forms.proofs.masked.Mask.first_past.Goals as goal

pub returns : goal.returns
returns c =
    let P = c.partition_point in
    past_found _ _ (of_test _ c.args.self.now.usual) _ P.ensures.bound
    (IsPartitionPoint-from_clause (ends_by c.args.x) _ _ P.ensures.partitioned (ended_first _ _ (of_test _ c.args.self.now.usual)) (λ a r q k. search rules))

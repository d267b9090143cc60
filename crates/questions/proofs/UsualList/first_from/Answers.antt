use Rattle.std.proofs.Common.{rules}
use Rattle.std.proofs.lemmas.List.Sorted.{IsPartitionPoint-from_clause}
use Rattle.questions.specs.Terms.Found.{begins_before}
use Rattle.questions.proofs.Searching.{of_test, started_first, from_found}
use Rattle.questions.proofs.UsualList.first_from.Goals as goal

pub returns : goal.returns
returns c =
    let P = c.partition_point in
    from_found _ _ (of_test _ c.args.self.now.usual) _ P.ensures.bound
    (IsPartitionPoint-from_clause (begins_before c.args.x) _ _ P.ensures.partitioned (started_first _ _ (of_test _ c.args.self.now.usual)) (λ a r q k. search rules))

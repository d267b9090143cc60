use Rattle.std.proofs.Common.{◌≡◌, ◌∙◌, length, rules}
use lib.Seq.{take_at}
use Rattle.strongest_list.specs.Call.{asked_of}
use Rattle.ranking.proofs.Listing.{lines_of_found}
use Rattle.ranking.proofs.work.Work.add_ranking.Goals as goal

pub returns-in_ok-add_lines-in-Ok : goal.returns-in_ok-add_lines-in-Ok
returns-in_ok-add_lines-in-Ok c =
    let a : length c.as_mut_slice-5.result.now ≡ c.args.most = search rules in
    let b : length c.as_mut_slice-6.result.now ≡ c.args.most = search rules in
    let m : length c.strongest_stretches-found.new.letters ≡ c.fit.new.self.letters.len = search rules in
    let n : length c.strongest_stretches-found.new.scores ≡ c.fit.new.self.scores.len = search rules in
    let l : c.as_slice.result.now ≡ c.strongest_stretches-found.new.letters = c.as_slice.ensures.value ∙ take_at _ _ _ m in
    let z : c.as_slice-in-Ok.result.now ≡ c.strongest_stretches-found.new.scores = c.as_slice-in-Ok.ensures.value ∙ take_at _ _ _ n in
    record {
      accepted = search rules;
      appended =
          lines_of_found c.args.name.now (asked_of c.args.request.now) c.args.most _ _ c.as_slice.result.now _ _ c.as_slice-in-Ok.result.now c.in-Ok.count _ _ a b
          c.in-Ok.ensures.count c.in-Ok.ensures.letters c.in-Ok.ensures.scores l z c.in_ok-add_lines-in-Ok.ensures;
    }

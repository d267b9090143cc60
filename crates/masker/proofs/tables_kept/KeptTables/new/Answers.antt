use Rattle.std.proofs.Common.{◌≡◌, ◌+◌, length, ◌∙◌, rules}
use lib.Seq.{take_at}
use Rattle.masker.proofs.Called.{tables_for, none_served}
use Rattle.masker.proofs.tables_kept.KeptTables.new.Goals as goal

pub returns-then-not-serves_all : goal.returns-then-not-serves_all
returns-then-not-serves_all c = none_served c.args.options _ _ (search rules)

pub returns : goal.returns
returns c = λ s h.
    let l : length c.as_mut_slice.result.now ≡ c.args.options.window_size + 1 = search rules in
    let m : length c.as_mut_slice-2.result.now ≡ c.args.options.window_size + 2 = search rules in
    let T = tables_for c.args.options _ _ _ _ l m c.fill_tables.ensures.ln_after c.fill_tables.ensures.f_after s h in
    let a : length c.fill_tables.new.ln ≡ c.resize.new.self.len = search rules in
    let b : length c.fill_tables.new.f ≡ c.resize-2.new.self.len = search rules in
    (take_at _ _ _ a ∙ T.0, take_at _ _ _ b ∙ T.1)

use Rattle.std.proofs.Common.{◌∙◌, sym, rules}
use Rattle.masker.proofs.First.{accepted_bounds}
use Rattle.masker.proofs.masker.Masker.mask.Goals as goal

pub most_rows-rows-requires : goal.most_rows-rows-requires
most_rows-rows-requires c = (search rules, (accepted_bounds c.args.self.now.options c.args.letters.now (sym c.in_default.ensures)).0)

pub fit-requires-clause-bounds : goal.fit-requires-clause-bounds
fit-requires-clause-bounds c = accepted_bounds c.args.self.now.options c.args.letters.now (sym c.in_default.ensures)

pub mask_by-requires-clause-tables : goal.mask_by-requires-clause-tables
mask_by-requires-clause-tables c = λ s h.
    let T = c.args.self.now.for_all s h in (c.as_slice.ensures.value ∙ T.0, c.as_slice-then-serves_all.ensures.value ∙ T.1)

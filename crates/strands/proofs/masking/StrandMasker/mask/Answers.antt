use Rattle.std.proofs.Common.{sym, subst, rules}
use Rattle.longdust.specs.declared.LongdustOptions.{LongdustOptions}
use Rattle.masker.proofs.First.{accepted_bounds}
use Rattle.strands.specs.Terms.Room.{Few}
use Rattle.strands.proofs.masking.StrandMasker.mask.Goals as goal

pub most_rows-rows-requires : goal.most_rows-rows-requires
most_rows-rows-requires c = (search rules, (accepted_bounds c.args.self.now.options c.args.letters.now (sym c.in_default.ensures)).0)

pub fit-requires : goal.fit-requires
fit-requires c = let b = accepted_bounds c.args.self.now.options c.args.letters.now (sym c.in_default.ensures) in record { kmer = b.0; window = b.1 }

pub mask_fitted-requires-clause-few : goal.mask_fitted-requires-clause-few
mask_fitted-requires-clause-few c =
    let b = accepted_bounds c.args.self.now.options c.args.letters.now (sym c.in_default.ensures) in
    subst (λ (o : LongdustOptions). Few o) (sym c.fit.ensures.options) (record { kmer = b.0; window = b.1 })

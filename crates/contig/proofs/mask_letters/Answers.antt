use Rattle.std.proofs.Common.{◌≡◌, ap, ◌∙◌, List, arith, Float, take, take_at}
use lib.ListN.{length-replicate}
use Rattle.floats.specs.Binary64.{zero64}
use Rattle.tables.specs.Density.{uniform}
use Rattle.tables.specs.Tables.{ln_table, f_table}
use Rattle.tables.proofs.Tables.{ln_table_length, f_table_length}
use Rattle.contig.proofs.Run.{refusal_here, mask_here, kmer_here}
use Rattle.contig.proofs.mask_letters.Goals as goal
use Rattle.contig.proofs.mask_letters.Goals.{After-fill_uniform}

-- `mask_letters` meets its contract: what the masking call says of such tables and such sizes.
pub returns-clause-refusal : goal.returns-clause-refusal
returns-clause-refusal c =
    c.process_in.ensures.refusal
    ∙ refusal_here c.default-options.ensures c.args.letters.now _ _ c.args.list.now
    (omega (arith, c.fill_uniform.auto.ln, length-replicate 5001 zero64)) (omega (arith, c.fill_uniform.auto.f, length-replicate 5002 zero64)) c.requires

ln_front : (c : After-fill_uniform) → take 5001 c.fill_uniform.new.ln ≡ ln_table 5000
ln_front c = ap (λ (l : List Float). take 5001 l) c.fill_uniform.ensures.ln_after ∙ take_at (ln_table 5000) _ 5001 (ln_table_length 5000)

f_front : (c : After-fill_uniform) → take 5002 c.fill_uniform.new.f ≡ f_table 7 5000 (uniform 7)
f_front c =
    ap (λ (l : List Float). take 5002 l) c.fill_uniform.ensures.f_after ∙ take_at (f_table 7 5000 (uniform 7)) _ 5002 (f_table_length 7 5000 (uniform 7))

pub returns-clause-list : goal.returns-clause-list
returns-clause-list c =
    let t = (goal.at.returns-clause-list c).After-fill_uniform in
    rw (mask_here c.default-options.ensures c.args.letters.now _ _ (ln_front t) (f_front t)) at c.process_in.ensures.list

pub returns-clause-shape : goal.returns-clause-shape
returns-clause-shape c =
    let t = (goal.at.returns-clause-shape c).After-fill_uniform in
    rw (mask_here c.default-options.ensures c.args.letters.now _ _ (ln_front t) (f_front t), kmer_here c.default-options.ensures c.args.letters.now)
    at c.process_in.ensures.shape

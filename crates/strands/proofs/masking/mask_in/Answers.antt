use Rattle.std.proofs.Common.{ap, sym, ◌∙◌, rules, List, ℕ}
use Rattle.buffers.proofs.Filling.{put_all}
use Rattle.letters.specs.Code.{codes}
use Rattle.letters.proofs.Codes.{codes_length}
use Rattle.tables.specs.Density.{density}
use Rattle.tables.specs.Tables.{f_table}
use Rattle.tables.proofs.Tables.{ln_table_length, f_table_length}
use Rattle.strands.proofs.Called.{refused, accepted}
use Rattle.strands.proofs.masking.mask_in.Goals as goal

pub returns-in-Ok-clause-masks : goal.returns-in-Ok-clause-masks
returns-in-Ok-clause-masks c =
    let R = c.requires.sized in
    let o = c.args.options in
    let s = c.args.letters.now in
    let cs = c.encode_sequence.ensures ∙ put_all (codes s) _ (R.codes ∙ sym (codes_length s)) in
    accepted o c.args.reverse s _ _
    (record { ln = search rules; f = search rules; queue = search rules; window_counts = search rules; scan_counts = search rules; candidates = search rules; codes = search rules; list = search rules })
    c.in-Ok.answer c.in-Ok.ensures.answered
    (c.fill_tables.ensures.ln_after ∙ put_all _ _ (R.ln ∙ sym (ln_table_length o.window_size)))
    (c.fill_tables.ensures.f_after
    ∙ put_all _ _ (R.f ∙ sym (f_table_length o.kmer o.window_size (density o.kmer o.gc c.encode_sequence.new.encoded)))
    ∙ ap (λ (l : List ℕ). f_table o.kmer o.window_size (density o.kmer o.gc l)) cs)

pub returns-in-Err-clause-masks : goal.returns-in-Err-clause-masks
returns-in-Err-clause-masks c =
    refused c.args.options c.args.reverse c.args.letters.now _ _
    (record { ln = search rules; f = search rules; queue = search rules; window_counts = search rules; scan_counts = search rules; candidates = search rules; codes = search rules; list = search rules })
    c.in-Err.refusal c.in-Err.ensures.answered

use Rattle.std.proofs.Common.{◌∙◌}
use Rattle.short_sequences.proofs.Runs.{refusal_short, mask_short, kmer_short}
use Rattle.short_sequences.proofs.mask_letters.Goals as goal

pub returns-clause-refusal : goal.returns-clause-refusal
returns-clause-refusal c =
    c.process_in.ensures.refusal ∙ refusal_short c.short_options.ensures c.requires.tables _ c.args.list.now c.requires.room

pub returns-clause-list : goal.returns-clause-list
returns-clause-list c = rw (mask_short c.short_options.ensures c.requires.tables c.args.letters.now) at c.process_in.ensures.list

pub returns-clause-shape : goal.returns-clause-shape
returns-clause-shape c =
    rw (mask_short c.short_options.ensures c.requires.tables c.args.letters.now, kmer_short c.short_options.ensures c.requires.tables c.args.letters.now)
    at c.process_in.ensures.shape

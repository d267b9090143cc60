use Rattle.std.proofs.Common.{ap, ◌∙◌, rules, length, List, []}
use lib.Ieee.{Float}
use Rattle.tables.proofs.Tables.{ln_table_length, f_table_length}
use Rattle.masker.proofs.work.Work.mask_by.Goals as goal

pub mask_by-requires-clause-sized : goal.mask_by-requires-clause-sized
mask_by-requires-clause-sized c =
    let T = c.requires.tables [] c.requires.serves in
    record {
      ln = ap (λ (l : List Float). length l) T.0 ∙ ln_table_length _;
      f = ap (λ (l : List Float). length l) T.1 ∙ f_table_length _ _ _;
      codes = search rules;
      queue = search rules;
      window_counts = search rules;
      scan_counts = search rules;
      candidates = search rules;
      reverse_codes = search rules;
      forward_list = search rules;
      reverse_list = search rules;
      list = search rules;
      marks = search rules;
    }

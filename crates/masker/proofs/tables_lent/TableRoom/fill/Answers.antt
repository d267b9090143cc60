-- Each buffer has the size of what is written.
use Rattle.std.proofs.Common.{ℕ, List, ◌≡◌, ◌+◌, ◌∙◌, sym, ap, length, rules}
use lib.Seq.{take_at}
use Rattle.letters.specs.Code.{codes}
use Rattle.letters.proofs.Codes.{codes_length}
use Rattle.tables.specs.Density.{density}
use Rattle.tables.specs.Tables.{ln_table, f_table}
use Rattle.tables.proofs.Tables.{ln_table_length, f_table_length}
use Rattle.masker.proofs.Called.{put_all}
use Rattle.masker.proofs.tables_lent.TableRoom.fill.Goals as goal

pub returns-clause-ln : goal.returns-clause-ln
returns-clause-ln c =
    let w = c.args.options.window_size in
    let a : length c.fill_tables.new.ln ≡ c.resize-2.new.self.len = search rules in
    let l : length c.as_mut_slice-2.result.now ≡ w + 1 = search rules in
    take_at _ _ _ a ∙ c.fill_tables.ensures.ln_after ∙ put_all (ln_table w) _ (ln_table_length w ∙ sym l)

pub returns-clause-f : goal.returns-clause-f
returns-clause-f c =
    let o = c.args.options in
    let s = c.args.letters.now in
    let a : length c.fill_tables.new.f ≡ c.resize-3.new.self.len = search rules in
    let l : length c.as_mut_slice-3.result.now ≡ o.window_size + 2 = search rules in
    let b : length c.encode_sequence.new.encoded ≡ c.resize.new.self.len = search rules in
    let m : length c.as_mut_slice.result.now ≡ length s = search rules in
    let cs : c.as_slice.result.now ≡ codes s = c.as_slice.ensures.value ∙ take_at _ _ _ b ∙ c.encode_sequence.ensures ∙ put_all (codes s) _ (codes_length s ∙ sym m) in
    take_at _ _ _ a ∙ c.fill_tables.ensures.f_after
    ∙ put_all (f_table o.kmer o.window_size (density o.kmer o.gc c.as_slice.result.now)) _ (f_table_length o.kmer o.window_size (density o.kmer o.gc c.as_slice.result.now) ∙ sym l)
    ∙ ap (λ (l : List ℕ). f_table o.kmer o.window_size (density o.kmer o.gc l)) cs

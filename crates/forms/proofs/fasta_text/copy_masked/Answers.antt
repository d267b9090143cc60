use Rattle.std.proofs.Common.{◌≡◌, length, ◌∙◌, rules}
use lib.Seq.{take_at}
use Rattle.masked_copy.proofs.Copying.{copy_length}
use Rattle.forms.proofs.Runs.{put_whole}
use Rattle.forms.proofs.fasta_text.copy_masked.Goals as goal

pub returns-in-Ok : goal.returns-in-Ok
returns-in-Ok c =
    let a : length c.masked_copy.new.copy ≡ c.resize.new.self.len = search rules in
    let b : length c.args.letters.now ≡ length c.as_mut_slice.result.now = search rules in
    take_at _ _ _ a ∙ c.in-Ok.ensures.ok ∙ put_whole _ _ (copy_length c.args.masking c.args.list.now c.args.letters.now ∙ b)

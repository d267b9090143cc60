use Rattle.std.proofs.Common.{◌≡◌, ◌*◌, length, sym, ◌∙◌, rules}
use lib.Seq.{take_at}
use Rattle.buffers.proofs.Filling.{put_all}
use Rattle.small.proofs.Bytes.{bytes_length}
use Rattle.strands.proofs.bytes.encode_list.Goals as goal

pub returns : goal.returns
returns c =
    let l : length c.as_mut_slice.result.now ≡ 8 * length c.args.list.now = search rules in
    let a : length c.write_list.new.out ≡ c.resize.new.self.len = search rules in
    take_at _ _ _ a ∙ c.write_list.ensures ∙ put_all _ _ (l ∙ sym (bytes_length c.args.list.now))

use Rattle.std.proofs.Common.{ℕ, List, ap, take, length, ◌^◌, ◌∙◌}
use lib.Seq.{take_at}
use Rattle.letters.specs.Code.{codes}
use Rattle.letters.specs.Place.{places}
use Rattle.letters.proofs.Codes.{codes_length}
use Rattle.ranking.specs.Kmers.{largest_count}
use Rattle.ranking.proofs.kmers.most_frequent.Goals as goal

pub returns : goal.returns
returns c =
    let s = c.args.letters.now in
    c.count_kmers.ensures
    ∙ ap (λ (cs : List ℕ). largest_count (4 ^ c.args.k) (places c.args.k cs))
    (ap (λ (l : List ℕ). take (length s) l) c.encode_sequence.ensures ∙ take_at (codes s) _ (length s) (codes_length s))

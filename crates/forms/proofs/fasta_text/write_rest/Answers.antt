use Rattle.std.proofs.Common.{◌≡◌, ◌<◌, ℕ, List, length, sym, subst, rules}
use Rattle.std.specs.Io.KnownBytes.{Appends}
use Rattle.std.proofs.KnownBytes.{Appends-nil}
use Rattle.entries.proofs.Sending.{sent_as}
use Rattle.forms.proofs.Runs.{rest_none, rest_line}
use Rattle.forms.proofs.fasta_text.write_rest.Goals as goal

pub returns-then-is_empty : goal.returns-then-is_empty
returns-then-is_empty g c =
    let none : length c.args.rest.now ≡ 0 = search rules in
    subst (λ (l : List ℕ). Appends (g.W.Write.contents c.args.out.now) (g.W.Write.contents c.args.out.now) l) (sym (rest_none c.args.rest.now none)) (Appends-nil _)

pub returns : goal.returns
returns g c =
    let some : 0 < length c.args.rest.now = search rules in
    sent_as _ _ _ _ c.write_line.result (sym (rest_line c.args.rest.now some)) c.write_line.ensures

use Rattle.std.proofs.Common.{◌≡◌, ◌<◌, ℕ, List, length, ap, rules}
use Rattle.fasta.specs.Lines.{name_of}
use Rattle.entries.proofs.Steps.{entry_read}
use Rattle.entries.proofs.reading.next_entry.Goals as goal

pub returns-in-Ok : goal.returns-in-Ok
returns-in-Ok g c =
    let is : length c.name.result.now ≡ length (name_of c.find_header.new.line.items) = ap (λ (l : List ℕ). length l) c.name.ensures in
    let some : 0 < length (name_of c.find_header.new.line.items) = search rules in
    entry_read c.args.cr _ _ _ (rw c.if-not-branch.false at c.in_ok-find_header.ensures) _ _ _ some c.in-Ok.ensures
